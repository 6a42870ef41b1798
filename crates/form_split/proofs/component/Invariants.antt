use Rattle.sets.specs.Sets.{union, count}
use Rattle.form_split.proofs.Grow.{Growing}
use Rattle.form_split.proofs.component.Given as goal

abbrev pub invariant-loop-todo : goal.invariant-loop-todo
invariant-loop-todo l = Growing l.order.after.now l.k l.set l.x l.left l.todo

abbrev pub decreases-loop-todo : goal.decreases-loop-todo
decreases-loop-todo l = count (union l.left l.todo)
