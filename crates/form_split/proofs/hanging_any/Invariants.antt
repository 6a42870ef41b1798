use Rattle.sets.specs.Sets.{members}
use Rattle.form_split.proofs.Grow.{Finding}
use Rattle.form_split.proofs.hanging_any.Given as goal

abbrev pub invariant-loop-i : goal.invariant-loop-i
invariant-loop-i l = Finding 32 l.order.after.now l.order.prior.now l.k l.left l.set l.all (members 32 l.i-iterator.rest)
