use Rattle.sets.specs.Sets.{count}
use Rattle.form_split.proofs.Starting.{Tried}
use Rattle.form_split.proofs.start.Given as goal

abbrev pub invariant-loop-before : goal.invariant-loop-before
invariant-loop-before l = Tried l.prior l.k l.rest 32 l.x l.before

abbrev pub decreases-loop-before : goal.decreases-loop-before
decreases-loop-before l = count l.before
