use mathlib.Core.Path.{◌≡◌}
use Rattle.record_goals.specs.Text as T
use Rattle.record_goals.proofs.clean.Given as goal

abbrev pub invariant-loop-x : goal.invariant-loop-x
invariant-loop-x l = l.ok ≡ T.clean l.b l.from l.x-index
