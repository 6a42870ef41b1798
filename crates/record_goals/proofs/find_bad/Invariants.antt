use Prim.Native.Nat.{◌-◌}
use mathlib.Core.Path.{◌≡◌}
use Rattle.record_rules.specs.Reading as R
use Rattle.record_goals.proofs.find_bad.Given as goal

abbrev pub invariant-loop-at : goal.invariant-loop-at
invariant-loop-at l = R.first_bad l.b l.from l.k ≡ R.first_bad l.b l.at (l.end - l.at)
