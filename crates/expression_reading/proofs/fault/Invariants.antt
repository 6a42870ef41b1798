use Prim.Native.Nat.{◌-◌}
use lib.ListN.{length}
use Rattle.expression_reading.proofs.Scans.{Scanned}
use Rattle.expression_reading.proofs.fault.Given as goal

abbrev pub invariant-loop-at : goal.invariant-loop-at
invariant-loop-at l = Scanned l.n l.text l.at l.met

abbrev pub decreases-loop-at : goal.decreases-loop-at
decreases-loop-at l = length l.text - l.at
