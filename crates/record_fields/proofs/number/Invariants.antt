use Prim.Native.Nat.{◌<◌, ◌^◌}
use mathlib.Core.Path.{◌≡◌}
use Rattle.record_fields.specs.Fields as F
use Rattle.record_fields.proofs.number.Given as goal

abbrev pub invariant-loop-i : goal.invariant-loop-i
invariant-loop-i l = record { so_far : l.r ≡ F.number l.b l.at l.i; fits : l.r < 256 ^ l.i }
