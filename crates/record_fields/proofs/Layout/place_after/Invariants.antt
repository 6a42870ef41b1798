use Prim.Native.Nat.{◌≤◌, ◌*◌, ◌+◌}
use mathlib.Core.Path.{◌≡◌}
use Rattle.record_fields.specs.Fields as F
use Rattle.record_fields.proofs.Layout.place_after.Given as goal

abbrev pub invariant-loop : goal.invariant-loop
invariant-loop l =
    record { place : l.at ≡ F.place_after l.self.bytes.now l.counter; within : l.at ≤ F.header_size + (F.fixed_size + 255) * l.counter }
