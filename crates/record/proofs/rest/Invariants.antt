use Prim.Native.Nat.{◌≤◌, ◌*◌, ◌+◌}
use mathlib.Core.Path.{◌≡◌}
use Rattle.std.specs.Prelude.{Ok}
use Rattle.record_fields.specs.Fields as F
use Rattle.record_rules.specs.Reading as R
use Rattle.record_rules.proofs.Fine.{At}
use Rattle.record.proofs.rest.Given as goal

abbrev pub invariant-loop : goal.invariant-loop
invariant-loop l =
    record {
      fine : R.goals l.layout.bytes.now l.counter (Ok tt) ≡ Ok tt;
      here : At l.layout.bytes.now l.counter l.at l.before l.met;
      small : l.at ≤ F.header_size + (F.fixed_size + 255) * l.counter;
    }
