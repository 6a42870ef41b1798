use mathlib.Core.Path.{◌≡◌}
use Prim.Native.Nat.{◌*◌}
use Rattle.logic.specs.Table.{table}
use Rattle.order.specs.Arrays.{wait_row}
use Rattle.order.proofs.waits_of.Given as goal

abbrev pub invariant-loop-k : goal.invariant-loop-k
invariant-loop-k l =
    (l.waits.n ≡ l.c.n) × (l.waits.rows ≡ table 32 l.c.n (λ i. wait_row 64 0 l.c.sets l.c.grounds l.c.listed (2 * l.k) i))
