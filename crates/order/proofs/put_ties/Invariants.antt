use mathlib.Core.Path.{◌≡◌}
use Rattle.logic.specs.Table.{table}
use Rattle.order.specs.Arrays.{ties_at}
use Rattle.order.proofs.put_ties.Given as goal

abbrev pub invariant-loop-i : goal.invariant-loop-i
invariant-loop-i l =
    (l.low ≡ table 32 l.i (λ k. (ties_at 32 64 l.c.sets l.c.grounds l.c.listed k).low)) × (l.high ≡ table 32 l.i (λ k. (ties_at 32 64 l.c.sets l.c.grounds l.c.listed k).high))
