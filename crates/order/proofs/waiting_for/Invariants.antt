use mathlib.Core.Path.{◌≡◌}
use Rattle.sets.specs.Sets.{set_of}
use Rattle.order.proofs.Waiting.{united, waits_on}
use Rattle.order.proofs.waiting_for.Given as goal

abbrev pub invariant-loop-j : goal.invariant-loop-j
invariant-loop-j l =
    (l.ties ≡ united 64 l.c.sets l.c.grounds l.c.listed l.left l.j) × (l.found ≡ set_of l.j (waits_on 64 l.c.sets l.c.grounds l.c.listed l.left l.c.n))
