use mathlib.Core.Path.{ap, ap₂, ◌∙◌}
use mathlib.Core.Bool.{not}
use Prim.Native.Nat.{ℕ}
use native.Mathlib.Omega.{arith}
use lib.Dec.{eqb}
use Rattle.sets.specs.Sets.{union}
use Rattle.independence.proofs.ByHalves.{tied-halves}
use Rattle.independence.proofs.waits.Goals as goal

pub returns : goal.returns
returns c =
    ap (λ (m : ℕ). not (eqb m 0)) (c.union.ensures ∙ ap₂ union c.meet-low.ensures c.meet-high.ensures)
    ∙ tied-halves 32 c.args.ties c.args.later (omega arith) (omega arith)
