use mathlib.Core.Path.{◌≡◌, ap, ◌∙◌}
use Prim.Native.Nat.{ℕ, ◌-◌}
use native.Mathlib.Omega.{arith}
use lib.ListN.{take, drop}
use Rattle.case_lines.specs.Line.{up_to}
use Rattle.case_lines.proofs.Fields.{field_is}
use Rattle.case_lines.proofs.field.Goals as goal

pub returns : goal.returns
returns c =
    let l = c.args.s.now in
    let at = c.field_start-at.result in
    let e : c.find-end.result - at ≡ up_to 32 (drop at l) = omega (arith, c.find-end.ensures.value) in
    ap (λ (k : ℕ). take k (drop at l)) e ∙ field_is l c.args.k at c.field_start-at.ensures.s_value
