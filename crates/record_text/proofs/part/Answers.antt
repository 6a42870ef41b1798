use mathlib.Core.Path.{◌≡◌, refl, ap₂, ◌∙◌}
use Prim.Native.Nat.{ℕ, ◌+◌, ◌-◌}
use native.Mathlib.Omega.{arith}
use lib.ListN.{take, drop}
use Rattle.record_text.proofs.Texts.{span_inside, span_is, none_is}
use Rattle.record_text.proofs.part.Goals as goal

pub overflow_add-e : goal.overflow_add-e
overflow_add-e c =
    let a = c.args in
    let e = span_is a.bytes.now a.goal _ c.find.ensures c.in-Ok.is in
    omega (arith, e.0, e.1, span_inside a.bytes.now a.goal)

pub slice_bounds-result-end : goal.slice_bounds-result-end
slice_bounds-result-end c =
    let a = c.args in
    let e = span_is a.bytes.now a.goal _ c.find.ensures c.in-Ok.is in
    omega (arith, e.0, e.1, span_inside a.bytes.now a.goal)

pub returns-in-Ok : goal.returns-in-Ok
returns-in-Ok c =
    let a = c.args in
    let s = c.in-Ok.s in
    let e = span_is a.bytes.now a.goal s c.find.ensures c.in-Ok.is in
    let n : (s.place + s.size) - s.place ≡ s.size = omega arith in
    record { block = refl; offset = omega (arith, e.0); bytes = ap₂ (λ (k l : ℕ). take k (drop l a.bytes.now)) (n ∙ e.1) e.0 }

pub returns-in-Err : goal.returns-in-Err
returns-in-Err c =
    let a = c.args in
    let e = none_is a.bytes.now a.goal _ c.find.ensures c.in-Err.is in
    record { block = refl; offset = omega (arith, e.0); bytes = ap₂ (λ (k l : ℕ). take k (drop l a.bytes.now)) e.1 e.0 }
