use mathlib.Core.Path.{sym, ap, ◌∙◌, subst}
use Prim.Native.Nat.{◌+◌}
use native.Mathlib.Omega.{arith}
use Rattle.sets.specs.Sets.{has, union, single}
use Rattle.expression_reading.proofs.Scans.{Scanned, scanned_start, scanned_above, scanned_met, scanned_more, scanned_skip}
use Rattle.expression_reading.proofs.fault.Goals as goal
use Rattle.expression_reading.proofs.fault.Goals.{then-n-v-via-then-n-v, then-n-v-via-else-n-v+then-has}

pub loop-at-init : goal.loop-at-init
loop-at-init c = scanned_start _ _

pub returns-then-n-v : goal.returns-then-n-v
returns-then-n-v c =
    let l = c.loop-at in
    let digit = sym c.if-is_ascii_digit.ensures.value in
    let v = c.number_at-v.ensures in
    elim c.then-n-v.branch [ then-n-v-via-then-n-v w ↦ sym (scanned_above _ _ _ _ l.invariant c.loop-at-test.true digit (omega (arith, v, w.if-n-v.true))) | then-n-v-via-else-n-v+then-has w ↦ sym (scanned_met _ _ _ _ l.invariant c.loop-at-test.true digit (omega (arith, v, w.if-n-v.false)) (ap (λ z. has l.met z) (sym v) ∙ sym w.has.ensures ∙ w.if-has.true)) ]

pub loop-at-preserved-then-is_ascii_digit : goal.loop-at-preserved-then-is_ascii_digit
loop-at-preserved-then-is_ascii_digit c =
    let l = c.loop-at in
    let v = c.number_at-v.ensures in
    subst (λ z. Scanned c.args.n c.args.text.now (l.at + 2) z) (ap (λ z. union l.met z) (ap single (sym v) ∙ sym c.single.ensures) ∙ sym c.union-met.ensures)
    (scanned_more _ _ _ _ l.invariant c.loop-at-test.true (sym c.if-is_ascii_digit.ensures.value) (omega (arith, v, c.if-n-v.false)) (ap (λ z. has l.met z) (sym v) ∙ sym c.has.ensures ∙ c.if-has.false))

pub loop-at-preserved : goal.loop-at-preserved
loop-at-preserved c = scanned_skip _ _ _ _ c.loop-at.invariant c.loop-at-test.true (sym c.if-is_ascii_digit.ensures.value)
