use native.Mathlib.Omega.{arith}
use mathlib.Core.Path.{◌≡◌, ap, ◌∙◌}
use Prim.Native.Nat.{◌+◌, ◌-◌}
use lib.ListN.{get_or}
use Rattle.sets.specs.Sets.{single}
use Rattle.order.specs.Arrays.{ties_in}
use Rattle.order.proofs.Waits.{putting_more, with_halves, two-earlier, two-all}
use Rattle.order.proofs.put_two.Goals as goal

pub loop-i-preserved : goal.loop-i-preserved
loop-i-preserved c =
    let l = c.loop-i in
    let a = c.args in
    let ties = ties_in 32 a.low.now a.high.now in
    let row = get_or l.rows l.i 0 in
    let one : a.j + 1 - 1 ≡ a.j = omega arith in
    let two : a.j + 2 - 1 ≡ a.j + 1 = omega arith in
    putting_more 32 _ _ l.i l.rows c.with.result (omega arith) l.invariant
    (with_halves 32 _ _ a.next (a.j + 1) c.with-row.result _ _ _ c.with.ensures c.waits-in-loop-i.ensures
    c.of-y.ensures (c.single-two.ensures ∙ ap single two)
    ∙ two-earlier 32 a.rows.now ties a.later a.next a.j l.i (omega arith) (omega arith) row _ (l.invariant.left l.i (omega arith))
    (with_halves 32 _ _ a.later a.j row _ _ _ c.with-row.ensures c.waits.ensures c.of-x.ensures
    (c.single-one.ensures ∙ ap single one)))

pub returns : goal.returns
returns c =
    let l = c.loop-i in
    let a = c.args in
    let ties = ties_in 32 a.low.now a.high.now in
    let two : a.j + 2 - 1 ≡ a.j + 1 = omega arith in
    two-all 32 a.rows.now ties a.later a.next a.j l.i l.rows c.with-2.result (omega arith) (omega arith) (omega arith) l.invariant
    (with_halves 32 _ _ a.next (a.j + 1) (get_or l.rows a.j 0) _ _ _ c.with-2.ensures c.waits-2.ensures c.of-y.ensures
    (c.single-two.ensures ∙ ap single two))
