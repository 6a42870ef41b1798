use native.Mathlib.Omega.{arith}
use mathlib.Core.Path.{◌≡◌, sym, ap, ◌∙◌}
use mathlib.Core.Bool.{Bool, true, false, cond}
use Rattle.graph_transpose.proofs.add.Goals.{then-has, else-has}
use Prim.Native.Nat.{ℕ}
use lib.ListN.{get_or}
use Rattle.sets.specs.Sets.{union}
use Rattle.logic.specs.Table.{table}
use Rattle.logic.proofs.Table.{table-zero, table_more}
use Rattle.graph_transpose.specs.Adding.{row_added, added}
use Rattle.graph_transpose.proofs.Turning.{added_none}
use Rattle.graph_transpose.proofs.add.Goals as goal

pub returns-then-to-eq0 : goal.returns-then-to-eq0
returns-then-to-eq0 c = added_none 32 _ _ _ c.told-rows c.if-to-eq0.true

pub loop-j-init : goal.loop-j-init
loop-j-init c = table-zero 32 _

pub loop-j-preserved : goal.loop-j-preserved
loop-j-preserved c =
    let l = c.loop-j in
    let a = c.args in
    let row = get_or a.rows.now l.j 0 in
    let is : (t : Bool) → c.has.result ≡ t → cond t (union row a.one) row ≡ row_added a.to a.one a.rows.now l.j =
    λ t e. ap (λ (t : Bool). cond t (union row a.one) row) (sym e ∙ c.has.ensures)
    in
    table_more 32 l.j _ l.next c.if-has.next (omega arith) l.invariant
    (elim c.if-has.branch [
      | then-has w ↦ w.next-is ∙ w.union.ensures ∙ is true w.if-has.true
      | else-has w ↦ w.next-is ∙ is false w.if-has.false
    ])

pub returns : goal.returns
unfolding added
returns c =
    let l = c.loop-j in
    let a = c.args in
    let end : l.j ≡ 32 = omega arith in
    l.invariant ∙ ap (λ (k : ℕ). table 32 k (row_added a.to a.one a.rows.now)) end
