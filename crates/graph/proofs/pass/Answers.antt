use mathlib.Core.Path.{◌≡◌, sym, ap, ◌∙◌, subst}
use mathlib.Core.List.{List}
use Prim.Native.Nat.{ℕ, ◌-◌, ◌<◌}
use native.Mathlib.Omega.{arith}
use Rattle.graph.specs.Graph.{ahead, rows_of}
use Rattle.graph.specs.Passes.{pass}
use Rattle.graph.specs.PassRows.{same_rows}
use Rattle.graph.proofs.Gathering.{pass-row, filled_none, filled_more, filled-all, Kept, kept_none, kept_more, kept_all, kept_still, same_whole}
use Rattle.graph.proofs.pass.Invariants.{row}
use Rattle.graph.proofs.pass.Goals as goal
use Rattle.graph.proofs.pass.Goals.{Joined-subset, After-loop-i, then-subset, else-subset}

pub loop-i-init : goal.loop-i-init
loop-i-init c = (filled_none 32 c.args.n _, kept_none c.args.n _ _)

pub joined_still-more-requires : goal.joined_still-more-requires
joined_still-more-requires c =
    let l = c.loop-i in (
      kept_still 32 c.args.n c.args.rows.now c.requires.0 c.requires.1 l.i l.still l.invariant.1,
      sym c.subset.ensures ∙ c.if-subset.true,
    )

-- either way it is the row of the pass
more-is : (c : Joined-subset) →
    c.if-subset.more ≡ row c.args.n c.args.rows.now (c.loop-i.i - 1)
more-is c =
    let l = c.loop-i in
    let n = c.args.n in
    let is = pass-row 32 n c.args.rows.now c.requires.0 c.requires.1 (l.i - 1) (omega arith) in
    elim c.if-subset.branch [
      | then-subset w ↦ w.more-is ∙ w.joined_still-more.ensures ∙ is
      | else-subset w ↦ w.more-is ∙ w.joined-more.ensures ∙ is
    ]

pub loop-i-preserved : goal.loop-i-preserved
loop-i-preserved c =
    let l = c.loop-i in
    let n = c.args.n in
    let rows = c.args.rows.now in
    let some : 0 < l.i = omega arith in
    let is = more-is (goal.at.loop-i-preserved c).Joined-subset in (
      filled_more 32 n (row n rows) l.i l.next c.if-subset.more c.requires.0 some (omega arith) l.invariant.0 is,
      subst (Kept n (row n rows) rows (l.i - 1)) (sym c.kept-still.ensures)
          (kept_more n (row n rows) rows l.i l.still c.if-subset.more some (omega arith) l.invariant.1 is),
    )

-- at the loop's end: the rows apart are those of the pass, and the set is that of the rows that stay
module _ (c : After-loop-i) where
  abbrev n : ℕ
  n = c.args.n

  abbrev rows : List ℕ
  rows = c.args.rows.now

  end : c.loop-i.i ≡ 0
  end = omega arith

  new : c.loop-i.next ≡ rows_of 32 n (pass n (ahead rows))
  unfolding rows_of
  new = filled-all 32 n (row n rows) c.loop-i.i c.loop-i.next end c.loop-i.invariant.0

  stay : c.loop-i.still ≡ same_rows n rows c.loop-i.next
  stay =
      let l = c.loop-i in
      kept_all n (row n rows) rows l.next l.i l.still end l.invariant.1 (λ k b. l.invariant.0.done k (omega (arith, end)) b)

pub returns-then-still-below : goal.returns-then-still-below
returns-then-still-below c = (new c.before.before, stay c.before.before)

pub returns-else-still-below : goal.returns-else-still-below
unfolding rows_of
returns-else-still-below c =
    let none = sym (stay c.before.before) ∙ c.if-still-below.false ∙ c.below.ensures in
    let same = same_whole (n c.before.before) (rows c.before.before) c.loop-i.next 32 (row (n c.before.before) (rows c.before.before)) c.requires.1 (new c.before.before) none in
    (same ∙ new c.before.before, stay c.before.before ∙ ap (same_rows (n c.before.before) (rows c.before.before)) (sym same))
