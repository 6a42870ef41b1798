use native.Mathlib.Omega.{arith}
use mathlib.Core.Path.{◌≡◌, refl, ap, ap₂, ◌∙◌}
use mathlib.Core.List.{List}
use Prim.Native.Nat.{ℕ, ◌*◌, ◌+◌, ◌-◌}
use lib.ListN.{length}
use Rattle.logic.specs.Table.{table}
use Rattle.logic.proofs.Table.{table-length}
use Rattle.graph.specs.Graph.{goals_of, rows_of}
use Rattle.graph.specs.declared.Graph.{Graph}
use Rattle.order.specs.Arrays.{wait_row, wait_rows}
use Rattle.order.proofs.Waits.{waits-none, waits-two, waits-last}
use Rattle.order.proofs.waits_of.Goals as goal

pub loop-k-init : goal.loop-k-init
loop-k-init c =
    let a = c.args.c.now in (
      ap (λ (x : Graph). x.n) c.empty-waits.ensures,
      ap (λ (x : Graph). x.rows) c.empty-waits.ensures ∙ waits-none 32 64 a.n a.sets a.grounds a.listed c.requires,
    )

pub put_two-requires : goal.put_two-requires
put_two-requires c = (omega arith, ap length c.loop-k.invariant.1 ∙ table-length 32 _ _)

pub loop-k-preserved : goal.loop-k-preserved
loop-k-preserved c =
    let l = c.loop-k in
    let a = c.args.c.now in
    let e : 2 * l.k + 2 ≡ 2 * (l.k + 1) = omega arith in (
      l.invariant.0,
      c.put_two.ensures
          ∙ waits-two 32 64 a.n a.sets a.grounds a.listed c.requires 32 _ _ c.put_ties.ensures.low_after
          c.put_ties.ensures.high_after (2 * l.k) _ _ _ (omega arith) refl refl l.invariant.1
          ∙ ap (λ (m : ℕ). table 32 a.n (λ i. wait_row 64 0 a.sets a.grounds a.listed m i)) e,
    )

pub put_two-requires-then-c-eq1 : goal.put_two-requires-then-c-eq1
put_two-requires-then-c-eq1 c = (omega arith, ap length c.loop-k.invariant.1 ∙ table-length 32 _ _)

pub returns-then-c-eq1 : goal.returns-then-c-eq1
unfolding wait_rows wait_row rows_of goals_of
returns-then-c-eq1 c =
    let l = c.loop-k in
    let a = c.args.c.now in
    let e : 2 * l.k ≡ a.n - 1 = omega arith in
    ap₂ (λ (x : ℕ) (y : List ℕ). record { n = x; rows = y }) l.invariant.0
    (c.put_two-then-c-eq1.ensures
    ∙ waits-last 32 64 a.n a.sets a.grounds a.listed c.requires 32 _ _ c.put_ties.ensures.low_after
    c.put_ties.ensures.high_after (a.n - 1) _ _ (omega arith) refl
    (l.invariant.1 ∙ ap (λ (m : ℕ). table 32 a.n (λ i. wait_row 64 0 a.sets a.grounds a.listed m i)) e))

pub returns-else-c-eq1 : goal.returns-else-c-eq1
unfolding wait_rows wait_row rows_of goals_of
returns-else-c-eq1 c =
    let l = c.loop-k in
    let a = c.args.c.now in
    let e : 2 * l.k ≡ a.n = omega arith in
    ap₂ (λ (x : ℕ) (y : List ℕ). record { n = x; rows = y }) l.invariant.0
    (l.invariant.1 ∙ ap (λ (m : ℕ). table 32 a.n (λ i. wait_row 64 0 a.sets a.grounds a.listed m i)) e)
