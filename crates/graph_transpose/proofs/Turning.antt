-- How a loop over the goals turns the rows round.
use mathlib.Core.Path.{◌≡◌, sym, ap, ap₂, ◌∙◌}
use mathlib.Core.Bool.{Bool, cond}
use mathlib.Core.List.{List}
use Prim.Native.Nat.{ℕ, ◌+◌, ◌≤◌}
use native.Mathlib.Numerals.{add-one}
use native.Mathlib.Omega.{arith}
use lib.Dec.{ltb}
use lib.ListN.{length, get_or, replicate, length-replicate, get_or-replicate}
use Rattle.logic.specs.Table.{table}
use Rattle.logic.proofs.Bools.{and_r, is_false}
use Rattle.logic.proofs.Table.{table-length, table_at, table_ext, table_cong}
use Rattle.sets.specs.Sets.{has, union, single, set_of}
use Rattle.sets.proofs.Membership.{has_empty, none_empty}
use Rattle.sets.proofs.Builder.{has-set_of, set_of_more}
use Rattle.graph.specs.Graph.{ahead, goals_of, rows_of, Within, transposed}
use Rattle.graph.proofs.Rows.{row_out}
use Rattle.graph_transpose.specs.Adding.{row_added, added}

-- nothing is added to the rows of no goal
pub added_none : (w to one : ℕ) (rows : List ℕ) → length rows ≡ w → to ≡ 0 → rows ≡ added w to one rows
unfolding added
added_none w to one rows s z =
    table_ext w w (row_added to one rows) rows s
    (λ j b l. sym (ap (λ (t : Bool). cond t (union (get_or rows j 0) one) (get_or rows j 0)) (ap (λ (m : ℕ). has m j) z ∙ has_empty j)))
    (λ j b l. absurd (omega arith))

module _ (w : ℕ) (rows : List ℕ) where
  -- those of the first i goals that are before goal j + 1
  abbrev pub before : ℕ → ℕ → ℕ
  before i j = set_of i (λ k. has (get_or rows k 0) j)

  -- the edges that leave the first i goals are turned round
  abbrev pub Turned : ℕ → List ℕ → Type 0
  Turned i now = now ≡ table w w (before i)

  pub turned_none : Turned 0 (replicate w 0)
  unfolding set_of
  turned_none =
      table_ext w w (before 0) (replicate w 0) (length-replicate {A = ℕ} w 0) (λ j b l. get_or-replicate {A = ℕ} w j 0 0 b) (λ j b l. absurd (omega arith))

  pub turned_more : (i : ℕ) (now next : List ℕ) (one : ℕ) → Turned i now → one ≡ single i → next ≡ added w (get_or rows i 0) one now → Turned (i + 1) next
  unfolding added
  turned_more i now next one h e q =
      q
      ∙ table_cong w w (row_added (get_or rows i 0) one now) (before (i + 1))
      (λ j b.
      ap₂ (λ (r m : ℕ). cond (has (get_or rows i 0) j) (union r m) r) (ap (λ (l : List ℕ). get_or l j 0) h ∙ table_at w w (before i) j b b) e
      ∙ sym (ap (λ (k : ℕ). before k j) (add-one i) ∙ set_of_more i (λ k. has (get_or rows k 0) j)))

  pub turned-all : (n : ℕ) (now : List ℕ) → n ≤ w → Within w n rows → Turned n now → now ≡ transposed w n rows
  unfolding transposed rows_of goals_of
  turned-all n now few within h =
      h
      ∙ table_ext w n (before n) (table w w (before n)) (table-length w w (before n)) (λ j b l. table_at w w (before n) j b b)
      (λ j b l. table_at w w (before n) j b b ∙ past j l)
    where
      past : (j : ℕ) → n ≤ j → before n j ≡ 0
      past j l =
          none_empty (before n j)
          (λ k.
          is_false (has (before n j) k)
          (λ e.
          let m = and_r (ltb k n) (has (get_or rows k 0) j) (sym (has-set_of n (λ k. has (get_or rows k 0) j) k) ∙ e) in
          let out = row_out w n (ahead rows) k j few (ap (λ (r : List ℕ). has (get_or r k 0) j) (sym within) ∙ m) in
          absurd (omega (arith, out.1))))
