-- The rows of the listed pairs, and marking the pairs in them, one after the other. For any width.
use mathlib.Core.Path.{◌≡◌, refl, sym, ap, ap₂, ◌∙◌, subst}
use mathlib.Core.Bool.{Bool, true, false, ◌&&◌, ◌||◌, and_comm, or-false}
use mathlib.Core.List.{List}
use Prim.Native.Nat.{ℕ, ◌+◌, ◌^◌, ◌<◌}
use native.Mathlib.Decide.{ℕ_discrete}
use native.Mathlib.Numerals.{add-one}
use native.Mathlib.Omega.{arith}
use lib.Dec.{eqb}
use lib.ListN.{length, get_or, set, replicate, length-set, length-replicate, get_or-replicate}
use lib.Pow.{pow_pos}
use lib.Seq.{get_or-set_same, get_or-set_other}
use borrow.Author.Tests.{eq-eqb, ne_eqb}
use Rattle.logic.specs.Quantifiers.{some_below}
use Rattle.logic.specs.Table.{table}
use Rattle.logic.proofs.Table.{table-length, table_at, table_ext}
use Rattle.sets.specs.Sets.{has, union, single, set_of}
use Rattle.sets.proofs.Membership.{has-union, has-single, has_empty}
use Rattle.sets.proofs.Builder.{single_lt, union_lt, has-set_of_in, set_of_lt, set_of_ext}
use Rattle.record_fields.specs.Fields.{byte, pair_count, pair_at, listed}
use Rattle.clause.specs.Clause.{pair_rows}

-- ---- j joins row i

unfoldable pub put : List ℕ → ℕ → ℕ → List ℕ
put l i j = set l i (union (get_or l i 0) (single j))

-- rows of masks below 2 ^ w
abbrev Fits : ℕ → List ℕ → Type 0
Fits w l = (x : ℕ) → x < w → get_or l x 0 < 2 ^ w

put-length : (l : List ℕ) (i j : ℕ) → length (put l i j) ≡ length l
unfolding put
put-length l i j = length-set l i (union (get_or l i 0) (single j))

put-at : (l : List ℕ) (i j x : ℕ) → i < length l → (P : ℕ → Type 0) → P (get_or l x 0) → (x ≡ i → P (union (get_or l x 0) (single j))) → P (get_or (put l i j) x 0)
unfolding put
put-at l i j x h P p q = go (ℕ_discrete x i)
  where
    v : ℕ
    v = union (get_or l i 0) (single j)

    go : Dec (x ≡ i) → P (get_or (set l i v) x 0)
    go (yes e) = subst P (ap (λ (z : ℕ). union (get_or l z 0) (single j)) e ∙ sym (ap (λ (z : ℕ). get_or (set l i v) z 0) e ∙ get_or-set_same l i v 0 h)) (q e)
    go (no n) = subst P (sym (get_or-set_other l i x v 0 n)) p

put-fits : (w : ℕ) (l : List ℕ) (i j : ℕ) → i < length l → j < w → Fits w l → Fits w (put l i j)
put-fits w l i j h hj f x hx = put-at l i j x h (λ (m : ℕ). m < 2 ^ w) (f x hx) (λ e. union_lt w (get_or l x 0) (single j) (f x hx) (single_lt w j hj))

put_has : (l : List ℕ) (i j x y : ℕ) → i < length l → has (get_or (put l i j) x 0) y ≡ has (get_or l x 0) y || (eqb i x && eqb j y)
unfolding put
put_has l i j x y h = go (ℕ_discrete x i)
  where
    v : ℕ
    v = union (get_or l i 0) (single j)

    go : Dec (x ≡ i) → has (get_or (set l i v) x 0) y ≡ has (get_or l x 0) y || (eqb i x && eqb j y)
    go (yes e) =
        ap (λ (z : ℕ). has (get_or (set l i v) z 0) y) e ∙ ap (λ (z : ℕ). has z y) (get_or-set_same l i v 0 h) ∙ has-union (get_or l i 0) (single j) y
        ∙ ap₂ ◌||◌ (ap (λ (z : ℕ). has (get_or l z 0) y) (sym e)) (has-single j y ∙ sym (ap (λ (t : Bool). t && eqb j y) (eq-eqb i x (sym e))))
    go (no n) =
        ap (λ (z : ℕ). has z y) (get_or-set_other l i x v 0 n)
        ∙ sym (ap (λ (t : Bool). has (get_or l x 0) y || (t && eqb j y)) (ne_eqb i x (λ e. n (sym e))) ∙ or-false (has (get_or l x 0) y))

-- ---- the rows of the first k pairs

module _ (w : ℕ) (b : List ℕ) where
  abbrev pair_is : ℕ → ℕ → ℕ → Bool
  pair_is x y k = (eqb (byte b (pair_at b k)) x && eqb (byte b (pair_at b k + 1)) y) || (eqb (byte b (pair_at b k)) y && eqb (byte b (pair_at b k + 1)) x)

  abbrev within : ℕ → ℕ → ℕ → Bool
  within k x y = some_below k (pair_is x y)

  unfoldable pub rows_after : ℕ → List ℕ
  rows_after k = table w w (λ x. set_of w (within k x))

  abbrev Marks : ℕ → List ℕ → Type 0
  Marks k l = (x y : ℕ) → x < w → y < w → has (get_or l x 0) y ≡ within k x y

  rows_ext : (k : ℕ) (l : List ℕ) → length l ≡ w → Fits w l → Marks k l → l ≡ rows_after k
  unfolding rows_after
  rows_ext k l n f m =
      table_ext w w (λ x. set_of w (within k x)) l n (λ x hx hx₂. set_of_ext w (get_or l x 0) (within k x) (f x hx) (λ y hy. m x y hx hy))
      (λ x hx l₂. absurd (omega arith))

  rows_length : (k : ℕ) → length (rows_after k) ≡ w
  unfolding rows_after
  rows_length k = table-length w w (λ x. set_of w (within k x))

  rows_at : (k x : ℕ) → x < w → get_or (rows_after k) x 0 ≡ set_of w (within k x)
  unfolding rows_after
  rows_at k x h = table_at w w (λ x. set_of w (within k x)) x h h

  rows_fit : (k : ℕ) → Fits w (rows_after k)
  rows_fit k x h = subst (λ (m : ℕ). m < 2 ^ w) (sym (rows_at k x h)) (set_of_lt w (within k x))

  rows_mark : (k : ℕ) → Marks k (rows_after k)
  rows_mark k x y hx hy = ap (λ (m : ℕ). has m y) (rows_at k x hx) ∙ has-set_of_in w (within k x) y hy

  within_none : (x y : ℕ) → false ≡ within 0 x y
  unfolding some_below
  within_none x y = refl

  within_more : (k x y : ℕ) → within (k + 1) x y ≡ within k x y || pair_is x y k
  unfolding some_below
  within_more k x y = rw add-one

  pub rows_zero : replicate w 0 ≡ rows_after 0
  rows_zero =
      rows_ext 0 (replicate w 0) (length-replicate {A = ℕ} w 0) (λ x h. subst (λ (m : ℕ). m < 2 ^ w) (sym (get_or-replicate w x 0 0 h)) (pow_pos w))
      (λ x y hx hy. ap (λ (m : ℕ). has m y) (get_or-replicate w x 0 0 hx) ∙ has_empty y ∙ within_none x y)

  two_ways : (p q r s t : Bool) → (p || (q && r)) || (s && t) ≡ p || ((q && r) || (t && s))
  two_ways true q r s t = refl
  two_ways false q r s t = ap (λ (z : Bool). (q && r) || z) (and_comm s t)

  -- a pair of variables below w is marked in both its rows
  pub rows_more : (k i j : ℕ) (l : List ℕ) → i < w → j < w → i ≡ byte b (pair_at b k) → j ≡ byte b (pair_at b k + 1) → l ≡ rows_after k
      → put (put l i j) j i ≡ rows_after (k + 1)
  rows_more k i j l hi hj ei ej e =
      subst (λ (m : List ℕ). put (put m i j) j i ≡ rows_after (k + 1)) (sym e)
      (rows_ext (k + 1) (put (put r i j) j i) (put-length (put r i j) j i ∙ put-length r i j ∙ rows_length k)
      (put-fits w (put r i j) j i lj hi (put-fits w r i j li hj (rows_fit k)))
      (λ x y hx hy.
      put_has (put r i j) j i x y lj ∙ ap (λ (t : Bool). t || (eqb j x && eqb i y)) (put_has r i j x y li ∙ ap (λ (t : Bool). t || (eqb i x && eqb j y)) (rows_mark k x y hx hy))
      ∙ two_ways (within k x y) (eqb i x) (eqb j y) (eqb j x) (eqb i y) ∙ ap (λ (t : Bool). within k x y || t) (same x y) ∙ sym (within_more k x y)))
    where
      r : List ℕ
      r = rows_after k

      li : i < length r
      li = omega (arith, rows_length k)

      lj : j < length (put r i j)
      lj = omega (arith, rows_length k, put-length r i j)

      same : (x y : ℕ) → (eqb i x && eqb j y) || (eqb i y && eqb j x) ≡ pair_is x y k
      same x y = ap₂ (λ (p q : ℕ). (eqb p x && eqb q y) || (eqb p y && eqb q x)) ei ej

  -- the same as the loop has it, with row i at hand
  pub rows_turn : (k i j r x y : ℕ) (l : List ℕ) → i < w → j < w → i ≡ byte b (pair_at b k) → j ≡ byte b (pair_at b k + 1) → l ≡ rows_after k → r ≡ get_or l i 0
      → x ≡ union r (single j) → y ≡ union (get_or (set l i x) j 0) (single i) → set (set l i x) j y ≡ rows_after (k + 1)
  unfolding put
  rows_turn k i j r x y l hi hj ei ej e er ex ey =
      let one : set l i x ≡ put l i j = ap (set l i) (ex ∙ ap (λ (m : ℕ). union m (single j)) er) in
      ap (set (set l i x) j) ey ∙ ap (λ (m : List ℕ). put m j i) one ∙ rows_more k i j l hi hj ei ej e

  -- row i stays at hand when a later one is stored
  pub row_kept : (k i j x y : ℕ) (l : List ℕ) → i < w → i < j → l ≡ rows_after k → x ≡ get_or (set (set l i x) j y) i 0
  row_kept k i j x y l h lt e =
      sym (get_or-set_other (set l i x) j i y 0 (λ q. absurd (omega (arith, q))) ∙ get_or-set_same l i x 0 (omega (arith, ap length e, rows_length k)))

  pub rows_all : (k : ℕ) → k ≡ pair_count b → rows_after k ≡ pair_rows w b
  unfolding rows_after pair_rows listed
  rows_all k e = ap (λ (n : ℕ). table w w (λ x. set_of w (within n x))) e

  -- row x has y exactly if their pair is listed
  pub pair_at_lem : (x y : ℕ) → x < w → y < w → has (get_or (pair_rows w b) x 0) y ≡ listed b x y
  unfolding pair_rows
  pair_at_lem x y lx ly =
      ap (λ (m : ℕ). has m y) (table_at w w (λ k. set_of w (listed b k)) x lx lx) ∙ has-set_of_in w (listed b x) y ly
