-- Laws of the texts of a stage's checks.
use mathlib.Core.Path.{◌≡◌, refl, sym, ap, ap₂, ◌∙◌}
use mathlib.Core.Logic.{inl, inr}
use mathlib.Core.Bool.{Bool, true}
use mathlib.Core.List.{List, [], ◌∷◌, ◌++◌, map, append_assoc}
use Prim.Native.Nat.{ℕ, ◌+◌}
use native.Mathlib.Omega.{arith}
use lib.ListN.{length, get_or, length-append}
use lib.Seq as Q
use Rattle.sets.specs.Sets.{members}
use Rattle.sets.proofs.Members.{In, in_members, members-none}
use Rattle.buffer.specs.Text.{only}
use Rattle.buffer.specs.Decimal.{decimal}
use Rattle.buffer.proofs.Writing.{join_step, join_none}
use Rattle.mel_stages.specs.Mel.{Check, Ground, Indep, check_text, checks_from}
use Rattle.mel_stages.specs.Masks.{goal_with, apart, partners, OwnGoals}
use Rattle.mel_checks.specs.CheckTexts.{item, grounds_text, row_text, pairs_of, pairs_text, rows_of, rows_text}

-- ---- checks, one after the other

pub checks-step : (more : Bool) (c : Check) (l : List Check) → checks_from more (c ∷ l) ≡ only more 44 ++ check_text c ++ checks_from true l
unfolding checks_from
checks-step more c l = join_step more 44 (check_text c) (map check_text l)

pub checks-none : (more : Bool) → checks_from more [] ≡ []
unfolding checks_from
checks-none more = join_none more 44

-- a check with the comma before it
pub item-step : (c : Check) (l : List Check) → checks_from true (c ∷ l) ≡ item c ++ checks_from true l
unfolding item only
item-step c l = checks-step true c l

pub checks-append : (a b : List Check) → checks_from true (a ++ b) ≡ checks_from true a ++ checks_from true b
checks-append [] b = rw (checks-none true)
checks-append (c ∷ a) b =
    item-step c (a ++ b)
    ∙ ap (λ (t : List ℕ). item c ++ t) (checks-append a b)
    ∙ sym (append_assoc (item c) (checks_from true a) (checks_from true b))
    ∙ ap (λ (t : List ℕ). t ++ checks_from true b) (sym (item-step c a))

-- ---- the steps of the loops

pub grounds_step : (w rest rest' x : ℕ) → members w rest ≡ x ∷ members w rest' → grounds_text w rest ≡ item (Ground x) ++ grounds_text w rest'
unfolding grounds_text
grounds_step w rest rest' x e = ap (λ (l : List ℕ). checks_from true (map Ground l)) e ∙ item-step (Ground x) (map Ground (members w rest'))

pub grounds_end : (w rest : ℕ) → members w rest ≡ [] → grounds_text w rest ≡ []
unfolding grounds_text
grounds_end w rest e = rw e (checks-none true)

pub row_step : (w x rest rest' y : ℕ) → members w rest ≡ y ∷ members w rest' → row_text w x rest ≡ item (Indep x y) ++ row_text w x rest'
unfolding row_text
row_step w x rest rest' y e = ap (λ (l : List ℕ). checks_from true (map (Indep x) l)) e ∙ item-step (Indep x y) (map (Indep x) (members w rest'))

pub row-end : (w x rest : ℕ) → members w rest ≡ [] → row_text w x rest ≡ []
unfolding row_text
row-end w x rest e = rw e (checks-none true)

module _ (w : ℕ) (own listed : List ℕ) (k : ℕ) where
  pub rows_step : (rest rest' x : ℕ) → members w rest ≡ x ∷ members w rest'
      → rows_text w own listed k rest ≡ row_text w x (apart k (get_or listed x 0) (get_or own x 0) x) ++ rows_text w own listed k rest'
  unfolding rows_text row_text rows_of
  rows_step rest rest' x e =
      ap (λ (l : List ℕ). checks_from true (rows_of w own listed k l)) e
      ∙ checks-append (map (Indep x) (members w (apart k (get_or listed x 0) (get_or own x 0) x))) (rows_of w own listed k (members w rest'))

  pub rows_end : (rest : ℕ) → members w rest ≡ [] → rows_text w own listed k rest ≡ []
  unfolding rows_text rows_of
  rows_end rest e = rw e (checks-none true)

module _ (w : ℕ) (sets listed : List ℕ) (p q k : ℕ) where
  pub pairs-none : k ≡ 0 → [] ≡ pairs_text w sets listed p q k k
  unfolding pairs_text pairs_of
  pairs-none e = sym (rw (e, members-none w) (checks-none true))

  -- the sets of the candidates' goals, found once
  same_rows : (own l : List ℕ) → ((x : ℕ) → In x l → get_or own x 0 ≡ goal_with sets p q x) → rows_of w own listed k l ≡ pairs_of w sets listed p q k l
  unfolding rows_of pairs_of partners
  same_rows own [] h = refl
  same_rows own (x ∷ l) h =
      ap₂ (λ (a : ℕ) (b : List Check). map (Indep x) (members w (apart k (get_or listed x 0) a x)) ++ b) (h x (inl refl)) (same_rows own l (λ y i. h y (inr i)))

  pub own_rows : (own : List ℕ) → OwnGoals w sets p q k own → rows_text w own listed k k ≡ pairs_text w sets listed p q k k
  unfolding rows_text pairs_text OwnGoals
  own_rows own h =
      ap (checks_from true) (same_rows own (members w k) (λ x i.
      let m = in_members w 0 k x i in
      h x (omega (arith, m.1)) m.2))

-- ---- the parts of a check, as the code writes them

pub ground-parts : (x : ℕ) → (44 ∷ 103 ∷ 114 ∷ 111 ∷ 117 ∷ 110 ∷ 100 ∷ 40 ∷ 118 ∷ []) ++ decimal x ++ (41 ∷ []) ≡ item (Ground x)
unfolding item check_text
ground-parts x = refl

pub ground-length : (x : ℕ) → length (item (Ground x)) ≡ 10 + length (decimal x)
ground-length x = omega (arith, simp length-append at (ap length (ground-parts x)))

pub indep_parts : (a b : ℕ) → (44 ∷ 105 ∷ 110 ∷ 100 ∷ 101 ∷ 112 ∷ 40 ∷ 118 ∷ []) ++ decimal a ++ (44 ∷ 118 ∷ []) ++ decimal b ++ (41 ∷ []) ≡ item (Indep a b)
unfolding item check_text
indep_parts a b = refl

-- with the digits of its numbers put into a text
pub indep_numbered : (l : List ℕ) (j a b : ℕ) {s t : List ℕ} → s ≡ decimal a → t ≡ decimal b
    → Q.sets (Q.sets l 8 s) j t ≡ (44 ∷ 105 ∷ 110 ∷ 100 ∷ 101 ∷ 112 ∷ 40 ∷ 118 ∷ []) ++ s ++ (44 ∷ 118 ∷ []) ++ t ++ (41 ∷ [])
    → Q.sets (Q.sets l 8 (decimal a)) j (decimal b) ≡ item (Indep a b)
indep_numbered l j a b e f h =
    ap₂ (λ (s t : List ℕ). Q.sets (Q.sets l 8 s) j t) (sym e) (sym f) ∙ h
    ∙ ap₂ (λ (s t : List ℕ). (44 ∷ 105 ∷ 110 ∷ 100 ∷ 101 ∷ 112 ∷ 40 ∷ 118 ∷ []) ++ s ++ (44 ∷ 118 ∷ []) ++ t ++ (41 ∷ [])) e f ∙ indep_parts a b

pub indep_length : (a b : ℕ) → length (item (Indep a b)) ≡ 11 + length (decimal a) + length (decimal b)
indep_length a b = omega (arith, simp length-append at (ap length (indep_parts a b)))
