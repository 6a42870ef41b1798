-- Where stages start, and that they partition the goals in clause order.
use mathlib.Core.Path.{◌≡◌, refl, sym, ap, ap₂, ◌∙◌, subst}
use mathlib.Core.Logic.{⊎_elim}
use mathlib.Core.Bool.{Bool, true, false, not, ◌&&◌, cond, true≢false}
use mathlib.Core.List.{List, [], ◌∷◌, ◌++◌, append_assoc, append-nil}
use Prim.Native.Nat.{ℕ, zero, suc, ◌+◌, ◌-◌, ◌≤◌, ◌<◌, suc-le-suc, zero-le}
use native.Mathlib.Nat.{eq-or-lt_of_le, le_of_suc-le-suc, le_step, lt-suc_self, le_refl}
use native.Mathlib.Omega.{arith}
use lib.Dec.{eqb}
use borrow.Author.Tests.{eq-eqb, ne_eqb, eqb-false}
use Rattle.logic.proofs.Bools.{and_l, and_r, and_i, not-i, not_out, not-true, is_false}
use Rattle.logic.proofs.Quantifiers.{below_out, below_in}
use Rattle.sets.specs.Sets.{has}
use Rattle.mel_stages.specs.Mel.{Stage, goal, goals_from, occurs, first_in, boundary, largest, start, stages_to, stages}
use native.Mathlib.Decide.{dec_lt}
use Rattle.mel_stages.specs.Plain.{All, goals_of, Boundary, Sound}
use Rattle.mel_stages.proofs.Words.{occurs_out, occurs_in}

pub all_append : {A : Type 0} (P : A → Type 0) (a b : List A) → All P a → All P b → All P (a ++ b)
all_append P [] b p q = q
all_append P (x ∷ a) b p q = (p.0, all_append P a b p.1 q)

goals-append : (a b : List Stage) → goals_of (a ++ b) ≡ goals_of a ++ goals_of b
goals-append [] b = refl
goals-append (s ∷ a) b =
    ap (λ (t : List ℕ). goals_from (s.last - s.after) s.after ++ t) (goals-append a b)
    ∙ sym (append_assoc (goals_from (s.last - s.after) s.after) (goals_of a) (goals_of b))

from-two : (j k p : ℕ) → goals_from (j + k) p ≡ goals_from j p ++ goals_from k (p + j)
unfolding goals_from
from-two zero k p = let e : p + 0 ≡ p = omega arith in let f : 0 + k ≡ k = omega arith in rw (e, f)
from-two (suc j) k p =
    let e : p + suc j ≡ suc p + j = omega arith in
    let f : suc j + k ≡ suc (j + k) = omega arith in
    rw (e, f) (ap (λ (t : List ℕ). suc p ∷ t) (from-two j k (suc p)))

module _ (w head : ℕ) (sets : List ℕ) where
  -- no variable occurs again after the last goal
  boundary-last : (q : ℕ) → boundary w head sets q q ≡ false
  unfolding boundary
  boundary-last q =
      is_false (boundary w head sets q q) (λ e.
      let r = below_out w (λ x. first_in head sets q x && occurs sets q q x) e in
      let s = occurs_out sets q q r.x (and_r (first_in head sets q r.x) (occurs sets q q r.x) r.so) in
      absurd (omega (arith, s.above, s.upto)))

  largest_le : (q m : ℕ) → largest w head sets q m ≤ m
  unfolding largest
  largest_le q zero = zero-le
  largest_le q (suc m) = go (boundary w head sets q (suc m)) (largest_le q m)
    where
      go : (b : Bool) → largest w head sets q m ≤ m → cond b (suc m) (largest w head sets q m) ≤ suc m
      go true h = le_refl (suc m)
      go false h = le_step h

  -- a stage has a goal
  pub start_falls : (q : ℕ) → 0 < q → start w head sets q < q
  unfolding start largest
  start_falls zero h = absurd (omega arith)
  start_falls (suc q) h = rw (boundary-last (suc q)) (suc-le-suc (largest_le (suc q) q))

  -- p is 0 or a boundary
  largest-boundary : (q m : ℕ) → 0 < largest w head sets q m → boundary w head sets q (largest w head sets q m) ≡ true
  unfolding largest
  largest-boundary q zero h = absurd (omega arith)
  largest-boundary q (suc m) h = go (boundary w head sets q (suc m)) refl (largest-boundary q m) h
    where
      go : (b : Bool) → boundary w head sets q (suc m) ≡ b → (0 < largest w head sets q m → boundary w head sets q (largest w head sets q m) ≡ true)
          → 0 < cond b (suc m) (largest w head sets q m) → boundary w head sets q (cond b (suc m) (largest w head sets q m)) ≡ true
      go true e ih h = e
      go false e ih h = ih h

  pub start-boundary : (q : ℕ) → 0 < start w head sets q → boundary w head sets q (start w head sets q) ≡ true
  unfolding start
  start-boundary q h = largest-boundary q q h

  -- and no goal after it is one
  above_largest : (q m g : ℕ) → largest w head sets q m < g → g ≤ m → boundary w head sets q g ≡ false
  unfolding largest
  above_largest q zero g l u = absurd (omega arith)
  above_largest q (suc m) g l u = go (boundary w head sets q (suc m)) refl (λ a b. above_largest q m g a b) l
    where
      go : (b : Bool) → boundary w head sets q (suc m) ≡ b → (largest w head sets q m < g → g ≤ m → boundary w head sets q g ≡ false)
          → cond b (suc m) (largest w head sets q m) < g → boundary w head sets q g ≡ false
      go true e ih l = absurd (omega arith)
      go false e ih l = ⊎_elim (λ s. ap (boundary w head sets q) s ∙ e) (λ k. ih l (le_of_suc-le-suc k)) (eq-or-lt_of_le u)

  pub above_start : (q g : ℕ) → start w head sets q < g → g ≤ q → boundary w head sets q g ≡ false
  unfolding start
  above_start q g l u = above_largest q q g l u

  -- ---- the stages

  abbrev last_stage : ℕ → Stage
  last_stage q = record { after = start w head sets q; last = q }

  stages-any : (k j q : ℕ) → q ≤ k → q ≤ j → stages_to w head sets k q ≡ stages_to w head sets j q
  unfolding stages_to
  stages-any zero zero q a b = refl
  stages-any zero (suc j) q a b = let z : q ≡ 0 = omega arith in rw (eq-eqb q 0 z)
  stages-any (suc k) zero q a b = let z : q ≡ 0 = omega arith in rw (eq-eqb q 0 z)
  stages-any (suc k) (suc j) q a b = go (eqb q 0) refl (λ h. stages-any k j (start w head sets q) (omega (arith, start_falls q h)) (omega (arith, start_falls q h)))
    where
      go : (t : Bool) → eqb q 0 ≡ t → (0 < q → stages_to w head sets k (start w head sets q) ≡ stages_to w head sets j (start w head sets q))
          → cond t [] (stages_to w head sets k (start w head sets q) ++ (last_stage q ∷ [])) ≡ cond t [] (stages_to w head sets j (start w head sets q) ++ (last_stage q ∷ []))
      go true e f = refl
      go false e f = ap (λ (l : List Stage). l ++ (last_stage q ∷ [])) (f (omega (arith, eqb-false q 0 e)))

  pub stages-none : stages w head sets 0 ≡ []
  unfolding stages stages_to
  stages-none = refl

  -- the last stage goes after those of the goals before it
  pub stages-last : (q : ℕ) → 0 < q → stages w head sets q ≡ stages w head sets (start w head sets q) ++ (last_stage q ∷ [])
  unfolding stages stages_to
  stages-last zero h = absurd (omega arith)
  stages-last (suc q) h =
      let n : eqb (suc q) 0 ≡ false = ne_eqb (suc q) 0 (λ e. absurd (omega arith)) in
      let f = start_falls (suc q) h in
      rw n (ap (λ (l : List Stage). l ++ (last_stage (suc q) ∷ [])) (stages-any q (start w head sets (suc q)) (start w head sets (suc q)) (omega (arith, f)) (le_refl (start w head sets (suc q)))))

  -- an induction over the stages: q, then the goals before its last stage
  pub by_stages : (P : ℕ → Type 0) → P 0 → ((q : ℕ) → 0 < q → P (start w head sets q) → P q) → (q : ℕ) → P q
  by_stages P z s q = go (suc q) q (lt-suc_self q)
    where
      go : (k q : ℕ) → q < k → P q
      go zero q h = absurd (omega arith)
      go (suc k) zero h = z
      go (suc k) (suc q) h = s (suc q) (omega arith) (go k (start w head sets (suc q)) (omega (arith, start_falls (suc q) (omega arith))))

  -- the stages have the goals 1 to q, each once and in clause order
  pub partition : (q : ℕ) → goals_of (stages w head sets q) ≡ goals_from q 0
  partition =
      by_stages (λ q. goals_of (stages w head sets q) ≡ goals_from q 0) (ap goals_of stages-none ∙ from_zero) (λ q h ih.
      let p = start w head sets q in
      let f = start_falls q h in
      let e : p + (q - p) ≡ q = omega (arith, f) in
      let z : p ≡ 0 + p = omega arith in
      ap goals_of (stages-last q h) ∙ goals-append (stages w head sets p) (last_stage q ∷ [])
      ∙ ap₂ (λ (a b : List ℕ). a ++ b) ih (append-nil (goals_from (q - p) p))
      ∙ ap (λ (k : ℕ). goals_from p 0 ++ goals_from (q - p) k) z
      ∙ sym (from-two p (q - p) 0) ∙ ap (λ (k : ℕ). goals_from k 0) e)
    where
      from_zero : [] ≡ goals_from 0 0
      from_zero = unfold goals_from in refl
      -- ---- the same in plain words

module _ (w head : ℕ) (sets : List ℕ) where
  pub boundary_out : (q p : ℕ) → 0 < p → boundary w head sets q p ≡ true → Boundary w head sets q p
  unfolding boundary first_in
  boundary_out q p z h =
      let r = below_out w (λ x. first_in head sets p x && occurs sets p q x) h in
      let x = r.x in
      let H = has (goal sets p) x in
      let O = occurs sets 0 (p - 1) x in
      let f = and_l (H && not (has head x) && not O) (occurs sets p q x) r.so in
      let s = occurs_out sets p q x (and_r (H && not (has head x) && not O) (occurs sets p q x) r.so) in
      let e = and_l (H && not (has head x)) (not O) f in
      record {
        x = x;
        under = r.under;
        here = and_l H (not (has head x)) e;
        outside = not-true (has head x) (and_r H (not (has head x)) e);
        first = λ g a b. is_false (has (goal sets g) x) (λ t. not_out O (and_r (H && not (has head x)) (not O) f) (occurs_in sets 0 (p - 1) x g a (omega (arith, a, b)) t));
        again = s.g;
        after = s.above;
        upto = s.upto;
        there = s.so;
      }

  pub boundary_in : (q p : ℕ) → 0 < p → Boundary w head sets q p → boundary w head sets q p ≡ true
  unfolding boundary first_in
  boundary_in q p z k =
      let x = k.x in
      let H = has (goal sets p) x in
      let O = occurs sets 0 (p - 1) x in
      below_in w (λ x. first_in head sets p x && occurs sets p q x) x k.under
      (and_i (H && not (has head x) && not O) (occurs sets p q x)
      (and_i (H && not (has head x)) (not O) (and_i H (not (has head x)) k.here (ap not k.outside))
      (not-i O (λ t. let s = occurs_out sets 0 (p - 1) x t in true≢false (sym s.so ∙ k.first s.g s.above (omega (arith, z, s.upto))))))
      (occurs_in sets p q x k.again k.after k.upto k.there))

  -- "find the largest p such that ..; p is 0 if there is none"
  pub start_is_boundary : (q : ℕ) → 0 < start w head sets q → Boundary w head sets q (start w head sets q)
  start_is_boundary q h = boundary_out q (start w head sets q) h (start-boundary w head sets q h)

  pub start_is_largest : (q p : ℕ) → 0 < p → Boundary w head sets q p → p ≤ start w head sets q
  start_is_largest q p z k = go (dec_lt (start w head sets q) p)
    where
      go : Dec (start w head sets q < p) → p ≤ start w head sets q
      go (yes l) = absurd (true≢false (sym (boundary_in q p z k) ∙ above_start w head sets q p l (omega (arith, k.after, k.upto))))
      go (no n) = omega arith

  -- every stage is as the paper says
  pub stages_sound : (q : ℕ) → All (Sound w head sets) (stages w head sets q)
  stages_sound =
      by_stages w head sets (λ q. All (Sound w head sets) (stages w head sets q)) (subst (All (Sound w head sets)) (sym (stages-none w head sets)) tt) (λ q h ih.
      subst (All (Sound w head sets)) (sym (stages-last w head sets q h))
      (all_append (Sound w head sets) (stages w head sets (start w head sets q)) (record { after = start w head sets q; last = q } ∷ []) ih (
        record {
          some = start_falls w head sets q h;
          fresh = λ p a u k. absurd (omega (arith, a, start_is_largest q p (omega (arith, a)) k));
          longest = λ z. start_is_boundary q z;
        },
        tt,
      )))
