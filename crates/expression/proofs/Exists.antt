-- T2: an order without an N has a house form: `form_of` of any ascending list of goals.
use mathlib.Core.Path.{◌≡◌, refl, sym, ap, ◌∙◌, subst}
use mathlib.Core.Bool.{Bool, true, true≢false}
use mathlib.Core.List.{List, [], ◌∷◌}
use mathlib.Core.Logic.{◌⊎◌, inl, inr, ⊎_elim, ◌↔◌}
use Prim.Native.Nat.{ℕ, zero, suc, ◌+◌, ◌≤◌, ◌<◌}
use native.Mathlib.Nat.{eq-or-lt_of_le}
use native.Mathlib.Omega.{arith}
use Rattle.expression.specs.Expr.{Expr, goal, House, Goals, NoN, Order}
use Rattle.expression.specs.Form.{insert, chosen, up_from, build, form_of, form_on}
use Rattle.expression.proofs.Fits.{In, Fits}
use Rattle.logic.proofs.Bools.{by_test}
use Rattle.expression.proofs.Suits.{no_back}
use Rattle.expression.proofs.Insert.{inserted}

-- e is a house form that uses each goal of the set P once and no other, and induces R
pub record Form (R : ℕ → ℕ → Bool) (P : ℕ → Type 0) (e : Expr) : Type 0 where
  pub covers : (i : ℕ) → In i e ↔ P i
  pub fits : Fits R e
  pub house : House e

-- a form over a set is one over the same set said otherwise
pub form-set : {R : ℕ → ℕ → Bool} {P Q : ℕ → Type 0} {e : Expr} → ((i : ℕ) → P i ↔ Q i) → Form R P e → Form R Q e
form-set s f = record { covers = λ i. (λ h. (s i).0 ((f.covers i).0 h), λ h. (f.covers i).1 ((s i).1 h)); fits = f.fits; house = f.house }

-- ---- ascending lists
abbrev pub Member : ℕ → List ℕ → Type 0
Member i [] = ⊥
Member i (x ∷ l) = (i ≡ x) ⊎ Member i l

-- each number of the list is larger than g and than those before it
abbrev pub Above : ℕ → List ℕ → Type 0
Above g [] = Unit {0}
Above g (x ∷ l) = (g < x) × Above x l

-- ---- one goal after another
module _ (R : ℕ → ℕ → Bool) (S : ℕ → Type 0) (o : Order R S) (none : NoN R S) where
  -- g is the largest goal of e
  build-form : (l : List ℕ) (P : ℕ → Type 0) (e : Expr) (g : ℕ) → Form R P e → ((i : ℕ) → P i → S i × (i ≤ g)) → Above g l → ((i : ℕ) → Member i l → S i)
      → Form R (λ i. P i ⊎ Member i l) (build R e l)
  build-form [] P e g f b a m = form-set (λ i. (inl, ⊎_elim (λ h. h) (λ h. absurd h))) f
  build-form (x ∷ l) P e g f b a m =
      let c = inserted R S o none x (m x (inl refl)) e f.fits f.house
      (λ i h. let t = b i ((f.covers i).0 h) in (t.0, omega (arith, t.1, a.0))) in
      let f' : Form R (λ i. P i ⊎ (i ≡ x)) (insert R x e)
      = record {
        covers =
            λ i. (
              (λ h. ⊎_elim (λ r. inl ((f.covers i).0 r)) inr ((c.covers i).0 h)),
              λ h. (c.covers i).1 (⊎_elim (λ r. inl ((f.covers i).1 r)) inr h),
            );
        fits = c.fits;
        house = c.house;
      } in
      form-set
      (λ i. (⊎_elim (⊎_elim inl (λ s. inr (inl s))) (λ s. inr (inr s)), ⊎_elim (λ s. inl (inl s)) (⊎_elim (λ s. inl (inr s)) inr)))
      (build-form l (λ i. P i ⊎ (i ≡ x)) (insert R x e) x f'
      (λ i. ⊎_elim (λ h. let t = b i h in (t.0, omega (arith, t.1, a.0))) (λ h. (subst S (sym h) (m x (inl refl)), omega arith)))
      a.1 (λ i h. m i (inr h)))

  pub form_of_lem : (g : ℕ) (l : List ℕ) → Above g l → ((i : ℕ) → Member i (g ∷ l) → S i) → Form R (λ i. Member i (g ∷ l)) (form_of R (g ∷ l))
  form_of_lem g l a m =
      build-form l (λ i. i ≡ g) (goal g) g
      (record { covers = λ i. (λ h. h, λ h. h); fits = no_back R S o (m g (inl refl)) (m g (inl refl)) (omega arith); house = tt })
      (λ i h. (m i (inl h), omega arith)) a (λ i h. m i (inr h))

-- ---- a set of goals, by a test
below_above : (g x : ℕ) (l : List ℕ) → g < x → Above x l → Above g l
below_above g x [] h a = tt
below_above g x (y ∷ l) h a = (omega (arith, h, a.0), a.1)

module _ (p : ℕ → Bool) where
  above_chosen : (g : ℕ) (l : List ℕ) → Above g l → Above g (chosen p l)
  above_chosen g [] a = tt
  above_chosen g (x ∷ l) a =
      by_test (Above g) (p x) (λ t. (a.0, above_chosen x l a.1)) (λ t. above_chosen g l (below_above g x l a.0 a.1))

  pub chosen_member : (l : List ℕ) (i : ℕ) → Member i (chosen p l) → Member i l × (p i ≡ true)
  chosen_member [] i h = absurd h
  chosen_member (x ∷ l) i h =
      by_test (λ z. Member i z → Member i (x ∷ l) × (p i ≡ true)) (p x)
      (λ t. ⊎_elim (λ e. (inl e, ap p e ∙ t)) (λ g. let r = chosen_member l i g in (inr r.0, r.1)))
      (λ t g. let r = chosen_member l i g in (inr r.0, r.1))
      h

  pub member_chosen : (l : List ℕ) (i : ℕ) → Member i l → p i ≡ true → Member i (chosen p l)
  member_chosen [] i h g = absurd h
  member_chosen (x ∷ l) i h g =
      by_test (Member i) (p x)
      (λ t. ⊎_elim inl (λ m. inr (member_chosen l i m g)) h)
      (λ t. ⊎_elim (λ e. absurd (true≢false (sym g ∙ ap p e ∙ t))) (λ m. member_chosen l i m g) h)

pub member_up : (c a i : ℕ) → Member i (up_from a c) → (a ≤ i) × (i < a + c)
member_up zero a i h = absurd h
member_up (suc c) a i (inl h) = (omega arith, omega arith)
member_up (suc c) a i (inr h) = let t = member_up c (suc a) i h in (omega arith, omega arith)

pub up_member : (c a i : ℕ) → a ≤ i → i < a + c → Member i (up_from a c)
up_member zero a i h g = omega arith
up_member (suc c) a i h g = ⊎_elim (λ t. inl (sym t)) (λ t. inr (up_member c (suc a) i t (omega arith))) (eq-or-lt_of_le h)

above_up : (c a g : ℕ) → g < a → Above g (up_from a c)
above_up zero a g h = tt
above_up (suc c) a g h = (h, above_up c (suc a) a (omega arith))

-- of a list that has a member the form is as said
form_list_lem : (R : ℕ → ℕ → Bool) (S : ℕ → Type 0) → Order R S → NoN R S → (l : List ℕ) → Above 0 l → ((i : ℕ) → Member i l → S i) → (i : ℕ) → Member i l
    → Form R (λ i. Member i l) (form_of R l)
form_list_lem R S o none [] a m i h = absurd h
form_list_lem R S o none (g ∷ l) a m i h = form_of_lem R S o none g l a.1 m

pub chosen-goals : (n : ℕ) (p : ℕ → Bool) (i : ℕ) → Member i (chosen p (up_from 1 n)) ↔ (Goals n i × (p i ≡ true))
chosen-goals n p i = (
  (λ h. let r = chosen_member p (up_from 1 n) i h in let t = member_up n 1 i r.0 in ((t.0, omega (arith, t.1)), r.1)),
  (λ h. member_chosen p (up_from 1 n) i (up_member n 1 i h.0.0 (omega (arith, h.0.1))) h.1),
)

-- The form of a set of goals that is not empty, for any n and any test p.
pub form_on_lem : (R : ℕ → ℕ → Bool) (n : ℕ) → Order R (Goals n) → NoN R (Goals n) → (p : ℕ → Bool) → (i : ℕ) → Goals n i → p i ≡ true
    → Form R (λ i. Goals n i × (p i ≡ true)) (form_on R n p)
form_on_lem R n o none p i gi hi =
    form-set (chosen-goals n p)
    (form_list_lem R (Goals n) o none (chosen p (up_from 1 n)) (above_chosen p 0 (up_from 1 n) (above_up n 1 0 (omega arith))) (λ i h. ((chosen-goals n p i).0 h).0) i
    ((chosen-goals n p i).1 (gi, hi)))
