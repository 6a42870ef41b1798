-- What the lowest number that passes a test is.
use mathlib.Core.Path.{◌≡◌, refl, sym, ap, ap₂, ◌∙◌}
use mathlib.Core.Bool.{Bool, true, false, cond, true≢false}
use mathlib.Core.Logic.{◌⊎◌, inl, inr, ⊎_elim}
use Prim.Native.Nat.{ℕ, zero, suc, ◌≤◌, ◌<◌}
use native.Mathlib.Nat.{eq-or-lt_of_le}
use native.Mathlib.Decide.{dec_lt}
use native.Mathlib.Omega.{arith}
use lib.Dec.{eqb}
use borrow.Author.Tests.{eqb-true, eqb-false}
use Rattle.logic.specs.Quantifiers.{lowest}
use Rattle.logic.proofs.Bools.{by_test}

module _ (p : ℕ → Bool) where
  -- g is the lowest that passes; or it is 0, and none of 1 to n does
  pub record Lowest (n g : ℕ) : Type 0 where
    pub inside : (1 ≤ g) × (g ≤ n)
    pub passes : p g ≡ true
    pub none_below : (i : ℕ) → 1 ≤ i → i < g → p i ≡ false

  pub record Nothing (n g : ℕ) : Type 0 where
    pub zero_is : g ≡ 0
    pub none : (i : ℕ) → (1 ≤ i) × (i ≤ n) → p i ≡ false

  pub lowest_is : (n : ℕ) → Lowest n (lowest p n) ⊎ Nothing n (lowest p n)
  unfolding lowest
  lowest_is zero = inr (record { zero_is = refl; none = λ i g. absurd (omega arith) })
  lowest_is (suc m) = go (lowest p m) (lowest_is m)
    where
      go : (r : ℕ) → Lowest m r ⊎ Nothing m r → Lowest (suc m) (cond (eqb r 0) (cond (p (suc m)) (suc m) 0) r) ⊎ Nothing (suc m) (cond (eqb r 0) (cond (p (suc m)) (suc m) 0) r)
      go r (inl l) =
          by_test (λ z. Lowest (suc m) z ⊎ Nothing (suc m) z) (eqb r 0) (λ e. let z = eqb-true r 0 e in absurd (omega (arith, l.inside.0)))
          (λ e. inl (record { inside = (l.inside.0, omega (arith, l.inside.1)); passes = l.passes; none_below = l.none_below }))
      go r (inr l) =
          by_test (λ z. Lowest (suc m) z ⊎ Nothing (suc m) z) (eqb r 0)
          (λ e.
          by_test (λ z. Lowest (suc m) z ⊎ Nothing (suc m) z) (p (suc m))
          (λ u. inl (record { inside = omega arith; passes = u; none_below = λ i a b. l.none i (a, omega arith) }))
          (λ u.
          inr
          (record {
            zero_is = refl;
            none = λ i g. ⊎_elim (λ (q : i ≡ suc m). ap p q ∙ u) (λ (q : i < suc m). l.none i (g.0, omega arith)) (eq-or-lt_of_le g.1);
          })))
          (λ e. absurd (eqb-false r 0 e l.zero_is))

  pub lowest_le : (n : ℕ) → lowest p n ≤ n
  lowest_le n = ⊎_elim (λ l. l.inside.1) (λ l. omega (arith, l.zero_is)) (lowest_is n)

  -- nothing else is the lowest
  pub lowest_of : (n g : ℕ) → (1 ≤ g) × (g ≤ n) → p g ≡ true → ((i : ℕ) → 1 ≤ i → i < g → p i ≡ false) → lowest p n ≡ g
  lowest_of n g a e f =
      ⊎_elim
      (λ l.
      pick (dec_lt (lowest p n) g) (λ q. true≢false (sym l.passes ∙ f (lowest p n) l.inside.0 q))
      (dec_lt g (lowest p n)) (λ q. true≢false (sym e ∙ l.none_below g a.0 q)))
      (λ l. absurd (true≢false (sym e ∙ l.none g a))) (lowest_is n)
    where
      pick : Dec (lowest p n < g) → (lowest p n < g → ⊥) → Dec (g < lowest p n) → (g < lowest p n → ⊥) → lowest p n ≡ g
      pick (yes l) no-l d no-r = absurd (no-l l)
      pick (no l) no-l (yes r) no-r = absurd (no-r r)
      pick (no l) no-l (no r) no-r = omega arith

  pub lowest-none : (n : ℕ) → ((i : ℕ) → (1 ≤ i) × (i ≤ n) → p i ≡ false) → lowest p n ≡ 0
  lowest-none n f = ⊎_elim (λ l. absurd (true≢false (sym l.passes ∙ f (lowest p n) l.inside))) (λ l. l.zero_is) (lowest_is n)

-- tests that agree have the same lowest number
pub lowest_cong : (p q : ℕ → Bool) (n : ℕ) → ((i : ℕ) → (1 ≤ i) × (i ≤ n) → p i ≡ q i) → lowest p n ≡ lowest q n
unfolding lowest
lowest_cong p q zero h = refl
lowest_cong p q (suc m) h =
    ap₂ (λ (r : ℕ) (b : Bool). cond (eqb r 0) (cond b (suc m) 0) r) (lowest_cong p q m (λ i a. h i (a.0, omega arith))) (h (suc m) (omega arith))
