-- Tests, sums and maxima over the goals 1 to n: what they say.
use mathlib.Core.Path.{◌≡◌, refl, sym, ap, subst}
use mathlib.Core.Bool.{Bool, true, false, cond}
use mathlib.Core.Logic.{◌⊎◌, ⊎_elim}
use Prim.Native.Nat.{ℕ, zero, suc, ◌+◌, ◌-◌, ◌≤◌, ◌<◌}
use native.Mathlib.Nat.{eq-or-lt_of_le}
use native.Mathlib.Omega.{arith}
use lib.Dec.{eqb}
use borrow.Author.Tests.{eq-eqb, ne_eqb}
use Rattle.schedule.specs.Range.{Goals, each, total, top}
use Rattle.logic.proofs.Quantifiers.{every_out, every_in, every-not}

-- ---- induction from below
pub strong : (P : ℕ → Type 0) → ((m : ℕ) → ((i : ℕ) → i < m → P i) → P m) → (m : ℕ) → P m
strong P f m = f m (below m)
  where
    below : (m : ℕ) (i : ℕ) → i < m → P i
    below = elim [ zero ↦ λ i l. absurd (omega arith) | suc (m → ih) ↦ λ i l. ⊎_elim (λ (e : i ≡ m). subst P (sym e) (f m ih)) (λ (q : i < m). ih i q) (eq-or-lt_of_le {n = i} {m = m} (omega arith)) ]

-- ---- each
module _ (p : ℕ → Bool) where
  pub each_at : (n i : ℕ) → each p n ≡ true → Goals n i → p i ≡ true
  each_at n zero h g = absurd (omega (arith, g.0))
  each_at n (suc i) h g = every_out n (λ i. p (suc i)) h i g.1

  pub each_all : (n : ℕ) → ((i : ℕ) → Goals n i → p i ≡ true) → each p n ≡ true
  each_all n f = every_in n (λ i. p (suc i)) (λ i l. f (suc i) (omega arith, l))

  pub each-not : (n : ℕ) → each p n ≡ false → (i : ℕ) × Goals n i × (p i ≡ false)
  each-not n h = let r = every-not n (λ i. p (suc i)) h in (suc r.0, (omega arith, r.1), r.2)

-- ---- sums
pub total-add : (f g : ℕ → ℕ) (n : ℕ) → total (λ i. f i + g i) n ≡ total f n + total g n
total-add f g zero = refl
total-add f g (suc m) = omega (arith, total-add f g m)

pub total_eq : (f g : ℕ → ℕ) (n : ℕ) → ((i : ℕ) → Goals n i → f i ≡ g i) → total f n ≡ total g n
total_eq f g zero h = refl
total_eq f g (suc m) h = omega (arith, total_eq f g m (λ i a. h i (a.0, omega arith)), h (suc m) (omega arith))

pub total-none : (f : ℕ → ℕ) (n : ℕ) → ((i : ℕ) → Goals n i → f i ≡ 0) → total f n ≡ 0
total-none f zero h = refl
total-none f (suc m) h = omega (arith, total-none f m (λ i a. h i (a.0, omega arith)), h (suc m) (omega arith))

-- the number of places of 1 to n at which g stands
pub same : (i g : ℕ) → i ≡ g → ◌≡◌ {A = ℕ} (cond (eqb i g) 1 0) 1
same i g e = ap (λ b. cond b 1 0) (eq-eqb i g e)

pub other : (i g : ℕ) → (i ≡ g → ⊥) → ◌≡◌ {A = ℕ} (cond (eqb i g) 1 0) 0
other i g e = ap (λ b. cond b 1 0) (ne_eqb i g e)

pub total-one : (n g : ℕ) → Goals n g → total (λ i. cond (eqb i g) 1 0) n ≡ 1
total-one zero g h = absurd (omega arith)
total-one (suc m) g h =
    ⊎_elim
    (λ (e : g ≡ suc m). omega (arith, total-none (λ i. cond (eqb i g) 1 0) m (λ i a. other i g (omega arith)), same (suc m) g (omega arith)))
    (λ (q : g < suc m). omega (arith, total-one m g (h.0, omega arith), other (suc m) g (omega arith)))
    (eq-or-lt_of_le h.1)

-- ---- maxima
module _ (f : ℕ → ℕ) where
  pub top_le : (n b : ℕ) → ((i : ℕ) → Goals n i → f i ≤ b) → top f n ≤ b
  top_le zero b h = omega arith
  top_le (suc m) b h = omega (arith, top_le m b (λ i a. h i (a.0, omega arith)), h (suc m) (omega arith))

  pub le_top : (n i : ℕ) → Goals n i → f i ≤ top f n
  le_top zero i g = absurd (omega arith)
  le_top (suc m) i g = ⊎_elim (λ (e : i ≡ suc m). omega (arith, ap f e)) (λ (q : i < suc m). omega (arith, le_top m i (g.0, omega arith))) (eq-or-lt_of_le g.1)

pub top_mono : (f g : ℕ → ℕ) (n : ℕ) → ((i : ℕ) → Goals n i → f i ≤ g i) → top f n ≤ top g n
top_mono f g n h = top_le f n (top g n) (λ i a. omega (arith, h i a, le_top g n i a))

-- Each value is 0 or falls, and one falls: the maximum falls.
pub top_falls : (f g : ℕ → ℕ) (n i : ℕ) → Goals n i → f i < g i → ((j : ℕ) → Goals n j → (f j ≡ 0) ⊎ (f j < g j)) → top f n < top g n
top_falls f g n i a l h =
    let b = le_top g n i a in
    let z : top f n ≤ top g n - 1 = top_le f n (top g n - 1) (λ j c. ⊎_elim (λ e. omega arith) (λ q. omega (arith, le_top g n j c)) (h j c)) in
    omega arith
