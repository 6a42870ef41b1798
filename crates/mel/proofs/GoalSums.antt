-- A sum over the goals p+1 to p+k, and the square of a number's distance from h.
use mathlib.Core.Path.{◌≡◌, ap, ap₂}
use mathlib.Core.Logic.{⊎_elim, dite}
use Prim.Native.Nat.{ℕ, zero, suc, ◌+◌, ◌-◌, ◌*◌, ◌≤◌, ◌<◌}
use native.Mathlib.Nat.{eq-or-lt_of_le}
use native.Mathlib.Decide.{dec_lt}
use native.Mathlib.Omega.{arith}

abbrev pub sum_from : ℕ → ℕ → (ℕ → ℕ) → ℕ
sum_from zero p f = 0
sum_from (suc k) p f = f (suc p) + sum_from k (suc p) f

pub sum_most : (k p : ℕ) (f : ℕ → ℕ) (c : ℕ) → ((g : ℕ) → f g ≤ c) → sum_from k p f ≤ k * c
sum_most zero p f c h = omega arith
sum_most (suc k) p f c h = omega (arith, h (suc p), sum_most k (suc p) f c h)

pub sum_mono : (k p : ℕ) (f f' : ℕ → ℕ) → ((g : ℕ) → p < g → g ≤ p + k → f g ≤ f' g) → sum_from k p f ≤ sum_from k p f'
sum_mono zero p f f' h = omega arith
sum_mono (suc k) p f f' h =
    omega (arith, h (suc p) (omega arith) (omega arith), sum_mono k (suc p) f f' (λ g a u. h g (omega arith) (omega arith)))

-- where only the term of goal c grows
pub sum_one : (k p : ℕ) (f f' : ℕ → ℕ) (c a b : ℕ) → p < c → c ≤ p + k → ((g : ℕ) → p < g → g ≤ p + k → (g ≡ c → ⊥) → f g ≤ f' g) → f c + a ≤ f' c + b
    → sum_from k p f + a ≤ sum_from k p f' + b
sum_one zero p f f' c a b l u h e = absurd (omega arith)
sum_one (suc k) p f f' c a b l u h e =
    ⊎_elim
    (λ s. omega (arith, e, ap f s, ap f' s, sum_mono k (suc p) f f' (λ g i j. h g (omega arith) (omega arith) (λ d. absurd (omega arith)))))
    (λ i. omega (arith, h (suc p) (omega arith) (omega arith) (λ d. absurd (omega arith)), sum_one k (suc p) f f' c a b i (omega arith) (λ g j v. h g (omega arith) (omega arith)) e))
    (eq-or-lt_of_le l)

pub distance : ℕ → ℕ → ℕ
distance h u = (u - h) * (u - h) + (h - u) * (h - u)

pub distance_zero : (h : ℕ) → distance h 0 ≡ h * h
unfolding distance
distance_zero h =
    let a : 0 - h ≡ 0 = omega arith in
    let b : h - 0 ≡ h = omega arith in
    omega (arith, ap₂ ◌*◌ a a, ap₂ ◌*◌ b b)

pub distance_suc : (h u : ℕ) → distance h (suc u) + 2 * h ≡ distance h u + 2 * u + 1
unfolding distance
distance_suc h u =
    dite (dec_lt u h)
    (λ l.
    let j = h - suc u in
    let a : suc u - h ≡ 0 = omega arith in
    let b : u - h ≡ 0 = omega arith in
    let c : h - u ≡ suc j = omega arith in
    let d : h ≡ suc (u + j) = omega arith in
    omega (arith, ap₂ ◌*◌ a a, ap₂ ◌*◌ b b, ap₂ ◌*◌ c c))
    (λ n.
    let j = u - h in
    let a : suc u - h ≡ suc j = omega arith in
    let b : h - u ≡ 0 = omega arith in
    let c : h - suc u ≡ 0 = omega arith in
    let d : u ≡ h + j = omega arith in
    omega (arith, ap₂ ◌*◌ a a, ap₂ ◌*◌ b b, ap₂ ◌*◌ c c))
