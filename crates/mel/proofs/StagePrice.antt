-- The numbers behind the limit. Twice the bytes of the checks of a stage of k goals, before which m variables were met, are at most 9375 * k + extra m, 9375 = 15 * 25 * 25.
-- Each stage has met more variables than the one before it, so each `extra m` is paid once. Of all h in the bound on the pairs, 25 gives the least sum for 32 goals and 64 variables.
use mathlib.Core.Path.{◌≡◌, refl, ap}
use mathlib.Core.Logic.{⊎_elim, dite}
use Prim.Native.Nat.{ℕ, zero, suc, ◌+◌, ◌-◌, ◌*◌, ◌≤◌, ◌<◌}
use native.Mathlib.Nat.{eq-or-lt_of_le, le_of_suc-le-suc, mul-le-mul_right}
use native.Mathlib.Decide.{dec_lt}
use native.Mathlib.Omega.{arith}
use Rattle.sets.specs.Sets.{variable_limit}

-- what a stage pays for the m variables met before it, and what stages with up to m pay together
abbrev pub extra : ℕ → ℕ
extra m = 15 * (m * (m - 50))

pub extras : ℕ → ℕ
extras zero = 0
extras (suc m) = extras m + extra (suc m)

extras_mono : (a b : ℕ) → a ≤ b → extras a ≤ extras b
unfolding extras
extras_mono a zero h = let e : a ≡ 0 = omega arith in omega (arith, ap extras e)
extras_mono a (suc b) h = ⊎_elim (λ e. omega (arith, ap extras e)) (λ l. omega (arith, extras_mono a b (le_of_suc-le-suc l))) (eq-or-lt_of_le h)

pub extras_more : (a b : ℕ) → a < b → extras a + extra b ≤ extras b
unfolding extras
extras_more a zero h = absurd (omega arith)
extras_more a (suc b) h = omega (arith, extras_mono a b (omega arith))

pub extras_one : (m : ℕ) → extra m ≤ extras m
unfolding extras
extras_one zero = omega arith
extras_one (suc m) = omega arith

pub extras_all : (m : ℕ) → m ≤ variable_limit → extras m ≤ 93975
extras_all m h = let e : extras variable_limit ≡ 93975 = unfold extras in refl in omega (arith, extras_mono m variable_limit h)

-- u * u - 50 * u of 25 candidates or more, with 25 for each of d other variables, is no more than the same of all of them as candidates, or than 0 up to 50
square_below : (u d : ℕ) → 25 ≤ u → u + d ≡ 50 → u * u + 25 * d ≤ 50 * u
square_below u d h e = omega (arith, mul-le-mul_right d h, ap (λ (t : ℕ). t * u) e)

square_above : (u d j : ℕ) → 25 ≤ u → u + d ≡ 50 + j → u * u + 25 * d ≤ 50 * u + (50 + j) * j
square_above u d j h e = let f : 75 ≤ 2 * u + d = omega arith in omega (arith, mul-le-mul_right d f, ap (λ (t : ℕ). t * t) e)

-- n independence checks of u variables, and g ground checks of others
module _ (u g m n k : ℕ) (some : 2 ≤ k) (met : u + g ≤ m) (width : m ≤ variable_limit) where
  few : 2 * n ≤ u * u → u < 25 → 2 * (12 * g + 15 * n) ≤ k * 9375 + extra m
  few pairs h = omega (arith, mul-le-mul_right u h)

  many : 2 * n + 50 * u ≤ u * u + k * 625 → 25 ≤ u → 2 * (12 * g + 15 * n) ≤ k * 9375 + extra m
  many pairs h =
      dite (dec_lt m 50)
      (λ l. omega (arith, square_below u (50 - u) h (omega arith)))
      (λ l.
      let e : 50 + (m - 50) ≡ m = omega arith in
      omega (arith, square_above u (m - u) (m - 50) h (omega arith), ap (λ (t : ℕ). t * (m - 50)) e))

  pub checks_price : 2 * n ≤ u * u → 2 * n + 50 * u ≤ u * u + k * 625 → 2 * (12 * g + 15 * n) ≤ k * 9375 + extra m
  checks_price a b = dite (dec_lt u 25) (λ l. few a l) (λ l. many b (omega arith))
