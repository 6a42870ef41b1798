-- What each of the four loops finds.
use mathlib.Core.Bool.{Bool, cond}
use mathlib.Core.Option.{Option, none, some}
use Prim.Native.Nat.{ℕ}
use Rattle.expression.specs.Search.{Four, first_in, is_n}

module _ (R : ℕ → ℕ → Bool) (n : ℕ) where
  abbrev pub at_d : ℕ → ℕ → ℕ → ℕ → Option Four
  at_d a b c d = cond (is_n R a b c d) (some (record { a = a; b = b; c = c; d = d })) none

  abbrev pub at_c : ℕ → ℕ → ℕ → Option Four
  at_c a b c = first_in (λ d. at_d a b c d) 1 n

  abbrev pub at_b : ℕ → ℕ → Option Four
  at_b a b = first_in (λ c. at_c a b c) 1 n

  abbrev pub at_a : ℕ → Option Four
  at_a a = first_in (λ b. at_b a b) 1 n
