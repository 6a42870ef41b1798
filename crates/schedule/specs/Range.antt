-- Tests, sums and maxima over the goals 1 to n.
use Rattle.std.specs.Prelude.{Bool, ℕ, zero, suc, ◌+◌, max}
use Rattle.logic.specs.Quantifiers.{every}
pub use Rattle.expression.specs.Expr.{Goals, Order}

-- each of 1 to n passes the test
abbrev pub each : (ℕ → Bool) → ℕ → Bool
each p n = every n (λ i. p (suc i))

-- f 1 + .. + f n
abbrev pub total : (ℕ → ℕ) → ℕ → ℕ
total f zero = 0
total f (suc m) = total f m + f (suc m)

-- the largest of f 1 to f n, and 0 if n is 0
abbrev pub top : (ℕ → ℕ) → ℕ → ℕ
top f zero = 0
top f (suc m) = max (top f m) (f (suc m))
