-- Quantifiers over the numbers below a bound and "if .. then" as tests; the lowest number that passes a test.
use Rattle.std.specs.Prelude.{Bool, true, false, not, ◌&&◌, ◌||◌, cond, ℕ, zero, suc, eqb}

-- f holds of every number below w
unfoldable pub every : ℕ → (ℕ → Bool) → Bool
every zero f = true
every (suc w) f = every w f && f w

-- f holds of some number below w
unfoldable pub some_below : ℕ → (ℕ → Bool) → Bool
some_below zero f = false
some_below (suc w) f = some_below w f || f w

-- the lowest of 1 to n that passes the test, or 0 if none does
unfoldable pub lowest : (ℕ → Bool) → ℕ → ℕ
lowest p zero = 0
lowest p (suc m) = let r = lowest p m in cond (eqb r 0) (cond (p (suc m)) (suc m) 0) r

-- if p then q
abbrev pub implies : Bool → Bool → Bool
implies p q = not p || q
