-- A number in decimal, without a leading zero.
use Rattle.std.specs.Prelude.{cond, List, [], ◌∷◌, ◌++◌, ℕ, zero, suc, ◌+◌, ◌/◌, ◌%◌, ltb}

-- with at most k digits before the last
unfoldable pub decimal_to : ℕ → ℕ → List ℕ
decimal_to zero n = (48 + n % 10) ∷ []
decimal_to (suc k) n = let front = decimal_to k (n / 10) in cond (ltb n 10) ((48 + n) ∷ []) (front ++ ((48 + n % 10) ∷ []))

unfoldable pub decimal : ℕ → List ℕ
decimal n = decimal_to n n
