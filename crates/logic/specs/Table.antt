-- An array of w numbers of which the first n are given by a rule and the rest are zero.
use Rattle.std.specs.Prelude.{cond, List, [], ◌∷◌, ℕ, zero, suc, ltb}

-- f i at each place i below n, and 0 at the other places, from the place i on: w places
unfoldable pub table_from : ℕ → ℕ → ℕ → (ℕ → ℕ) → List ℕ
table_from zero i n f = []
table_from (suc w) i n f = cond (ltb i n) (f i) 0 ∷ table_from w (suc i) n f

-- the array of w places: f i at each place i below n, and 0 at the others
abbrev pub table : ℕ → ℕ → (ℕ → ℕ) → List ℕ
table w n f = table_from w 0 n f
