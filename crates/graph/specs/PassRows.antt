-- A pass by rows.
use Rattle.std.specs.Prelude.{◌≡◌, true, ◌&&◌, ◌||◌, List, ℕ, eqb, get_or}
use Rattle.logic.specs.Quantifiers.{some_below}
use Rattle.sets.specs.Sets.{has, set_of}

-- of the numbers below w what is in the set `all` or in the row of a member of `left`
unfoldable pub gather : ℕ → List ℕ → ℕ → ℕ → ℕ
gather w rows all left = set_of w (λ j. has all j || some_below w (λ k. has left k && has (get_or rows k 0) j))

-- each member of the set has a row to which its members' rows add nothing
abbrev pub Still : List ℕ → ℕ → Type 0
Still rows still =
    (k i j : ℕ) → has still k ≡ true → has (get_or rows k 0) i ≡ true → has (get_or rows i 0) j ≡ true → has (get_or rows k 0) j ≡ true

-- the set of those of the first n rows that are as they were
unfoldable pub same_rows : ℕ → List ℕ → List ℕ → ℕ
same_rows n old new = set_of n (λ i. eqb (get_or new i 0) (get_or old i 0))
