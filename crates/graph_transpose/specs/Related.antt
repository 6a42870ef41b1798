-- The rows of an order in both directions. Row i stands for goal i + 1.
use Rattle.std.specs.Prelude.{List, ℕ, get_or}
use Rattle.sets.specs.Sets.{union}

-- the goals that are in order with a goal, either way
abbrev pub related : List ℕ → List ℕ → ℕ → ℕ
related after prior i = union (get_or after i 0) (get_or prior i 0)
