-- Rows to which a set of goals is added.
use Rattle.std.specs.Prelude.{cond, List, ℕ, get_or}
use Rattle.sets.specs.Sets.{has, union}
use Rattle.logic.specs.Table.{table}

-- row j with the goals of `one`, if goal j + 1 is in `to`
abbrev pub row_added : ℕ → ℕ → List ℕ → ℕ → ℕ
row_added to one rows j = cond (has to j) (union (get_or rows j 0) one) (get_or rows j 0)

-- the w rows with the goals of `one` added to those of the goals of `to`
unfoldable pub added : ℕ → ℕ → ℕ → List ℕ → List ℕ
added w to one rows = table w w (row_added to one rows)
