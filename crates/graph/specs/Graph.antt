-- Sets of goals and dependency graphs. Goal g stands at bit g - 1 of a set, and at row g - 1 of a graph.
use Rattle.std.specs.Prelude.{◌≡◌, Bool, false, List, ℕ, zero, suc, ◌^◌, ◌<◌, length, get_or, replicate}
use Rattle.sets.specs.Sets.{goal_limit, has, set_of}
use Rattle.logic.specs.Table.{table}
use Rattle.graph.specs.declared.Graph.{Graph}

-- goal g is in the set m; 0 is no goal
abbrev pub has_goal : ℕ → ℕ → Bool
has_goal m zero = false
has_goal m (suc i) = has m i

-- the rows have goal i before goal j
abbrev pub ahead : List ℕ → ℕ → ℕ → Bool
ahead rows zero j = false
ahead rows (suc i) j = has_goal (get_or rows i 0) j

-- the same by rows that are turned round: row j - 1 has the goals that are before goal j
abbrev pub behind : List ℕ → ℕ → ℕ → Bool
behind rows i j = ahead rows j i

-- the set of those of the goals 1 to n of which f holds
unfoldable pub goals_of : ℕ → (ℕ → Bool) → ℕ
goals_of n f = set_of n (λ i. f (suc i))

-- the w rows of a relation on the goals 1 to n: row g - 1 has the goals h with R g h, the rows past n are zero
unfoldable pub rows_of : ℕ → ℕ → (ℕ → ℕ → Bool) → List ℕ
rows_of w n R = table w n (λ i. goals_of n (R (suc i)))

-- the graph of a relation on the goals 1 to n
abbrev pub graph_of : ℕ → (ℕ → ℕ → Bool) → Graph
graph_of n R = record { n = n; rows = rows_of goal_limit n R }

-- the graph of n goals without an edge
abbrev pub edgeless : ℕ → Graph
edgeless n = record { n = n; rows = replicate goal_limit 0 }

-- w rows of w bits each: what the type of an array of rows says, and a reference to it does not tell
pub record Words (w : ℕ) (rows : List ℕ) : Type 0 where
  pub size : length rows ≡ w
  pub small : (i : ℕ) → get_or rows i 0 < 2 ^ w

-- the rows are w, and have nothing but pairs of the goals 1 to n
abbrev pub Within : ℕ → ℕ → List ℕ → Type 0
Within w n rows = rows ≡ rows_of w n (ahead rows)

-- the rows of the goals 1 to n with every edge turned round
unfoldable pub transposed : ℕ → ℕ → List ℕ → List ℕ
transposed w n rows = rows_of w n (λ j i. ahead rows i j)
