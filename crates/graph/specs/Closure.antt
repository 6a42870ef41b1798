-- The waiting order of a graph. 01: "Goal i is before goal j if a chain of waits leads from i to j: the closure is taken first."
use Rattle.std.specs.Prelude.{◌≡◌, Bool, true, ◌&&◌, ◌||◌, ℕ, zero, suc, ◌≤◌}
use Rattle.sets.specs.Sets.{goal_limit}
use Rattle.graph.specs.Graph.{ahead, graph_of, Within}
use Rattle.graph.specs.declared.Graph.{Graph}

-- A chain of waits over the goals 1 to n: W i j says that j waits for i.
pub data Chain (W : ℕ → ℕ → Bool) (n : ℕ) : ℕ → ℕ → Type 0 where
  wait : {i j : ℕ} → W i j ≡ true → Chain W n i j
  link : {i j k : ℕ} → (1 ≤ j) × (j ≤ n) → Chain W n i j → Chain W n j k → Chain W n i k

-- The same as a test, for m = n: of the goals between the ends of a chain, those from 1 to m are let in, one after another.
abbrev pub closed : (ℕ → ℕ → Bool) → ℕ → ℕ → ℕ → Bool
closed W zero i j = W i j
closed W (suc m) i j = closed W m i j || (closed W m i (suc m) && closed W m (suc m) j)

-- What a graph is: at most the most goals, and rows that have nothing but pairs of its goals.
abbrev pub IsGraph : Graph → Type 0
IsGraph g = (g.n ≤ goal_limit) × Within goal_limit g.n g.rows

-- The closure of a graph: the graph of its chains.
unfoldable pub closing : Graph → Graph
closing g = graph_of g.n (closed (ahead g.rows) g.n)
