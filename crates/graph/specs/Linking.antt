-- Rows into which a set of goals is put before another.
use Rattle.std.specs.Prelude.{◌≡◌, ◌&&◌, ◌||◌, List, ℕ, suc, ◌<◌}
use Rattle.sets.specs.Sets.{has}
use Rattle.graph.specs.Graph.{ahead, Words}

-- each of front is before each of later, beside what the w rows had
pub record Linked (w front later : ℕ) (old new : List ℕ) : Type 0 where
  pub words : Words w new
  pub order : (i j : ℕ) → i < w → ahead new (suc i) (suc j) ≡ (ahead old (suc i) (suc j) || (has front i && has later j))
