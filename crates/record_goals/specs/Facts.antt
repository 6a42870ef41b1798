-- The facts of a goal.
use Rattle.std.specs.Prelude.{Bool, ◌&&◌, List, ℕ}
use Rattle.record_fields.specs.Facts.{ground_of, ticks_of}
use Rattle.record_rules.specs.Reading.{between, grows, tick_limit}

-- neither 18 nor 19 is refused of the goal that starts at a place, after a goal with the ground set `before`, where the variables `met` are those of the head
-- and earlier goals
unfoldable pub facts_fine : List ℕ → ℕ → ℕ → ℕ → Bool
facts_fine b at before met = grows before met (ground_of b at) && between 1 tick_limit (ticks_of b at)
