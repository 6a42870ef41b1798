-- What a start and a tick answer, and the row of heads that they leave (02, request 4): "reads the record's order and ticks". b is the record, hs the row that is lent, m the set
-- of ended goals that is passed. Nothing here asks for a form: "Clauses without a form can be dispatched too."
use Rattle.std.specs.Prelude.{Bool, ◌&&◌, List, ℕ, leb, length}
use Rattle.sets.specs.Sets.{goal_limit}
use Rattle.graph.specs.Graph.{goals_of}
use Rattle.record_fields.specs.Facts.{ticks_at}
use Rattle.record_fields.specs.Fields.{goal_count}
use Rattle.record_rules.specs.Outcome.{Outcome, refused, accepted, read_then, only_if, next}
use Rattle.order.specs.Order.{before}
use Rattle.dispatch_rule.specs.declared.Head.{Head}
use Rattle.dispatch_rule.specs.Rule.{State, start, tick}
use Rattle.dispatch_rule.specs.Validity.{is_valid}
use Rattle.dispatch_steps.specs.Steps.{state_of}

-- "1 to 8 heads"; 20 refuses "a row of 0 or more than 8 heads"
abbrev pub head_limit : ℕ
head_limit = 8

abbrev pub few : ℕ → Bool
few k = leb 1 k && leb k head_limit

-- ---- "a start makes all idle and the set empty"; "Checks: 20, after the record's refusals, place 0"
unfoldable pub start_outcome : List ℕ → List Head → Outcome State
start_outcome b hs = read_then b (only_if (few (length hs)) 20 0 (accepted (start (length hs))))

-- ---- a tick; "at a tick also a head's goal above n, .. or a busy or ended goal with a predecessor not ended"
abbrev pub acceptable : List ℕ → List Head → ℕ → Bool
acceptable b hs m = few (length hs) && is_valid (before b) (goal_count b) (ticks_at b) goal_limit (state_of hs m)

unfoldable pub tick_outcome : List ℕ → List Head → ℕ → Outcome State
tick_outcome b hs m = read_then b (only_if (acceptable b hs m) 20 0 (accepted (tick (before b) (goal_count b) (ticks_at b) (state_of hs m))))

-- ---- what the caller gets: "gets back the 32-bit set of ended goals", and its row, which a refusal leaves as it was
abbrev pub set_of_state : Outcome State → Outcome ℕ
set_of_state o = next o (λ s. accepted (goals_of goal_limit s.ended))

abbrev pub row_after : Outcome State → List Head → List Head
row_after (refused k p) hs = hs
row_after (accepted s) hs = s.heads

unfoldable pub start_answer : List ℕ → List Head → Outcome ℕ
start_answer b hs = set_of_state (start_outcome b hs)

unfoldable pub start_row : List ℕ → List Head → List Head
start_row b hs = row_after (start_outcome b hs) hs

unfoldable pub tick_answer : List ℕ → List Head → ℕ → Outcome ℕ
tick_answer b hs m = set_of_state (tick_outcome b hs m)

unfoldable pub tick_row : List ℕ → List Head → ℕ → List Head
tick_row b hs m = row_after (tick_outcome b hs m) hs
