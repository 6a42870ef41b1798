-- The facts of a clause record at each goal. 01: "Its facts are taken to hold at every goal"; 02, 1: "Version 2 puts, after each goal's variable set, an 8-byte
-- ground set known just left of that goal and a 16-bit tick count, 1 to 60,000. Version 1 is still read: every goal has the header's ground set and 1 tick."
use Rattle.std.specs.Prelude.{cond, List, ℕ, zero, suc, ◌+◌}
use Rattle.sets.specs.Sets.{union}
use Rattle.record_fields.specs.Fields.{number, set, head_set, ground_set, own_facts, place_after, goal_place}

-- of the goal that starts at a place: where its ground set and its ticks stand in version 2, and what they are
abbrev pub ground_place : ℕ → ℕ
ground_place at = at + 8

abbrev pub ticks_place : ℕ → ℕ
ticks_place at = at + 16

unfoldable pub ground_of : List ℕ → ℕ → ℕ
ground_of b at = cond (own_facts b) (set b (ground_place at)) (ground_set b)

unfoldable pub ticks_of : List ℕ → ℕ → ℕ
ticks_of b at = cond (own_facts b) (number b (ticks_place at) 2) 1

-- after the first g goals: the ground set of "the previous one (the header's for goal 1)"
unfoldable pub ground_before : List ℕ → ℕ → ℕ
ground_before b zero = ground_set b
ground_before b (suc g) = ground_of b (place_after b g)

-- and the variables of "the head and earlier goals"
unfoldable pub met_before : List ℕ → ℕ → ℕ
met_before b zero = head_set b
met_before b (suc g) = union (met_before b g) (set b (place_after b g))

-- the variables known ground at goal g
unfoldable pub ground_at : List ℕ → ℕ → ℕ
ground_at b g = ground_of b (goal_place b g)

-- how many ticks goal g takes
unfoldable pub ticks_at : List ℕ → ℕ → ℕ
ticks_at b g = ticks_of b (goal_place b g)

-- the variables known at goal g to be independent of every other: none
abbrev pub free_at : List ℕ → ℕ → ℕ
free_at b g = 0
