-- Starts and ticks of two records, from their bytes; they hold by computation.
use Rattle.std.specs.Prelude.{◌≡◌, refl, List, [], ◌∷◌, ℕ, replicate}
use Rattle.logic.specs.Quantifiers.{every, some_below, lowest}
use Rattle.sets.specs.Sets.{has, set_of, within, subset}
use Rattle.graph.specs.Graph.{goals_of}
use Rattle.record_fields.specs.Fields.{number, own_facts, length_at, place_after, goal_set, listed}
use Rattle.record_fields.specs.Facts.{ground_of, ticks_of, ground_before, met_before, ground_at, ticks_at}
use Rattle.record_rules.specs.Reading.{◌must◌else◌place◌, counts, header, first_bad, goal, goals, ordered, ascends, pair, pairs, ending, reading_of, known_version, reading}
use Rattle.record_rules.specs.Outcome.{refused, accepted, read_then}
use Rattle.independence.specs.Independence.{known_independent, independent}
use Rattle.order.specs.Order.{waits, before}
use Rattle.dispatch_rule.specs.declared.Head.{Head}
use Rattle.dispatch_rule.specs.Rule.{idle}
use Rattle.dispatcher.specs.Ticks.{start_outcome, start_answer, start_row, tick_outcome, tick_answer, tick_row}

-- the version 2 record of two goals of 2 ticks and 1 tick, with the variable sets x and y
abbrev two : ℕ → ℕ → List ℕ
two x y =
    0x4C ∷ 0x46 ∷ 0x4A ∷ 0 ∷ 2 ∷ 2 ∷ 2 ∷ 0 ∷ 0 ∷ 0 ∷ 0 ∷ 0 ∷ 0 ∷ 0 ∷ 0 ∷ 3 ∷ 0 ∷ 0 ∷ 0 ∷ 0 ∷ 0 ∷ 0 ∷ 0 ∷ 0
    ∷ 0 ∷ 0 ∷ 0 ∷ 0 ∷ 0 ∷ 0 ∷ 0 ∷ x ∷ 0 ∷ 0 ∷ 0 ∷ 0 ∷ 0 ∷ 0 ∷ 0 ∷ 0 ∷ 0 ∷ 2 ∷ 1 ∷ 0x61
    ∷ 0 ∷ 0 ∷ 0 ∷ 0 ∷ 0 ∷ 0 ∷ 0 ∷ y ∷ 0 ∷ 0 ∷ 0 ∷ 0 ∷ 0 ∷ 0 ∷ 0 ∷ 0 ∷ 0 ∷ 1 ∷ 1 ∷ 0x62 ∷ []

-- goal 2 waits for goal 1; goal 2 has no variable, and neither waits
abbrev after : List ℕ
after = two 1 1

abbrev apart : List ℕ
apart = two 1 0

abbrev h : ℕ → ℕ → Head
h g l = record { goal = g; left = l }

starts
    -- a start makes the heads idle; of a row of nine it is refused, and leaves it
    : (start_answer apart (h 7 7 ∷ h 1 2 ∷ []) ≡ accepted 0)
    × (start_row apart (h 7 7 ∷ h 1 2 ∷ []) ≡ idle ∷ idle ∷ [])
    × (start_answer apart (replicate 9 (h 1 2)) ≡ refused 20 0)
    × (start_row apart (replicate 9 (h 1 2)) ≡ replicate 9 (h 1 2))
    -- no record, no head: the record's refusal comes first
    × (start_answer [] [] ≡ refused 1 0)
unfolding every some_below has set_of within subset goals_of number own_facts length_at place_after ground_of ticks_of ground_before met_before ground_at goal_set listed ◌must◌else◌place◌ counts header first_bad goal goals ordered
    ascends pair pairs ending reading_of known_version reading read_then start_outcome start_answer start_row
starts = (refl, refl, refl, refl, refl)

ticks
    -- goal 2 is taken and ended in the first tick, beside goal 1; where it waits for goal 1 the second head stays idle
    : (tick_answer apart (idle ∷ idle ∷ []) 0 ≡ accepted 2)
    × (tick_row apart (idle ∷ idle ∷ []) 0 ≡ h 1 1 ∷ idle ∷ [])
    × (tick_answer after (idle ∷ idle ∷ []) 0 ≡ accepted 0)
    × (tick_row after (idle ∷ idle ∷ []) 0 ≡ h 1 1 ∷ idle ∷ [])
    -- goal 1 ends; its head takes goal 2 in the next tick, not in this one
    × (tick_answer after (h 1 1 ∷ idle ∷ []) 0 ≡ accepted 1)
    × (tick_row after (h 1 1 ∷ idle ∷ []) 0 ≡ idle ∷ idle ∷ [])
    -- goal 1 has 2 ticks, not 3; goal 2 has not ended without goal 1
    × (tick_answer apart (h 1 3 ∷ []) 0 ≡ refused 20 0)
    × (tick_row apart (h 1 3 ∷ []) 0 ≡ h 1 3 ∷ [])
    × (tick_answer apart (idle ∷ []) 2 ≡ accepted 2)
    × (tick_answer after (idle ∷ []) 2 ≡ refused 20 0)
unfolding every some_below has set_of within subset goals_of number own_facts length_at place_after ground_of ticks_of ground_before met_before ground_at ticks_at goal_set listed ◌must◌else◌place◌ counts header first_bad goal goals ordered
    ascends pair pairs ending reading_of known_version reading read_then known_independent independent waits before lowest tick_outcome tick_answer tick_row
ticks = (refl, refl, refl, refl, refl, refl, refl, refl, refl, refl)
