-- A run of five goals on two heads, tick by tick; it holds by computation. Goal 3 waits for 1 and 2, goal 4 for 2, goal 5 for 1, 2 and 3.
use Rattle.std.specs.Prelude.{◌≡◌, refl, Bool, true, false, ◌&&◌, ◌||◌, List, [], ◌∷◌, ℕ, ◌-◌, eqb, get_or}
use Rattle.logic.specs.Quantifiers.{every, lowest}
use Rattle.schedule.specs.Heaviest.{heaviest}
use Rattle.dispatch_rule.specs.declared.Head.{Head}
use Rattle.dispatch_rule.specs.Rule.{State, start}
use Rattle.dispatch_rule.specs.Validity.{is_valid}
use Rattle.dispatch_rule.specs.Run.{working, after}

abbrev pairs : List (ℕ × ℕ) → ℕ → ℕ → Bool
pairs [] i j = false
pairs (p ∷ l) i j = (eqb i p.0 && eqb j p.1) || pairs l i j

abbrev order : ℕ → ℕ → Bool
order = pairs ((1, 3) ∷ (1, 5) ∷ (2, 3) ∷ (2, 4) ∷ (2, 5) ∷ (3, 5) ∷ [])

abbrev ticks : ℕ → ℕ
ticks g = get_or (2 ∷ 1 ∷ 3 ∷ 2 ∷ 1 ∷ []) (g - 1) 0

abbrev h : ℕ → ℕ → Head
h g l = record { goal = g; left = l }

abbrev then : ℕ → State
then m = after order 5 ticks m (start 2)

examples
    -- heads 1 and 2 take goals 1 and 2; goal 2 ends, and its head takes goal 4 in the next tick, not in this one
    : ((then 1).heads ≡ h 1 1 ∷ h 0 0 ∷ [])
    × ((then 2).heads ≡ h 0 0 ∷ h 4 1 ∷ [])
    × ((then 3).heads ≡ h 3 2 ∷ h 0 0 ∷ [])
    × (working order 5 ticks (then 2) ≡ 2)
    -- tick 6 is the last with work: k × T = 12 is at most W + (k − 1) × C = 9 + 6
    × (working order 5 ticks (then 5) ≡ 1)
    × (working order 5 ticks (then 6) ≡ 0)
    × (heaviest order 5 ticks ≡ 6)
    -- one idle head beside a goal that can be taken is accepted; a goal with more ticks left than it takes is not
    × (is_valid order 5 ticks 32 (record { heads = h 0 0 ∷ h 1 2 ∷ []; ended = λ g. false }) ≡ true)
    × (is_valid order 5 ticks 32 (record { heads = h 0 0 ∷ h 1 3 ∷ []; ended = λ g. false }) ≡ false)
unfolding every lowest
examples = (refl, refl, refl, refl, refl, refl, refl, refl, refl)
