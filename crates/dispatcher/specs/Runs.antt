-- Runs of the operations (02, request 4): "From a start, with one record, each tick given the row and set that the one before left".
use Rattle.std.specs.Prelude.{◌≡◌, true, List, ◌⊎◌, ◌↔◌, ℕ, zero, suc, ◌/◌, ◌^◌, ◌≤◌, ◌<◌}
use Rattle.graph.specs.Graph.{has_goal}
use Rattle.record_fields.specs.Facts.{ticks_at}
use Rattle.record_fields.specs.Fields.{goal_count}
use Rattle.record_rules.specs.Outcome.{Outcome, refused, accepted, values, Accepted}
use Rattle.record.specs.Limits.{OfReading}
use Rattle.order.specs.Order.{before}
use Rattle.lfj_words.specs.Words.{tick_word}
use Rattle.schedule.specs.Range.{Goals, total}
use Rattle.schedule.specs.Heaviest.{heaviest}
use Rattle.dispatch_rule.specs.declared.Head.{Head}
use Rattle.dispatch_rule.specs.Run.{working}
use Rattle.dispatch_steps.specs.Steps.{state_of}
use Rattle.dispatcher.specs.Ticks.{start_answer, start_row, tick_answer, tick_row}

-- the row and the set that a start on the row hs and j ticks leave
pub record Left : Type 0 where
  pub row : List Head
  pub set : ℕ

unfoldable pub run : List ℕ → List Head → ℕ → Left
run b hs zero = record { row = start_row b hs; set = (values 0 (start_answer b hs)).value }
run b hs (suc j) = let s = run b hs j in record { row = tick_row b s.row s.set; set = (values 0 (tick_answer b s.row s.set)).value }

-- how many heads work in a tick that is given the row hs and the set m; and in tick j + 1 of a run: "the first tick after the start is 1"
unfoldable pub at_work : List ℕ → List Head → ℕ → ℕ
at_work b hs m = working (before b) (goal_count b) (ticks_at b) (state_of hs m)

abbrev pub run_work : List ℕ → List Head → ℕ → ℕ
run_work b hs j = at_work b (run b hs j).row (run b hs j).set

-- "all goals have ended": they are in the set
abbrev pub AllEnded : List ℕ → ℕ → Type 0
AllEnded b m = (g : ℕ) → Goals (goal_count b) g → has_goal m g ≡ true

-- "last working tick T": some head works in each tick up to T, and none in a later one. A tick with work after which none has any is such a T (`run-last`).
pub record LastTick (b : List ℕ) (hs : List Head) (T : ℕ) : Type 0 where
  pub works : (j : ℕ) → j < T → 1 ≤ run_work b hs j
  pub rests : (j : ℕ) → T ≤ j → run_work b hs j ≡ 0

-- "total ticks W" and "heaviest chain C" of a record
unfoldable pub all_ticks : List ℕ → ℕ
all_ticks b = total (ticks_at b) (goal_count b)

unfoldable pub heaviest_chain : List ℕ → ℕ
heaviest_chain b = heaviest (before b) (goal_count b) (ticks_at b)

-- ---- What the answer words say: nothing is lost, and the number is 0 exactly if the call is accepted. It refuses with the numbers of reading and with 20.
pub record WordSays (o : Outcome ℕ) : Type 0 where
  pub numbers : (k p : ℕ) → o ≡ refused k p → OfReading k ⊎ (k ≡ 20)
  pub place_fits : (k p : ℕ) → o ≡ refused k p → p < 2 ^ 32
  pub set_fits : (m : ℕ) → o ≡ accepted m → m < 2 ^ 32
  pub number_is : tick_word o / 2 ^ 56 ≡ (values 0 o).number
  pub zero_accepted : (tick_word o / 2 ^ 56 ≡ 0) ↔ Accepted o
