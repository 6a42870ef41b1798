-- What the steps of a start and of a tick begin with, from the record, and what is answered from the board that they leave. Sets of goals are masks.
use Rattle.std.specs.Prelude.{◌&&◌, cond, List, ℕ, replicate, Ok, Err}
use Rattle.sets.specs.Sets.{goal_limit, without, below, subset}
use Rattle.record_fields.specs.Fields.{goal_count}
use Rattle.record_rules.specs.declared.Refusal.{Refusal}
use Rattle.record_rules.specs.Reading.{reading, Reading}
use Rattle.clause.specs.Clause.{goal_ticks}
use Rattle.order.specs.Arrays.{waiting_on}
use Rattle.lfj_words.specs.Words.{refusal_word}
use Rattle.dispatch_rule.specs.declared.Head.{Head}
use Rattle.dispatch_steps.specs.declared.Phase.{Phase}
use Rattle.dispatch_steps.specs.declared.Phase.TheVariants.{Look, Go, Rest, Idle, Other}
use Rattle.dispatch_steps.specs.declared.Board.{Board}
use Rattle.dispatch_steps.specs.declared.Opening.{Opening}
use Rattle.dispatch_steps.specs.Steps.{turn_board}
use Rattle.dispatcher.specs.Ticks.{few}

-- the goals that have not ended, and those that wait for one of them
abbrev pub left_of : List ℕ → ℕ → ℕ
left_of b m = without (below (goal_count b)) m

abbrev pub waiting_of : List ℕ → ℕ → ℕ
waiting_of b m = waiting_on b (left_of b m)

-- "20, .. place 0"
abbrev pub bad_row : Refusal
bad_row = record { number = 20; place = 0 }

-- a board on which nothing is free, with a phase, no ticks and a refusal
abbrev pub bare : Phase → Refusal → Opening
bare phase r = record { board = record { phase = phase; free = 0; done = 0 }; plan = record { ticks = replicate goal_limit 0 }; refusal = r }

-- of a refused record
unfoldable pub shut : Refusal → Opening
shut r = bare Rest r

-- of an accepted one
unfoldable pub start_open : ℕ → Opening
start_open k = bare (cond (few k) Idle Rest) bad_row

unfoldable pub tick_open : List ℕ → ℕ → ℕ → Opening
tick_open b k m =
    record {
      board =
          record {
            phase = cond (few k && subset m (without (below (goal_count b)) (waiting_of b m))) Look Rest;
            free = without (left_of b m) (waiting_of b m);
            done = m;
          };
      plan = record { ticks = goal_ticks goal_limit b };
      refusal = bad_row;
    }

-- by what reading the record says
abbrev pub opened : Reading → Opening → Opening
opened (Ok _) o = o
opened (Err r) o = shut r

unfoldable pub start_opening : List ℕ → ℕ → Opening
start_opening b k = opened (reading b) (start_open k)

unfoldable pub tick_opening : List ℕ → ℕ → ℕ → Opening
tick_opening b k m = opened (reading b) (tick_open b k m)

-- the refusal, if the heads rest, or the goals that have ended
abbrev pub word_in : Phase → Refusal → ℕ → ℕ
word_in Look r m = m
word_in Go r m = m
word_in Rest r m = refusal_word r.number r.place
word_in Idle r m = m
word_in (Other n) r m = m

unfoldable pub board_word : Board → Refusal → ℕ
board_word b r = word_in b.phase r b.done

-- the answer word of a row gone over twice
abbrev pub turn_word : Opening → List Head → ℕ
turn_word o hs = board_word (turn_board o hs) o.refusal
