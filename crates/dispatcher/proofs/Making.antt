-- The functions that make what a start and a tick begin with, by their definitions.
use mathlib.Core.Path.{◌≡◌, sym, ap, ap₂, ◌∙◌}
use mathlib.Core.Bool.{Bool, ◌&&◌, cond}
use mathlib.Core.List.{List}
use Prim.Native.Nat.{ℕ}
use Rattle.sets.specs.Sets.{goal_limit, without, below, subset}
use Rattle.record_fields.specs.Fields.{goal_count}
use Rattle.record_rules.specs.declared.Refusal.{Refusal}
use Rattle.clause.specs.Clause.{goal_ticks, decoded}
use Rattle.clause.specs.declared.Clause.{Clause}
use Rattle.order.specs.Arrays.{waiting_on}
use Rattle.dispatch_steps.specs.declared.Phase.{Phase}
use Rattle.dispatch_steps.specs.declared.Phase.TheVariants.{Look, Rest}
use Rattle.dispatch_steps.specs.declared.Board.{Board}
use Rattle.dispatch_steps.specs.declared.Opening.{Opening}
use Rattle.dispatcher.specs.Ticks.{few}
use Rattle.dispatcher.specs.Openings.{left_of, waiting_of, bad_row, tick_open, word_in, board_word}

-- ---- a tick
abbrev pub begins : Phase → ℕ → ℕ → List ℕ → Refusal → Opening
begins phase free m ticks r = record { board = record { phase = phase; free = free; done = m }; plan = record { ticks = ticks }; refusal = r }

module _ (b : List ℕ) (k m : ℕ) where
  -- from the sets that the code makes, one after another
  pub record Made (all left late ready free : ℕ) (known enough ok : Bool) (phase : Phase) : Type 0 where
    pub all_is : all ≡ below (goal_count b)
    pub left_is : left ≡ without all m
    pub waiting_is : late ≡ waiting_on b left
    pub ready_is : ready ≡ without all late
    pub known_is : known ≡ subset m ready
    pub enough_is : enough ≡ few k
    pub ok_is : ok ≡ (enough && known)
    pub phase_is : phase ≡ cond ok Look Rest
    pub free_is : free ≡ without left late

  pub made_is : (all left late ready free : ℕ) (known enough ok : Bool) (phase : Phase) (ticks : List ℕ) (r : Refusal) → Made all left late ready free known enough ok phase → ticks ≡ goal_ticks goal_limit b → r ≡ bad_row
      → begins phase free m ticks r ≡ tick_open b k m
  unfolding tick_open
  made_is all left late ready free known enough ok phase ticks r d t e =
      let l : left ≡ left_of b m = d.left_is ∙ ap (λ (x : ℕ). without x m) d.all_is in
      let w : late ≡ waiting_of b m = d.waiting_is ∙ ap (waiting_on b) l in
      let y : ready ≡ without (below (goal_count b)) (waiting_of b m) = d.ready_is ∙ ap₂ without d.all_is w in
      let o : ok ≡ (few k && subset m (without (below (goal_count b)) (waiting_of b m))) = d.ok_is ∙ ap₂ ◌&&◌ d.enough_is (d.known_is ∙ ap (subset m) y) in
      let p : phase ≡ cond (few k && subset m (without (below (goal_count b)) (waiting_of b m))) Look Rest = d.phase_is ∙ ap (λ x. cond x Look Rest) o in
      let f : free ≡ without (left_of b m) (waiting_of b m) = d.free_is ∙ ap₂ without l w in
      λ i. begins (p i) (f i) m (t i) (e i)

-- what decoding an accepted record gives
pub ticks_of_lem : (b : List ℕ) {c : Clause} → c ≡ decoded b → c.ticks ≡ goal_ticks goal_limit b
unfolding decoded
ticks_of_lem b e = ap (λ (x : Clause). x.ticks) e

-- ---- the answer word
pub word_is : (b : Board) (r : Refusal) (f : Phase) → b.phase ≡ f → word_in f r b.done ≡ board_word b r
unfolding board_word
word_is b r f e = sym (ap (λ x. word_in x r b.done) e)
