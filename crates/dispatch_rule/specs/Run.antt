-- Runs (02, request 4): "each tick given the row and set that the one before left".
use Rattle.std.specs.Prelude.{◌≡◌, Bool, true, ℕ, zero, suc, ◌≤◌, ◌<◌}
use Rattle.schedule.specs.Range.{Goals}
use Rattle.dispatch_rule.specs.Rule.{State, assigned, busy, tick}

-- all goals have ended
abbrev pub Done : ℕ → State → Type 0
Done n s = (g : ℕ) → Goals n g → s.ended g ≡ true

module _ (R : ℕ → ℕ → Bool) (n : ℕ) (t : ℕ → ℕ) where
  -- how many heads work in the tick from s: those that have a goal once the idle ones have had their turn
  abbrev pub working : State → ℕ
  working s = busy (assigned R n t s)

  -- the state after m ticks
  abbrev pub after : ℕ → State → State
  after zero s = s
  after (suc m) s = tick R n t (after m s)

  -- "last working tick T (the first tick after the start is 1)": from s on some head works in each tick up to T, and none in a later one
  pub record LastWorking (s : State) (T : ℕ) : Type 0 where
    pub works : (m : ℕ) → m < T → 1 ≤ working (after m s)
    pub rests : (m : ℕ) → T ≤ m → working (after m s) ≡ 0
