-- The dispatcher's rule, in the order of its sentences (02, request 4): the state, a start, a tick. R is the order of the goals 1 to n: R i g says that i is a predecessor of
-- g, that is before it. Goal g takes t g ticks.
use Rattle.std.specs.Prelude.{Bool, false, not, ◌&&◌, ◌||◌, cond, List, [], ◌∷◌, map, ℕ, ◌+◌, ◌-◌, eqb, leb, replicate}
use Rattle.logic.specs.Quantifiers.{lowest}
use Rattle.schedule.specs.Range.{each}
use Rattle.dispatch_rule.specs.declared.Head.{Head}

-- "a row of heads, each with its goal and ticks left, and .. the .. set of ended goals"
pub record State : Type 0 where
  pub heads : List Head
  pub ended : ℕ → Bool

-- "An idle head has zeros."
abbrev pub idle : Head
idle = record { goal = 0; left = 0 }

-- "a start makes all idle and the set empty": of k heads
abbrev pub start : ℕ → State
start k = record { heads = replicate k idle; ended = λ g. false }

-- on how many heads of a row goal g is, and whether it is on one
abbrev pub count : List Head → ℕ → ℕ
count [] g = 0
count (h ∷ hs) g = cond (eqb g h.goal) 1 0 + count hs g

abbrev pub on : List Head → ℕ → Bool
on hs g = leb 1 (count hs g)

-- ---- "In each tick every idle head, lowest first, takes the lowest goal, neither ended nor on a head, whose predecessors have all ended". E has the goals that have ended,
-- B those on a head.
module _ (R : ℕ → ℕ → Bool) (n : ℕ) where
  -- the predecessors of goal g have all ended
  abbrev pub ready : (ℕ → Bool) → ℕ → Bool
  ready E g = each (λ i. not (R i g) || E i) n

  -- the lowest goal that can be taken; 0 if there is none
  abbrev pub next : (ℕ → Bool) → (ℕ → Bool) → ℕ
  next E B = lowest (λ g. not (E g) && not (B g) && ready E g) n

module _ (R : ℕ → ℕ → Bool) (n : ℕ) (t : ℕ → ℕ) where
  -- one head's turn: an idle one takes the next goal, with all of its ticks, if there is one
  abbrev pub offer : (ℕ → Bool) → (ℕ → Bool) → Head → Head
  offer E B h =
      let g = next R n E B in
      cond (eqb h.goal 0) (record { goal = g; left = cond (eqb g 0) 0 (t g) }) h

  -- the heads of a row in turn, lowest first; what one has is on a head when the next has its turn
  abbrev pub taken : (ℕ → Bool) → (ℕ → Bool) → List Head → List Head
  taken E B [] = []
  taken E B (h ∷ hs) = offer E B h ∷ taken E (λ g. B g || eqb g (offer E B h).goal) hs

  -- the row once every idle head has had its turn
  abbrev pub assigned : State → List Head
  assigned s = taken s.ended (on s.heads) s.heads

-- ---- "then every busy head works one tick; at 0 left its goal has ended and it is idle."
abbrev pub worked : Head → Head
worked h = cond (eqb (h.left - 1) 0) idle (record { goal = h.goal; left = h.left - 1 })

-- goal g is on a head of the row and ends with this tick
abbrev pub ends : List Head → ℕ → Bool
ends [] g = false
ends (h ∷ hs) g = (eqb g h.goal && leb 1 g && eqb (h.left - 1) 0) || ends hs g

-- ---- a tick
abbrev pub tick : (ℕ → ℕ → Bool) → ℕ → (ℕ → ℕ) → State → State
tick R n t s = record { heads = map worked (assigned R n t s); ended = λ g. s.ended g || ends (assigned R n t s) g }

-- how many heads of a row have a goal
abbrev pub busy : List Head → ℕ
busy [] = 0
busy (h ∷ hs) = cond (eqb h.goal 0) 0 1 + busy hs
