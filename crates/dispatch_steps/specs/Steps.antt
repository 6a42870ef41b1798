-- One head's turn, by sets of goals as masks, goal g at bit g - 1; a row gone over once, and twice.
use Rattle.std.specs.Prelude.{Bool, ◌&&◌, cond, List, [], ◌∷◌, ℕ, zero, suc, ◌-◌, eqb, ltb, leb, get_or}
use Rattle.sets.specs.Sets.{goal_limit, union, without, single}
use Rattle.graph.specs.Graph.{has_goal}
use Rattle.logic.specs.Quantifiers.{lowest}
use Rattle.dispatch_rule.specs.declared.Head.{Head}
use Rattle.dispatch_rule.specs.Rule.{State, idle, worked}
use Rattle.dispatch_steps.specs.declared.Phase.{Phase}
use Rattle.dispatch_steps.specs.declared.Phase.TheVariants.{Look, Go, Rest, Idle, Other}
use Rattle.dispatch_steps.specs.declared.Board.{Board}
use Rattle.dispatch_steps.specs.declared.Plan.{Plan}
use Rattle.dispatch_steps.specs.declared.Opening.{Opening}
use Rattle.dispatch_steps.specs.declared.Stepped.{Stepped}

-- 02, request 4: "the 32-bit set of ended goals (goal g at bit g − 1)": the state that a row and such a set say
abbrev pub state_of : List Head → ℕ → State
state_of hs m = record { heads = hs; ended = has_goal m }

-- goal g alone, in a set of w goals; no other number is in such a set
abbrev pub alone : ℕ → ℕ → ℕ
alone w zero = 0
alone w (suc i) = cond (ltb i w) (single i) 0

-- what an array has for goal g, at place g - 1; 0 is no goal
abbrev pub of_goal : List ℕ → ℕ → ℕ
of_goal l zero = 0
of_goal l (suc i) = get_or l i 0

-- ---- a head is looked at, where sets have w goals
abbrev pub is_fine : ℕ → Board → Plan → Head → Bool
is_fine w b p h =
    cond (eqb h.goal 0) (eqb h.left 0)
    (leb h.goal w && (has_goal b.free h.goal && (leb 1 h.left && leb h.left (of_goal p.ticks h.goal))))

abbrev pub look_of : ℕ → Head → Board → Plan → Board
look_of w h b p =
    record {
      phase = cond (is_fine w b p h) b.phase Rest;
      free = without b.free (alone w h.goal);
      done = b.done;
    }

-- ---- a head takes a goal, if it is idle, and works
abbrev pub taking : ℕ → Head → Board → Plan → Head
taking w h b p =
    let g = lowest (has_goal b.free) w in
    cond (eqb h.goal 0) (record { goal = g; left = of_goal p.ticks g }) h

abbrev pub finishing : ℕ → Head → ℕ → ℕ
finishing w h done = cond (eqb (h.left - 1) 0) (union done (alone w h.goal)) done

abbrev pub take_of : ℕ → Head → Board → Plan → Stepped
take_of w h b p =
    let k = taking w h b p in
    record { head = k; board = record { phase = b.phase; free = without b.free (alone w k.goal); done = b.done } }

abbrev pub work_of : ℕ → Head → Board → Stepped
work_of w h b = record { head = worked h; board = record { phase = b.phase; free = b.free; done = finishing w h b.done } }

-- both in the rule's order: "takes the lowest goal, .. then .. works one tick"
abbrev pub go_of : ℕ → Head → Board → Plan → Stepped
go_of w h b p = let s = take_of w h b p in work_of w s.head s.board

-- ---- a head rests, or is made idle
abbrev pub rest_of : Head → Phase → Head
rest_of h Idle = idle
rest_of h Look = h
rest_of h Go = h
rest_of h Rest = h
rest_of h (Other n) = h

-- ---- the phase with this number
abbrev pub phase_of : ℕ → Phase
phase_of n = cond (eqb n 0) Look (cond (eqb n 1) Go (cond (eqb n 2) Rest (cond (eqb n 3) Idle (Other n))))

-- ---- a head's turn, by the phase of the board
abbrev pub turn_of : Phase → Head → Board → Plan → Stepped
turn_of Look h b p = record { head = h; board = look_of goal_limit h b p }
turn_of Go h b p = go_of goal_limit h b p
turn_of Rest h b p = record { head = rest_of h Rest; board = b }
turn_of Idle h b p = record { head = rest_of h Idle; board = b }
turn_of (Other n) h b p = record { head = rest_of h (Other n); board = b }

unfoldable pub step_of : Head → Board → Plan → Stepped
step_of h b p = turn_of b.phase h b p

-- ---- the heads of a row in turn, lowest first: the row that they leave, and the board
unfoldable pub sweep_heads : Plan → List Head → Board → List Head
sweep_heads p [] b = []
sweep_heads p (h ∷ hs) b = (step_of h b p).head ∷ sweep_heads p hs (step_of h b p).board

unfoldable pub sweep_board : Plan → List Head → Board → Board
sweep_board p [] b = b
sweep_board p (h ∷ hs) b = sweep_board p hs (step_of h b p).board

-- ---- a row gone over twice
abbrev pub next_phase : Phase → Phase
next_phase Look = Go
next_phase Go = Go
next_phase Rest = Rest
next_phase Idle = Idle
next_phase (Other n) = Other n

unfoldable pub second_of : Board → Board
second_of b = record { phase = next_phase b.phase; free = b.free; done = b.done }

unfoldable pub turn_heads : Opening → List Head → List Head
turn_heads o hs = sweep_heads o.plan (sweep_heads o.plan hs o.board) (second_of (sweep_board o.plan hs o.board))

unfoldable pub turn_board : Opening → List Head → Board
turn_board o hs = sweep_board o.plan (sweep_heads o.plan hs o.board) (second_of (sweep_board o.plan hs o.board))
