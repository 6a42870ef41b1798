-- The facts of a clause by value, from its record: arrays with the variable set of each goal, with the variables known ground at it and with its ticks, and for
-- each variable the set of those that are listed in a pair with it.
use Rattle.std.specs.Prelude.{List, ℕ, suc}
use Rattle.logic.specs.Table.{table}
use Rattle.sets.specs.Sets.{goal_limit, variable_limit, set_of}
use Rattle.record_fields.specs.Facts.{ground_at, ticks_at}
use Rattle.record_fields.specs.Fields.{goal_count, var_count, pair_count, head_set, goal_set, listed}
use Rattle.clause.specs.declared.Clause.{Clause}

-- the variable sets of the goals, goal g at place g - 1 of w
unfoldable pub goal_sets : ℕ → List ℕ → List ℕ
goal_sets w b = table w (goal_count b) (λ i. goal_set b (suc i))

-- the variables known ground at each goal, likewise
unfoldable pub ground_sets : ℕ → List ℕ → List ℕ
ground_sets w b = table w (goal_count b) (λ i. ground_at b (suc i))

-- the ticks of each goal, likewise
unfoldable pub goal_ticks : ℕ → List ℕ → List ℕ
goal_ticks w b = table w (goal_count b) (λ i. ticks_at b (suc i))

-- the listed pairs of the variables below w: row x is the set of the variables that stand in a pair with x
unfoldable pub pair_rows : ℕ → List ℕ → List ℕ
pair_rows w b = table w w (λ x. set_of w (listed b x))

-- all of them
unfoldable pub decoded : List ℕ → Clause
decoded b =
    record {
      n = goal_count b;
      v = var_count b;
      p = pair_count b;
      head = head_set b;
      sets = goal_sets goal_limit b;
      grounds = ground_sets goal_limit b;
      ticks = goal_ticks goal_limit b;
      listed = pair_rows variable_limit b;
    }
