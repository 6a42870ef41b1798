-- The goal count of a clause that was decoded.
use mathlib.Core.Path.{◌≡◌, ap}
use mathlib.Core.List.{List}
use Prim.Native.Nat.{ℕ, ◌≤◌}
use native.Mathlib.Omega.{arith}
use Rattle.sets.specs.Sets.{goal_limit}
use Rattle.record_fields.specs.Fields.{goal_count}
use Rattle.record.specs.WellFormed.{WellFormed}
use Rattle.clause.specs.declared.Clause.{Clause}
use Rattle.clause.specs.Clause.{decoded}

module _ (b : List ℕ) (w : WellFormed b) (c : Clause) (e : c ≡ decoded b) where
  pub clause-count : c.n ≡ goal_count b
  unfolding decoded
  clause-count = ap (λ (x : Clause). x.n) e

  pub clause-few : c.n ≤ goal_limit
  clause-few = omega (arith, clause-count, w.goals_to)
