-- The facts of the goals in arrays, and filling them goal after goal, for any width.
use mathlib.Core.Path.{◌≡◌, ap, ◌∙◌}
use mathlib.Core.List.{List}
use Prim.Native.Nat.{ℕ, suc, ◌+◌, ◌-◌, ◌≤◌, ◌<◌}
use native.Mathlib.Omega.{arith}
use lib.ListN.{get_or, set, replicate}
use Rattle.logic.specs.Table.{table}
use Rattle.logic.proofs.Table.{table_at, table-zero, table_more}
use Rattle.record_fields.specs.Fields as F
use Rattle.record_fields.specs.Facts.{ground_of, ticks_of, ground_at, ticks_at}
use Rattle.record_fields.specs.Fields.{goal_count, goal_set, goal_place, place_after}
use Rattle.clause.specs.Clause.{goal_sets, ground_sets, goal_ticks}

-- ---- any fact f of a goal: those of the first g goals
module _ (w : ℕ) (f : ℕ → ℕ) where
  unfoldable pub facts_after : ℕ → List ℕ
  facts_after g = table w g (λ i. f (suc i))

  pub facts_zero : replicate w 0 ≡ facts_after 0
  unfolding facts_after
  facts_zero = table-zero w (λ i. f (suc i))

  pub facts_more : (g : ℕ) (l : List ℕ) (v : ℕ) → g < w → l ≡ facts_after g → v ≡ f (suc g) → set l g v ≡ facts_after (g + 1)
  unfolding facts_after
  facts_more g l v h e q = table_more w g (λ i. f (suc i)) l v h e q

module _ (b : List ℕ) where
  -- ---- the goal that starts behind the first g goals is goal g + 1
  goal_here : (f : ℕ → ℕ) (g at : ℕ) → at ≡ place_after b g → f at ≡ f (goal_place b (suc g))
  goal_here f g at p = let one : g ≡ suc g - 1 = omega arith in ap f (p ∙ ap (place_after b) one)

  pub set_here : (g at : ℕ) → at ≡ place_after b g → F.set b at ≡ goal_set b (suc g)
  unfolding goal_set
  set_here = goal_here (F.set b)

  pub ground_here : (g at : ℕ) → at ≡ place_after b g → ground_of b at ≡ ground_at b (suc g)
  unfolding ground_at
  ground_here = goal_here (ground_of b)

  pub ticks_here : (g at : ℕ) → at ≡ place_after b g → ticks_of b at ≡ ticks_at b (suc g)
  unfolding ticks_at
  ticks_here = goal_here (ticks_of b)

module _ (w : ℕ) (b : List ℕ) where
  -- ---- all goals
  pub sets_all : (g : ℕ) → g ≡ goal_count b → facts_after w (goal_set b) g ≡ goal_sets w b
  unfolding facts_after goal_sets
  sets_all g e = ap (facts_after w (goal_set b)) e

  pub grounds_all : (g : ℕ) → g ≡ goal_count b → facts_after w (ground_at b) g ≡ ground_sets w b
  unfolding facts_after ground_sets
  grounds_all g e = ap (facts_after w (ground_at b)) e

  pub ticks_all : (g : ℕ) → g ≡ goal_count b → facts_after w (ticks_at b) g ≡ goal_ticks w b
  unfolding facts_after goal_ticks
  ticks_all g e = ap (facts_after w (ticks_at b)) e

  -- goal i + 1 at place i
  pub goal-at : (i : ℕ) → goal_count b ≤ w → i < goal_count b → get_or (goal_sets w b) i 0 ≡ goal_set b (suc i)
  unfolding goal_sets
  goal-at i h l = table_at w (goal_count b) (λ k. goal_set b (suc k)) i (omega arith) l

  pub ground_at_lem : (i : ℕ) → goal_count b ≤ w → i < goal_count b → get_or (ground_sets w b) i 0 ≡ ground_at b (suc i)
  unfolding ground_sets
  ground_at_lem i h l = table_at w (goal_count b) (λ k. ground_at b (suc k)) i (omega arith) l
