-- The sets by which the four loops pass over goals that cannot belong to an N. Row i stands for goal i + 1.
use Rattle.std.specs.Prelude.{cond, List, ℕ, zero, suc, eqb, get_or}
use Rattle.sets.specs.Sets.{union, meet, without, single}
use Rattle.graph_transpose.specs.Related.{related}

-- the goals that are before some goal, of the first n
unfoldable pub leading : List ℕ → ℕ → ℕ
leading prior zero = 0
leading prior (suc n) = union (leading prior n) (get_or prior n 0)

module _ (rows prior : List ℕ) where
  -- what can be b for a, of the goals that are before some goal
  unfoldable pub seconds : ℕ → ℕ → ℕ
  seconds lead a = without (without lead (related rows prior a)) (single a)

  -- what can be d for a and b
  unfoldable pub fourths : ℕ → ℕ → ℕ
  fourths a b = without (get_or rows b 0) (related rows prior a)

  -- what can be c for a and b
  unfoldable pub thirds : ℕ → ℕ → ℕ
  thirds a b = cond (eqb (fourths a b) 0) 0 (meet (get_or rows a 0) (get_or rows b 0))

  -- what is d for a, b and c
  unfoldable pub lasts : ℕ → ℕ → ℕ → ℕ
  lasts a b c = without (fourths a b) (related rows prior c)
