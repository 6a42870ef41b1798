-- The heaviest chain of an order R on the goals 1 to n, where goal g weighs w g (02, request 4: "heaviest chain C", where a goal weighs its ticks).
use Rattle.std.specs.Prelude.{◌≡◌, Bool, true, cond, List, [], ◌∷◌, ℕ, zero, suc, ◌+◌, ◌≤◌, max, length}
use Rattle.schedule.specs.Range.{Goals}

-- a chain, written from its last goal to its first: each goal is before the one to its left
abbrev pub Follows : (ℕ → ℕ → Bool) → ℕ → List ℕ → Type 0
Follows R g [] = Unit {0}
Follows R g (i ∷ c) = R i g ≡ true

abbrev pub IsChain : (ℕ → ℕ → Bool) → ℕ → List ℕ → Type 0
IsChain R n [] = Unit {0}
IsChain R n (g ∷ c) = Goals n g × Follows R g c × IsChain R n c

-- what a chain weighs
abbrev pub weight : (ℕ → ℕ) → List ℕ → ℕ
weight w [] = 0
weight w (g ∷ c) = w g + weight w c

-- C is the weight of the heaviest chain: no chain weighs more, and some chain weighs C
pub record IsHeaviest (R : ℕ → ℕ → Bool) (n : ℕ) (w : ℕ → ℕ) (C : ℕ) : Type 0 where
  pub most : (c : List ℕ) → IsChain R n c → weight w c ≤ C
  pub met : (c : List ℕ) × IsChain R n c × (weight w c ≡ C)

-- ---- The same, computed; `heaviest_is` of proofs/Heaviest says so. A row has, for the goals m, m - 1, .. 1, the weight of the heaviest chain that ends with the goal.
module _ (R : ℕ → ℕ → Bool) where
  -- the heaviest in the row that goal j can follow
  abbrev pub best_before : ℕ → List ℕ → ℕ
  best_before j [] = 0
  best_before j (x ∷ xs) = max (best_before j xs) (cond (R (suc (length xs)) j) x 0)

  abbrev pub row : (ℕ → ℕ) → ℕ → List ℕ
  row w zero = []
  row w (suc m) = let r = row w m in (w (suc m) + best_before (suc m) r) ∷ r

abbrev pub largest : List ℕ → ℕ
largest [] = 0
largest (x ∷ xs) = max (largest xs) x

abbrev pub heaviest : (ℕ → ℕ → Bool) → ℕ → (ℕ → ℕ) → ℕ
heaviest R n w = largest (row R w n)
