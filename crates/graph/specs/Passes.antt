-- The closure in passes. 02, 5: "it shall be closed in passes, each adding exactly those waits that a chain of two waits standing at its start gives, and end with
-- the first that adds none. .. Beside it the closure gives the number of passes". W i j says that j waits for i; the goals are 1 to n.
use Rattle.std.specs.Prelude.{◌≡◌, Bool, true, false, ◌&&◌, ◌||◌, ℕ, zero, suc, ◌-◌, ◌≤◌, ◌<◌, eqb}
use Rattle.std.specs.Bool.{beq}
use Rattle.logic.specs.Quantifiers.{every, some_below, lowest}
use Rattle.graph.specs.Graph.{ahead, graph_of}
use Rattle.graph.specs.declared.Closed.{Closed}
use Rattle.graph.specs.declared.Graph.{Graph}

-- a pass: the waits at its start, and "exactly those waits that a chain of two waits standing at its start gives"
abbrev pub pass : ℕ → (ℕ → ℕ → Bool) → ℕ → ℕ → Bool
pass n W i j = W i j || some_below n (λ k. W i (suc k) && W (suc k) j)

-- the waits after k passes
abbrev pub after : ℕ → (ℕ → ℕ → Bool) → ℕ → ℕ → ℕ → Bool
after n W zero = W
after n W (suc k) = pass n (after n W k)

-- the goals have the same waits by U and by X
abbrev pub same_waits : ℕ → (ℕ → ℕ → Bool) → (ℕ → ℕ → Bool) → Bool
same_waits n U X = every n (λ i. every n (λ j. beq (U (suc i) (suc j)) (X (suc i) (suc j))))

-- pass k, counted from 1, adds none
abbrev pub adds_none : ℕ → (ℕ → ℕ → Bool) → ℕ → Bool
adds_none n W zero = false
adds_none n W (suc k) = same_waits n (after n W (suc k)) (after n W k)

-- "and end with the first that adds none": the number of passes. Pass n + 1 adds none at the latest; `passes-first` of proofs/Theorems has it in words.
unfoldable pub passes : ℕ → (ℕ → ℕ → Bool) → ℕ
passes n W = lowest (adds_none n W) (suc n)

-- pass k is "the first that adds none": it leaves the waits of the goals as they are, and each before it adds one
pub record FirstThatAddsNone (n : ℕ) (W : ℕ → ℕ → Bool) (k : ℕ) : Type 0 where
  pub counted : 1 ≤ k
  pub adds_none : (i j : ℕ) → (1 ≤ i) × (i ≤ n) → (1 ≤ j) × (j ≤ n) → after n W k i j ≡ after n W (k - 1) i j
  pub each_adds : (m : ℕ) → 1 ≤ m → m < k
      → (i : ℕ) × (j : ℕ) × ((1 ≤ i) × (i ≤ n)) × ((1 ≤ j) × (j ≤ n)) × (after n W m i j ≡ true) × (after n W (m - 1) i j ≡ false)

-- "1 exactly if the waits were closed already": what a chain of two waits gives is a wait
abbrev pub ClosedWaits : ℕ → (ℕ → ℕ → Bool) → Type 0
ClosedWaits n W =
    (i j k : ℕ) → (1 ≤ i) × (i ≤ n) → (1 ≤ j) × (j ≤ n) → (1 ≤ k) × (k ≤ n) → W i j ≡ true → W j k ≡ true → W i k ≡ true

-- "never above 6"
abbrev pub pass_limit : ℕ
pass_limit = 6

-- each goal waits for the one before it alone: such waits of 18 to 32 goals take 6 passes (`limit_reached` of proofs/Neighbours)
abbrev pub neighbours : ℕ → ℕ → Bool
neighbours i j = eqb (suc i) j

-- a graph closed in passes, and their number
unfoldable pub closed_of : Graph → Closed
closed_of g =
    let W = ahead g.rows in
    record { graph = graph_of g.n (after g.n W (passes g.n W)); passes = passes g.n W }
