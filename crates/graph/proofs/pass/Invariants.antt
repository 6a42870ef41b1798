use mathlib.Core.List.{List}
use Prim.Native.Nat.{ℕ, suc}
use Rattle.graph.specs.Graph.{ahead, goals_of}
use Rattle.graph.specs.Passes.{pass}
use Rattle.graph.proofs.Gathering.{Filled, Kept}
use Rattle.graph.proofs.pass.Given as goal

-- row k of the pass
abbrev pub row : ℕ → List ℕ → ℕ → ℕ
row n rows k = goals_of n (pass n (ahead rows) (suc k))

abbrev pub invariant-loop-i : goal.invariant-loop-i
invariant-loop-i l = Filled 32 l.n (row l.n l.rows) l.i l.next × Kept l.n (row l.n l.rows) l.rows l.i l.still
