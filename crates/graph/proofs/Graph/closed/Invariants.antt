use Prim.Native.Nat.{◌-◌, ◌≤◌}
use Rattle.graph.proofs.Going.{Going}
use Rattle.graph.proofs.Graph.closed.Given as goal

-- those before this pass are made, and none was the last
abbrev pub invariant-loop-passes : goal.invariant-loop-passes
invariant-loop-passes l = (1 ≤ l.passes) × (l.passes ≤ 6) × Going 32 l.n l.initial.self.rows (l.passes - 1) l.self.rows

abbrev pub decreases-loop-passes : goal.decreases-loop-passes
decreases-loop-passes l = 6 - l.passes
