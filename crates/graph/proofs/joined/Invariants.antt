use mathlib.Core.Path.{◌≡◌}
use Prim.Native.Nat.{◌<◌, ◌^◌}
use Rattle.graph.specs.PassRows.{gather}
use Rattle.graph.proofs.joined.Given as goal

abbrev pub invariant-loop-k : goal.invariant-loop-k
invariant-loop-k l = (l.all < 2 ^ 32) × (gather 32 l.rows l.all l.k-iterator.rest ≡ gather 32 l.rows l.row l.row)
