use mathlib.Core.Path.{◌≡◌}
use mathlib.Core.Bool.{true}
use Prim.Native.Nat.{ℕ, ◌<◌, ◌^◌}
use lib.ListN.{length}
use Rattle.sets.specs.Sets.{has, members}
use Rattle.graph.specs.PassRows.{gather}
use Rattle.graph.proofs.joined_still.Given as goal

abbrev pub invariant-loop-left : goal.invariant-loop-left
invariant-loop-left l =
    (l.all < 2 ^ 32) × (l.left < 2 ^ 32) × (gather 32 l.rows l.all l.left ≡ gather 32 l.rows l.row l.row) × ((x : ℕ) → has l.left x ≡ true → has l.still x ≡ true)

abbrev pub decreases-loop-left : goal.decreases-loop-left
decreases-loop-left l = length (members 32 l.left)
