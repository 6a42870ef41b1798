use mathlib.Core.Path.{◌≡◌}
use Prim.Native.Nat.{◌<◌, ◌^◌}
use Rattle.sets.specs.Sets.{meet, common}
use Rattle.independence.proofs.common.Given as goal

abbrev pub invariant-loop-x : goal.invariant-loop-x
invariant-loop-x l = (l.all < 2 ^ 64) × (meet l.all (common l.listed 64 l.x-iterator.rest) ≡ common l.listed 64 l.set)
