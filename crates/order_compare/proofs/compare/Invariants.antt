use mathlib.Core.Path.{◌≡◌}
use Rattle.sets.specs.Sets.{set_of}
use Rattle.order_compare.proofs.Rows.{apart}
use Rattle.order_compare.proofs.compare.Given as goal

abbrev pub invariant-loop-k : goal.invariant-loop-k
invariant-loop-k l = l.uneven ≡ set_of l.k (apart l.n l.a l.b)
