use mathlib.Core.Path.{◌≡◌}
use Rattle.std.specs.Prelude.{Ok}
use Rattle.record_rules.specs.Reading as R
use Rattle.record_pairs.proofs.PairTurns as T
use Rattle.record_pairs.proofs.pairs.Given as goal

abbrev pub invariant-loop-k : goal.invariant-loop-k
invariant-loop-k l = record { fine : R.pairs l.b l.k (Ok tt) ≡ Ok tt; last_is : l.last ≡ T.last l.b l.k }
