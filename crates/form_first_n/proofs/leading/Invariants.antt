use mathlib.Core.Path.{◌≡◌}
use Rattle.form_first_n.specs.Candidates.{leading}
use Rattle.form_first_n.proofs.leading.Given as goal

abbrev pub invariant-loop-before : goal.invariant-loop-before
invariant-loop-before l = l.set ≡ leading l.prior l.before-index
