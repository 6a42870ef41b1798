use Prim.Native.Nat.{ℕ}
use mathlib.Core.Path.{◌≡◌, ap}
use mathlib.Core.Bool.{true}
use mathlib.Core.List.{◌++◌}
use native.Mathlib.Omega.{arith}
use lib.ListN.{length, length-append}
use Rattle.buffer.proofs.Writing.{then, recast}
use Rattle.mel_checks.specs.CheckTexts as Y
use Rattle.mel_text.specs.StageTexts as X
use Rattle.mel_text.proofs.Stages.{checks-parts}
use Rattle.mel_text.proofs.put_checks.Goals as goal
use Rattle.mel_text.proofs.put_checks.Goals.{After-checks_of-c}

-- the two parts of the text
parts : (c : After-checks_of-c) →
    let a = c.args in
    let k : ℕ = c.checks_of-c.result.pairs in
    Y.grounds_text 64 c.checks_of-c.result.grounded ++ Y.pairs_text 64 a.clause.now.sets.now a.clause.now.listed.now a.stage.after a.stage.last k k ≡ X.checks_of a.clause.now true a.stage.after a.stage.last
parts c = rw (c.checks_of-c.ensures.ground_value, c.checks_of-c.ensures.pairs_value) (checks-parts 64 _ _ _ _ _ _)

pub put_grounds-o-requires : goal.put_grounds-o-requires
put_grounds-o-requires c = omega (arith, simp length-append at (ap length (parts (goal.at.put_grounds-o-requires c).After-checks_of-c)))

pub put_pairs-requires : goal.put_pairs-requires
put_pairs-requires c = omega (arith, simp length-append at (ap length (parts (goal.at.put_pairs-requires c).After-checks_of-c)))

pub returns : goal.returns
returns c = recast (parts (goal.at.returns c).After-checks_of-c) (then c.put_grounds-o.ensures c.put_pairs.ensures)
