use mathlib.Core.Path.{sym, ap, ◌∙◌}
use Prim.Native.Nat.{ℕ}
use native.Mathlib.Omega.{arith}
use lib.Dec.{leb}
use lib.ListN.{length}
use Rattle.std.specs.Prelude.{Ok}
use Rattle.record_rules.specs.Reading.{◌must◌else◌place◌}
use Rattle.record_goals.proofs.GoalSteps.{goal_short}
use Rattle.record_goals.proofs.goal.Goals as goal

pub returns-in_err-ensure : goal.returns-in_err-ensure
returns-in_err-ensure c =
    let a = c.args in
    let n = length a.layout.now.bytes.now in
    let text = ap (λ (x : ℕ). Ok tt must leb x n else 7 place n) c.text_at-text.ensures.value in
    let e = goal_short a.layout.now.bytes.now a.at a.before a.met _ (sym text ∙ sym c.ensure.ensures ∙ c.in_err-ensure.was) in grind (arith, e)
