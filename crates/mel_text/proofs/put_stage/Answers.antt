use Prim.Native.Nat.{◌+◌, ◌≤◌, max}
use mathlib.Core.Path.{◌≡◌, ap, ◌∙◌}
use mathlib.Core.Bool.{Bool, true, false}
use mathlib.Core.List.{[], ◌∷◌, ◌++◌}
use native.Mathlib.Omega.{arith}
use lib.Dec.{ltb}
use lib.ListN.{length, length-append}
use Rattle.buffer.specs.Text.{non_empty}
use Rattle.buffer.proofs.Writing.{then, recast, moved, arrive}
use Rattle.mel_stages.specs.Mel as W
use Rattle.mel_text.specs.StageTexts as X
use Rattle.mel_text.proofs.Stages.{checks-opened, checks_some, stage_one, stage_parts, stage_room}
use Rattle.mel_text.proofs.put_stage.Goals as goal
use Rattle.mel_text.proofs.put_stage.Goals.{After-put_byte-start, After-put_checks-c, Else-stage}

-- the parts of a larger stage
several : (c : Else-stage) →
    let a = c.args in
    let t = X.checks_of a.clause.now false a.stage.after a.stage.last in
    (40 ∷ []) ++ t ++ W.arrow_if (non_empty t) ++ W.goals_text a.stage.after a.stage.last ++ (41 ∷ []) ≡ X.stage_of a.clause.now a.stage.after a.stage.last
several c = stage_parts 64 _ _ _ _ _ _ (λ e. omega (arith, e, c.if-stage.false))

room : (c : Else-stage) →
    let a = c.args in
    length (X.checks_of a.clause.now true a.stage.after a.stage.last) ≤ length (X.stage_of a.clause.now a.stage.after a.stage.last)
room c = stage_room 64 _ _ _ _ _ _ (λ e. omega (arith, e, c.if-stage.false))

-- where the checks end, with the parenthesis, and whether there are any
end : (c : After-put_byte-start) →
    let a = c.args in
    max c.put_byte-start.result c.put_checks-c.result ≡ a.at + (1 + length (X.checks_of a.clause.now false a.stage.after a.stage.last))
end c = omega (arith, (checks-opened 64 _ _ _ _ _ _ c.put_checks-c.ensures c.put_byte-start.ensures).place)

any : (c : After-put_checks-c) →
    let a = c.args in
    ltb a.at c.put_checks-c.result ≡ non_empty (X.checks_of a.clause.now false a.stage.after a.stage.last)
any c = moved c.put_checks-c.ensures ∙ checks_some 64 _ _ _ _ _ _

pub put_number-requires : goal.put_number-requires
put_number-requires c = let a = c.args in omega (arith, ap length (stage_one 64 a.clause.now.head a.clause.now.sets.now a.clause.now.grounds.now a.clause.now.listed.now a.stage.after a.stage.last c.if-stage.true))

pub returns-then-stage : goal.returns-then-stage
returns-then-stage c = recast (stage_one 64 _ _ _ _ _ _ c.if-stage.true) c.put_number.ensures

pub put_checks-c-requires-clause-text_fits : goal.put_checks-c-requires-clause-text_fits
put_checks-c-requires-clause-text_fits c = omega (arith, room (goal.at.put_checks-c-requires-clause-text_fits c).Else-stage)

pub put_arrow-o-requires : goal.put_arrow-o-requires
put_arrow-o-requires c = omega (arith, c.max.ensures, end (goal.at.put_arrow-o-requires c).After-put_byte-start, simp length-append at (ap length (several (goal.at.put_arrow-o-requires c).Else-stage)), ap (λ (b : Bool). length (W.arrow_if b)) (any (goal.at.put_arrow-o-requires c).After-put_checks-c))

pub put_goals-o-requires-clause-text_fits : goal.put_goals-o-requires-clause-text_fits
put_goals-o-requires-clause-text_fits c = omega (arith, c.max.ensures, end (goal.at.put_goals-o-requires-clause-text_fits c).After-put_byte-start, simp length-append at (ap length (several (goal.at.put_goals-o-requires-clause-text_fits c).Else-stage)), ap (λ (b : Bool). length (W.arrow_if b)) (any (goal.at.put_goals-o-requires-clause-text_fits c).After-put_checks-c))

pub put_byte-requires : goal.put_byte-requires
put_byte-requires c = omega (arith, c.max.ensures, end (goal.at.put_byte-requires c).After-put_byte-start, simp length-append at (ap length (several (goal.at.put_byte-requires c).Else-stage)), ap (λ (b : Bool). length (W.arrow_if b)) (any (goal.at.put_byte-requires c).After-put_checks-c))

pub returns : goal.returns
returns c =
    let start = arrive c.max.ensures (checks-opened 64 _ _ _ _ _ _ c.put_checks-c.ensures c.put_byte-start.ensures) in
    let arrow = recast (ap W.arrow_if (any (goal.at.returns c).After-put_checks-c)) c.put_arrow-o.ensures in
    recast (several (goal.at.returns c).Else-stage) (then (then (then start arrow) c.put_goals-o.ensures) c.put_byte.ensures)
