use mathlib.Core.Path.{ap, ◌∙◌}
use native.Mathlib.Omega.{arith}
use Rattle.std.proofs.lemmas.Result.{err_from_is_err_and}
use Rattle.std.specs.Prelude.{Err}
use Rattle.record.proofs.WellFormed.{fine_well_formed}
use Rattle.clause.proofs.Decoded.{clause-few}
use Rattle.order.proofs.Decoded.{clause-order}
use Rattle.annotator.specs.Answers.{check_outcome}
use Rattle.annotator.proofs.Checks.{text_turned, text_compared}
use Rattle.annotator.proofs.check_text.Goals as goal

pub order_of-graph-requires : goal.order_of-graph-requires
order_of-graph-requires c = clause-few _ (fine_well_formed _ c.args.given.accepted) _ c.decode-c.ensures

pub returns-in_err-drawn : goal.returns-in_err-drawn
returns-in_err-drawn c =
    let (y, e, q) = err_from_is_err_and _ c.from_residual.ensures.1 in
    ap check_outcome (e ∙ ap Err q) ∙ text_turned c.args.given.bytes.now c.args.text.now _ _ c.goal_count-n.ensures.value c.in_err-drawn.ensures

pub returns : goal.returns
returns c =
    let w = fine_well_formed _ c.args.given.accepted in
    text_compared c.args.given.bytes.now c.args.text.now _ _ c.order_of-graph.result _ c.goal_count-n.ensures.value (omega (arith, c.goal_count-n.ensures.value, w.goals_to)) c.in_ok-drawn.ensures
    (clause-order _ w _ c.decode-c.ensures c.order_of-graph.ensures) c.compare.ensures
