use mathlib.Core.Path.{ap, ◌∙◌}
use Rattle.clause.proofs.Decoded.{clause-count, clause-few}
use Rattle.clause.specs.Clause.{decoded}
use Rattle.order.proofs.Decoded.{clause-order, clause-passes}
use Rattle.record.proofs.WellFormed.{fine_well_formed}
use Rattle.annotator.proofs.Answers.{read_fine, read_refused, order_fine, order_refused, passes_fine, passes_refused}
use Rattle.annotator.proofs.order.Goals as goal

pub closure_of-closed-requires : goal.closure_of-closed-requires
closure_of-closed-requires c =
    let e = c.in-Ok.ensures in
    clause-few _ (fine_well_formed _ e.0) _ (c.decode-c.ensures ∙ ap decoded e.1)

pub returns-in-Ok : goal.returns-in-Ok
returns-in-Ok c =
    let e = c.in-Ok.ensures in
    let w = fine_well_formed _ e.0 in
    let d = c.decode-c.ensures ∙ ap decoded e.1 in
    record {
      reading_value = read_fine _ e.0 (clause-count _ w _ d);
      graph_value = order_fine _ e.0 (clause-order _ w _ d c.closure_of-closed.ensures.graph_value);
      passes_value = passes_fine _ e.0 (clause-passes _ w _ d c.closure_of-closed.ensures.passes_value);
    }

pub returns-in-Err : goal.returns-in-Err
returns-in-Err c =
    let e = c.in-Err.ensures in
    record {
      reading_value = read_refused _ _ e;
      graph_value = order_refused _ _ e c.empty.ensures;
      passes_value = passes_refused _ _ e;
    }
