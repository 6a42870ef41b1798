use mathlib.Core.Path.{◌≡◌, sym, ap, ◌∙◌}
use Rattle.std.proofs.lemmas.Result.{err_from_is_err_and}
use Rattle.record.proofs.WellFormed.{fine_well_formed}
use Rattle.clause.specs.Clause.{decoded}
use Rattle.clause.proofs.Decoded.{clause-few}
use Rattle.order.specs.Order.{order}
use Rattle.order.proofs.Decoded.{clause-order}
use Rattle.record_rules.proofs.Outcomes.{same_answer, same_buffer}
use Rattle.form.proofs.Orders.{graph_asks, graph_text, graph_shown}
use Rattle.form.proofs.Outcomes.{form-refused, shown-refused}
use Rattle.form.proofs.put.Goals as goal
use Rattle.form.proofs.put.Goals.{After-decode-c, After-order_of-g}

-- the clause that was decoded, and its order
the-clause : (c : After-decode-c) → c.decode-c.result ≡ decoded c.args.b.now
the-clause c = c.decode-c.ensures ∙ ap decoded c.in_ok-given.ensures.1

the-order : (c : After-order_of-g) → c.decode-c.result ≡ decoded c.args.b.now → c.order_of-g.result ≡ order c.args.b.now
the-order c e = clause-order _ (fine_well_formed _ c.in_ok-given.ensures.0) _ e c.order_of-g.ensures

pub order_of-g-requires : goal.order_of-g-requires
order_of-g-requires c = clause-few _ (fine_well_formed _ c.in_ok-given.ensures.0) _ (the-clause (goal.at.order_of-g-requires c).After-decode-c)

pub put_rows-requires : goal.put_rows-requires
put_rows-requires c =
    let p = goal.at.put_rows-requires c in
    let (n, m, s, w) = graph_asks _ c.in_ok-given.ensures.0 _ (the-order p.After-order_of-g (the-clause p.After-decode-c)) in
    (n, m, s, w, c.requires)

pub returns-in_err-given : goal.returns-in_err-given
returns-in_err-given c =
    let p = err_from_is_err_and c.from_residual.result c.from_residual.ensures.1 in
    let e = c.in_err-given.ensures in
    rw (p.1, p.2)
    (record {
      outcome = sym (same_answer _ (form-refused _ _ e));
      goals = sym (shown-refused _ _ e);
      space_after = sym (same_buffer _ (form-refused _ _ e));
    })

pub returns : goal.returns
returns c =
    let p = goal.at.returns c in
    let f = c.in_ok-given.ensures.0 in
    let g = the-order p.After-order_of-g (the-clause p.After-decode-c) in
    let r = c.put_rows.ensures in
    let e = graph_text _ f _ g in
    record {
      outcome = r.outcome ∙ same_answer _ e;
      goals = r.goals ∙ graph_shown _ f _ g;
      space_after = r.space_after ∙ same_buffer _ e;
    }
