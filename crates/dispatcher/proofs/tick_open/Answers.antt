use mathlib.Core.Path.{refl, ap, ◌∙◌}
use Rattle.sets.specs.Sets.{below}
use Rattle.record.proofs.WellFormed.{fine_well_formed}
use Rattle.clause.proofs.Decoded.{clause-count, clause-few}
use Rattle.order.proofs.Decoded.{clause-waiting}
use Rattle.dispatcher.proofs.Making.{made_is, ticks_of_lem}
use Rattle.dispatcher.proofs.tick_open.Goals as goal

pub below-all-requires : goal.below-all-requires
below-all-requires c = clause-few _ (fine_well_formed _ c.args.given.accepted) _ c.decode-c.ensures

pub waiting_for-waiting-requires : goal.waiting_for-waiting-requires
waiting_for-waiting-requires c = clause-few _ (fine_well_formed _ c.args.given.accepted) _ c.decode-c.ensures

pub returns : goal.returns
returns c =
    let a = c.args in
    made_is _ a.heads a.ended _ _ _ _ _ _ _ _ _ _ _
    (record {
      all_is = c.below-all.ensures ∙ ap below (clause-count _ (fine_well_formed _ c.args.given.accepted) _ c.decode-c.ensures);
      left_is = c.without-left.ensures;
      waiting_is = clause-waiting _ (fine_well_formed _ c.args.given.accepted) _ c.decode-c.ensures c.without-left.result c.waiting_for-waiting.ensures;
      ready_is = c.without-ready.ensures;
      known_is = c.subset-known.ensures;
      enough_is = c.few.ensures;
      ok_is = refl;
      phase_is = c.kept-phase.ensures;
      free_is = c.without-free.ensures;
    })
    (ticks_of_lem _ c.decode-c.ensures) c.bad_row.ensures
