use mathlib.Core.Path.{sym, ◌∙◌}
use native.Mathlib.Omega.{arith}
use Rattle.record_fields.specs.Fields as F
use Rattle.record_fields.proofs.Places.{place_turn}
use Rattle.record_fields.proofs.Facts.{ground_more, met_more}
use Rattle.record_rules.proofs.Fine.{goals_go, goals_stop}
use Rattle.record.proofs.Facts.{facts_plain}
use Rattle.record.proofs.rest.Goals as goal

pub goal_fine-requires-clause-plain : goal.goal_fine-requires-clause-plain
goal_fine-requires-clause-plain c =
    let l = c.loop in λ e. facts_plain _ c.requires.fine e l.counter l.at l.before l.met l.invariant.here

pub returns-then-not-goal_fine : goal.returns-then-not-goal_fine
returns-then-not-goal_fine c =
    let l = c.loop in
    let b = c.args.layout.now.bytes.now in
    let bad = sym c.goal_fine.ensures ∙ c.if-not-goal_fine.true in
    c.goal.ensures ∙ goals_stop b l.counter (F.goal_count b) l.at l.before l.met (omega arith) l.invariant.here l.invariant.fine bad

pub loop-preserved : goal.loop-preserved
loop-preserved c =
    let l = c.loop in
    let b = c.args.layout.now.bytes.now in
    let here = l.invariant.here in
    let good = sym c.goal_fine.ensures ∙ c.if-not-goal_fine.false in
    record {
      fine = goals_go b l.counter l.at l.before l.met here l.invariant.fine good;
      here = (
        (let e = place_turn b l.counter l.at here.0 in cc),
        c.whole_ground-before.ensures ∙ ground_more b l.counter l.at here.0,
        c.union-met.ensures ∙ met_more b l.counter l.at l.met _ here.0 here.2 c.whole_set.ensures,
      );
      small = omega arith;
    }
