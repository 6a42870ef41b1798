use mathlib.Core.Path.{◌∙◌}
use native.Mathlib.Omega.{arith}
use Rattle.record.proofs.WellFormed.{fine_well_formed}
use Rattle.record_text.proofs.Texts.{tested, in_range}
use Rattle.lfj.proofs.After.{was_accepted, after-refused, after_outside, after-row}
use Rattle.lfj.proofs.lfj_after.Goals as goal

pub row-requires : goal.row-requires
row-requires c =
    let b = c.args.bytes.now in
    let g = c.args.goal in
    let fine = was_accepted b c.order-answer.ensures.reading_value c.in-Ok.is in
    let r = in_range b g (fine_well_formed b fine.0) (tested b g c.inside.ensures c.if-inside.true fine.1) in
    (omega arith, omega arith)

pub returns-then-inside : goal.returns-then-inside
returns-then-inside c =
    let b = c.args.bytes.now in
    let g = c.args.goal in
    let fine = was_accepted b c.order-answer.ensures.reading_value c.in-Ok.is in
    c.from.ensures ∙ after-row b g fine.0 c.order-answer.ensures.graph_value (tested b g c.inside.ensures c.if-inside.true fine.1) c.row.ensures

pub returns-in-Err : goal.returns-in-Err
returns-in-Err c = after-refused _ _ _ c.order-answer.ensures.reading_value c.in-Err.is c.refused-in-Err.ensures

pub returns-else-inside : goal.returns-else-inside
returns-else-inside c =
    let b = c.args.bytes.now in
    let g = c.args.goal in
    let fine = was_accepted b c.order-answer.ensures.reading_value c.in-Ok.is in
    after_outside b g fine.0 (tested b g c.inside.ensures c.if-inside.false fine.1) c.refused.ensures
