use Rattle.std.proofs.Common.{sym, ap, ◌∙◌, arith}
use Rattle.case_lines.specs.Line.{past}
use Rattle.case_lines.proofs.Fields.{fields_zero, fields_more}
use Rattle.case_lines.proofs.field_start.Goals as goal

pub loop-init : goal.loop-init
loop-init c = (omega arith, fields_zero _)

pub loop-preserved : goal.loop-preserved
loop-preserved c =
    (omega arith, c.after-at.ensures.s_value ∙ ap (past 32) c.loop.invariant.1 ∙ sym (fields_more c.args.s.now c.loop.counter))
