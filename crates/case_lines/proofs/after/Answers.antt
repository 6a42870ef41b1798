use Rattle.case_lines.proofs.Fields.{past-hit, past-none}
use native.Mathlib.Omega.{arith}
use Rattle.case_lines.proofs.after.Goals as goal

pub returns-then-at-s-clause-s_value : goal.returns-then-at-s-clause-s_value
returns-then-at-s-clause-s_value c = past-hit c.args.stop c.args.s.now c.args.from _ c.find-at.ensures.value

pub returns-else-at-s-clause-s_value : goal.returns-else-at-s-clause-s_value
returns-else-at-s-clause-s_value c = past-none c.args.stop c.args.s.now c.args.from _ c.find-at.ensures.value (omega arith)
