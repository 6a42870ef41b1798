use Rattle.std.proofs.Common.{sym, ◌∙◌, arith}
use native.Mathlib.Nat.{mod-lt}
use Rattle.case_lines.proofs.Fields.{value_more, value-end}
use Rattle.case_lines.proofs.number.Goals as goal

pub loop-b-preserved : goal.loop-b-preserved
loop-b-preserved c =
    let more = value_more c.args.s.now c.loop-b.b-index c.loop-b.v c.loop-b-test.true in
    (mod-lt _ (omega arith), rw c.from.ensures (sym more ∙ c.loop-b.invariant.1))

pub returns-clause-value : goal.returns-clause-value
returns-clause-value c = sym (value-end c.args.s.now c.loop-b.b-index c.loop-b.v (omega arith)) ∙ c.loop-b.invariant.1
