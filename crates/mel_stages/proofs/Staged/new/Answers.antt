use Rattle.std.proofs.Common.{◌+◌, ◌∙◌, arith}
use Rattle.mel_stages.proofs.Masks.{upto_first, upto_next, upto_all}
use Rattle.mel_stages.proofs.Staged.new.Goals as goal

pub loop-g-init : goal.loop-g-init
loop-g-init c = upto_first 32 c.args.sets.now

pub loop-g-preserved : goal.loop-g-preserved
loop-g-preserved c = upto_next 33 c.args.sets.now c.loop-g.g c.loop-g.before c.union.result (omega arith) c.loop-g.invariant c.union.ensures

pub invariant_of-result-clause-before_is : goal.invariant_of-result-clause-before_is
invariant_of-result-clause-before_is c = c.loop-g.invariant ∙ upto_all 33 c.args.sets.now (c.loop-g.g + 1) (omega arith) (omega arith)
