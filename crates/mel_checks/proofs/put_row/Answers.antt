use Rattle.std.proofs.Common.{◌≡◌, ◌++◌, ap, length, length-append, arith}
use Rattle.buffer.proofs.Writing.{start, onward, done}
use Rattle.mel_stages.specs.Mel as W
use Rattle.mel_checks.specs.CheckTexts as X
use Rattle.mel_checks.proofs.Checks.{row_step, row-end}
use Rattle.mel_checks.proofs.put_row.Goals as goal
use Rattle.mel_checks.proofs.put_row.Goals.{In-Some}

-- what a turn writes, and what it leaves
turn : (c : In-Some) → X.row_text 64 c.args.x c.loop-y.y-iterator.rest ≡ X.item (W.Indep c.args.x c.in-Some.y) ++ X.row_text 64 c.args.x c.next.new.self.rest
turn c = row_step 64 _ _ _ _ c.in-Some.ensures.steps

pub loop-y-init : goal.loop-y-init
loop-y-init c = rw (c.into_iter-y-iterator.ensures.into_iter_gives, c.members-y-items.ensures) (start _ _ _)

pub put_indep-o-requires-clause-y_bound : goal.put_indep-o-requires-clause-y_bound
put_indep-o-requires-clause-y_bound c = omega (arith, simp length-append at (ap length (turn (goal.at.put_indep-o-requires-clause-y_bound c).In-Some)))

pub loop-y-preserved : goal.loop-y-preserved
loop-y-preserved c = onward c.loop-y.invariant c.put_indep-o.ensures (turn (goal.at.loop-y-preserved c).In-Some)

pub returns : goal.returns
returns c = done c.loop-y.invariant (row-end 64 _ _ c.in-None.ensures.steps.0)
