use Rattle.std.proofs.Common.{◌≡◌, ◌++◌, ap, length, length-append, arith}
use Rattle.buffer.proofs.Writing.{start, onward, done}
use Rattle.mel_stages.specs.Mel as W
use Rattle.mel_checks.specs.CheckTexts as X
use Rattle.mel_checks.proofs.Checks.{grounds_step, grounds_end}
use Rattle.mel_checks.proofs.put_grounds.Goals as goal
use Rattle.mel_checks.proofs.put_grounds.Goals.{In-Some}

-- what a turn writes, and what it leaves
turn : (c : In-Some) → X.grounds_text 64 c.loop-x.x-iterator.rest ≡ X.item (W.Ground c.in-Some.x) ++ X.grounds_text 64 c.next.new.self.rest
turn c = grounds_step 64 _ _ _ c.in-Some.ensures.steps

pub loop-x-init : goal.loop-x-init
loop-x-init c = rw (c.into_iter-x-iterator.ensures.into_iter_gives, c.members-x-items.ensures) (start _ _ _)

pub put_ground-o-requires : goal.put_ground-o-requires
put_ground-o-requires c = omega (arith, simp length-append at (ap length (turn (goal.at.put_ground-o-requires c).In-Some)))

pub loop-x-preserved : goal.loop-x-preserved
loop-x-preserved c = onward c.loop-x.invariant c.put_ground-o.ensures (turn (goal.at.loop-x-preserved c).In-Some)

pub returns : goal.returns
returns c = done c.loop-x.invariant (grounds_end 64 _ c.in-None.ensures.steps.0)
