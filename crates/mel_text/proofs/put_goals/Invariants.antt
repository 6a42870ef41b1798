use Rattle.buffer.proofs.Writing.{Left}
use Rattle.mel_stages.specs.Mel as W
use Rattle.mel_text.proofs.Goals.{goals_left}
use Rattle.mel_text.proofs.put_goals.Given as goal

abbrev pub invariant-loop-g : goal.invariant-loop-g
invariant-loop-g l = Left (goals_left l.fn.stage.after l.g l.fn.stage.last) (W.goals_text l.fn.stage.after l.fn.stage.last) l.at l.initial.out l.o l.out
