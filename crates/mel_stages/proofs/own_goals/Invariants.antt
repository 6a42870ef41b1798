use Rattle.std.proofs.Common.{◌≤◌}
use Rattle.mel_stages.specs.Masks as M
use Rattle.mel_stages.proofs.own_goals.Given as goal

abbrev pub invariant-loop-g : goal.invariant-loop-g
invariant-loop-g l = (l.fn.stage.after ≤ l.g) × M.OwnGoals 64 l.sets l.g l.fn.stage.last l.k l.own
