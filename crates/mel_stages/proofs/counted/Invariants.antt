use Rattle.std.proofs.Common.{◌≡◌}
use Rattle.mel_stages.specs.Masks as M
use Rattle.mel_stages.proofs.counted.Given as goal

abbrev pub invariant-loop-g : goal.invariant-loop-g
invariant-loop-g l = (l.m ≡ M.once l.sets l.fn.stage.after l.g) × (l.t ≡ M.twice l.sets l.fn.stage.after l.g)
