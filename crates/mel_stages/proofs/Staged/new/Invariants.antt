use Rattle.std.proofs.Common.{◌≡◌, ◌+◌}
use Rattle.mel_stages.proofs.Masks.{filled}
use Rattle.mel_stages.proofs.Staged.new.Given as goal

abbrev pub invariant-loop-g : goal.invariant-loop-g
invariant-loop-g l = l.before ≡ filled 33 l.sets (l.g + 1)
