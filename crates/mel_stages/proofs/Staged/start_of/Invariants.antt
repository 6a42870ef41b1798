use Rattle.std.proofs.Common.{◌≡◌, ℕ}
use Rattle.sets.specs.Sets.{has}
use Rattle.mel_stages.specs.Mel as W
use Rattle.mel_stages.proofs.Staged.start_of.Given as goal

abbrev pub invariant-loop-p : goal.invariant-loop-p
invariant-loop-p l = ((x : ℕ) → has l.after x ≡ W.occurs l.self.sets.now l.p l.q x) × (W.start 64 l.self.head l.self.sets.now l.q ≡ W.largest 64 l.self.head l.self.sets.now l.q l.p)
