use Rattle.std.proofs.Common.{ℕ, ◌≡◌, ◌<◌, cond, get_or}
use Rattle.sets.specs.Sets.{has}
use Rattle.mel_stages.proofs.note.Given as goal

abbrev pub invariant-loop-x : goal.invariant-loop-x
invariant-loop-x l = (x : ℕ) → x < 64 → cond (has l.x-iterator.rest x) l.s (get_or l.own x 0) ≡ cond (has l.m x) l.s (get_or l.initial.own x 0)
