use Rattle.buffer.proofs.Writing.{Left}
use Rattle.mel_checks.specs.CheckTexts as X
use Rattle.mel_checks.proofs.put_grounds.Given as goal

abbrev pub invariant-loop-x : goal.invariant-loop-x
invariant-loop-x l = Left (X.grounds_text 64 l.x-iterator.rest) (X.grounds_text 64 l.m) l.at l.initial.out l.o l.out
