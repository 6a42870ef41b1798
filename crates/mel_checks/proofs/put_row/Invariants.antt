use Rattle.buffer.proofs.Writing.{Left}
use Rattle.mel_checks.specs.CheckTexts as X
use Rattle.mel_checks.proofs.put_row.Given as goal

abbrev pub invariant-loop-y : goal.invariant-loop-y
invariant-loop-y l = Left (X.row_text 64 l.x l.y-iterator.rest) (X.row_text 64 l.x l.m) l.at l.initial.out l.o l.out
