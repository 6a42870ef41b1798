use Rattle.buffer.proofs.Writing.{Left}
use Rattle.mel_checks.specs.CheckTexts as X
use Rattle.mel_checks.proofs.put_rows.Given as goal

abbrev pub invariant-loop-x : goal.invariant-loop-x
invariant-loop-x l = Left (X.rows_text 64 l.own l.listed l.k l.x-iterator.rest) (X.rows_text 64 l.own l.listed l.k l.k) l.at l.initial.out l.o l.out
