use Rattle.std.proofs.Common.{◌+◌, drop}
use Rattle.buffer.proofs.Writing.{Left}
use Rattle.buffer.proofs.put_bytes.Given as goal

abbrev pub invariant-loop-i : goal.invariant-loop-i
invariant-loop-i l = Left (drop l.i l.s) l.s l.at l.initial.out (l.at + l.i) l.out
