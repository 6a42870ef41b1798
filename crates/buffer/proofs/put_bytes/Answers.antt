use Rattle.std.proofs.Common.{ℕ, refl, arith}
use native.Mathlib.Nat.{add-zero}
use native.Mathlib.Numerals.{add-one}
use lib.ListN.{drop_of_length-le}
use lib.Seq.{drop-cons}
use Rattle.buffer.proofs.Writing.{start, onward, done, arrive, copied, past}
use Rattle.buffer.proofs.put_bytes.Goals as goal

pub returns-then-end-out : goal.returns-then-end-out
returns-then-end-out c = copied _ _ _ _ _ (omega arith) (omega arith) (search)

pub loop-i-init : goal.loop-i-init
loop-i-init c = rw add-zero (start _ _ _)

pub loop-i-preserved : goal.loop-i-preserved
loop-i-preserved c = onward c.loop-i.invariant (arrive (omega arith) c.put_byte.ensures) (rw (add-one, drop-cons {A = ℕ} c.args.s.now c.loop-i.i 0 (omega arith)) refl)

pub returns-after-loop-i : goal.returns-after-loop-i
returns-after-loop-i c = arrive (omega arith) (done c.loop-i.invariant (drop_of_length-le c.args.s.now {i = c.loop-i.i} (omega arith)))

pub returns-else-at-out : goal.returns-else-at-out
returns-else-at-out c = past _ _ _ c.if-at-out.false
