use Rattle.order.specs.Arrays.{ties_in}
use Rattle.order.proofs.Waits.{Putting, row_two}
use Rattle.order.proofs.put_two.Given as goal

abbrev pub invariant-loop-i : goal.invariant-loop-i
invariant-loop-i l =
    Putting 32 l.initial.rows (row_two 32 l.initial.rows (ties_in 32 l.low l.high) l.later l.next l.j) l.i l.rows
