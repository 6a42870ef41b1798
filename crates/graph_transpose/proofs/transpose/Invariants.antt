use Rattle.graph_transpose.proofs.Turning.{Turned}
use Rattle.graph_transpose.proofs.transpose.Given as goal

abbrev pub invariant-loop-i : goal.invariant-loop-i
invariant-loop-i l = Turned 32 l.fn.rows l.i l.turned
