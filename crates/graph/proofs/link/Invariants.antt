use Rattle.graph.proofs.Linking.{Linking}
use Rattle.graph.proofs.link.Given as goal

abbrev pub invariant-loop-i : goal.invariant-loop-i
invariant-loop-i l = Linking 32 l.front l.later l.initial.rows l.rows l.i-iterator.rest
