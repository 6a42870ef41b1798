use Rattle.lfj_dispatch.proofs.SweepLaws.{Swept}
use Rattle.lfj_dispatch.proofs.sweep.Given as goal

abbrev pub invariant-loop-h : goal.invariant-loop-h
invariant-loop-h l = Swept l.p l.fn.heads l.fn.b l.h-index l.heads l.board
