use native.Mathlib.Omega.{arith}
use Rattle.lfj_dispatch.proofs.SweepLaws.{swept_more, swept_all}
use Rattle.lfj_dispatch.proofs.sweep.Goals as goal

pub loop-h-preserved : goal.loop-h-preserved
loop-h-preserved c = swept_more _ _ _ _ _ _ c.loop-h.invariant (omega arith) _ c.step-out.ensures

pub returns : goal.returns
returns c = let e = swept_all _ _ _ _ _ _ c.loop-h.invariant (omega (arith, c.loop-h.invariant.long)) in (e.1, e.0)
