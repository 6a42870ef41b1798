use Rattle.std.proofs.Common.{ap, ◌∙◌, arith}
use Rattle.sets.specs.Sets.{union}
use Rattle.mel_stages.proofs.Masks.{once-none, once_more, twice-none, twice_more}
use Rattle.mel_stages.proofs.counted.Goals as goal

pub loop-g-init : goal.loop-g-init
loop-g-init c = (once-none _ _, twice-none _ _)

pub loop-g-preserved : goal.loop-g-preserved
loop-g-preserved c =
    let l = c.loop-g in
    let s = c.goal-s.ensures in (
      c.union-m.ensures ∙ once_more _ _ _ _ _ (omega arith) l.invariant.0 s,
      c.union-t.ensures ∙ ap (union l.t) c.meet.ensures ∙ twice_more _ _ _ _ _ _ (omega arith) l.invariant.0 l.invariant.1 s,
    )
