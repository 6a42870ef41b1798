use Rattle.std.proofs.Common.{◌≡◌, ◌+◌, ◌-◌, ap, ◌∙◌, arith}
use Rattle.mel_stages.specs.Mel as W
use Rattle.mel_stages.proofs.Own.{own-none, own_turn}
use Rattle.mel_stages.proofs.own_goals.Goals as goal

pub loop-g-init : goal.loop-g-init
loop-g-init c =
    (omega arith, own-none 64 c.args.sets.now c.args.stage.last c.args.k c.args.own.now c.requires)

pub loop-g-preserved : goal.loop-g-preserved
loop-g-preserved c =
    let g = c.loop-g.g in
    let e : g - 1 + 1 ≡ g = omega arith in
    (omega arith, own_turn 64 _ _ _ _ _ _ _ _ (c.goal-s.ensures ∙ ap (W.goal c.args.sets.now) e) c.meet.ensures c.loop-g.invariant.1 c.note.ensures (omega arith) (omega arith))
