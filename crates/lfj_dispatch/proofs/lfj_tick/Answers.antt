use native.Mathlib.Omega.{arith}
use mathlib.Core.Path.{ap, ◌∙◌}
use Rattle.dispatch_steps.specs.declared.Opening.{Opening}
use Rattle.dispatch_steps.specs.Steps.{turn_heads}
use Rattle.dispatcher.specs.Openings.{turn_word}
use Rattle.dispatcher.proofs.Meaning.{tick-met}
use Rattle.lfj_dispatch.proofs.lfj_tick.Goals as goal

pub returns : goal.returns
returns c =
    let ys = c.args.heads.now in
    let r = tick-met c.args.bytes.now ys c.args.ended (omega arith) in
    let e = c.turn.ensures in
    let o = c.tick_opening-o.ensures in
    (e.0 ∙ (ap (λ (t : Opening). turn_word t ys) o ∙ r.0), e.1 ∙ (ap (λ (t : Opening). turn_heads t ys) o ∙ r.1))
