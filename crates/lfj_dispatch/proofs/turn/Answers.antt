use Rattle.dispatch_steps.specs.Steps.{turn_heads, turn_board}
use Rattle.lfj_dispatch.proofs.turn.Goals as goal

pub returns : goal.returns
unfolding turn_heads turn_board
returns c = (cc, cc)
