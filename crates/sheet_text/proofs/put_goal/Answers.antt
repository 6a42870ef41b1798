use native.Mathlib.Omega.{arith}
use Rattle.buffer.proofs.Writing.{then, recast}
use Rattle.sheet_text.proofs.Lines.{goal-parts, goal-length}
use Rattle.sheet_text.proofs.put_goal.Goals as goal

pub put_number-o-requires : goal.put_number-o-requires
put_number-o-requires c = omega (arith, goal-length c.args.g c.args.shown.now)

pub put_byte-o-requires : goal.put_byte-o-requires
put_byte-o-requires c = omega (arith, goal-length c.args.g c.args.shown.now)

pub put_bytes-o-requires : goal.put_bytes-o-requires
put_bytes-o-requires c = omega (arith, goal-length c.args.g c.args.shown.now)

pub put_byte-requires : goal.put_byte-requires
put_byte-requires c = omega (arith, goal-length c.args.g c.args.shown.now)

pub returns : goal.returns
returns c =
    recast (goal-parts _ _) (then (then (then c.put_number-o.ensures c.put_byte-o.ensures) c.put_bytes-o.ensures) c.put_byte.ensures)
