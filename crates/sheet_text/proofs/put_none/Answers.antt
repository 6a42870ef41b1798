use native.Mathlib.Omega.{arith}
use Rattle.buffer.proofs.Writing.{then, recast}
use Rattle.form_first_n.specs.FirstN.{four}
use Rattle.sheet_text.proofs.Lines.{none-parts, none-length}
use Rattle.sheet_text.proofs.put_none.Goals as goal

pub put_spaced-o-requires : goal.put_spaced-o-requires
put_spaced-o-requires c = omega (arith, none-length (four c.args.q))

pub put_spaced-o-requires-2 : goal.put_spaced-o-requires-2
put_spaced-o-requires-2 c = omega (arith, none-length (four c.args.q))

pub put_spaced-o-requires-3 : goal.put_spaced-o-requires-3
put_spaced-o-requires-3 c = omega (arith, none-length (four c.args.q))

pub put_spaced-requires : goal.put_spaced-requires
put_spaced-requires c = omega (arith, none-length (four c.args.q))

pub returns : goal.returns
returns c =
    recast (none-parts _) (then (then (then (then c.put_bytes-o.ensures c.put_spaced-o.ensures) c.put_spaced-o-2.ensures) c.put_spaced-o-3.ensures) c.put_spaced.ensures)
