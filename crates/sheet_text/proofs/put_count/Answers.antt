use native.Mathlib.Omega.{arith}
use Rattle.buffer.proofs.Writing.{then, recast}
use Rattle.sheet_text.proofs.Lines.{count-parts, count-length}
use Rattle.sheet_text.proofs.put_count.Goals as goal

pub put_number-o-requires : goal.put_number-o-requires
put_number-o-requires c = omega (arith, count-length c.args.n)

pub put_byte-requires : goal.put_byte-requires
put_byte-requires c = omega (arith, count-length c.args.n)

pub returns : goal.returns
returns c =
    recast (count-parts _) (then (then c.put_bytes-o.ensures c.put_number-o.ensures) c.put_byte.ensures)
