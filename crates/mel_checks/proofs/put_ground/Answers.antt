use native.Mathlib.Omega.{arith}
use Rattle.buffer.proofs.Writing.{then, recast}
use Rattle.mel_checks.proofs.Checks.{ground-parts, ground-length}
use Rattle.mel_checks.proofs.put_ground.Goals as goal

pub put_number-o-requires : goal.put_number-o-requires
put_number-o-requires c = omega (arith, ground-length c.args.x)

pub put_byte-requires : goal.put_byte-requires
put_byte-requires c = omega (arith, ground-length c.args.x)

pub returns : goal.returns
returns c =
    recast (ground-parts _) (then (then c.put_bytes-o.ensures c.put_number-o.ensures) c.put_byte.ensures)
