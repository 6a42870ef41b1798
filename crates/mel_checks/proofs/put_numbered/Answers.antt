use native.Mathlib.Omega.{arith}
use Rattle.buffer.proofs.Decimal.{decimal-length}
use Rattle.mel_checks.proofs.put_numbered.Goals as goal

pub put_number-requires : goal.put_number-requires
put_number-requires c = omega (arith, decimal-length 1 c.args.x (omega arith))

pub put_number-requires-2 : goal.put_number-requires-2
put_number-requires-2 c = omega (arith, decimal-length 1 c.args.y (omega arith))
