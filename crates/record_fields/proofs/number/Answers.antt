use native.Mathlib.Omega.{arith}
use Rattle.record_fields.proofs.Digits.{step_fits, step_lt, number_more}
use Rattle.record_fields.proofs.number.Goals as goal

pub overflow_mul-r : goal.overflow_mul-r
overflow_mul-r c =
    let x = step_fits c.loop-i.r 0 c.loop-i.i c.loop-i.invariant.fits (omega arith) (omega arith) in record { fits = omega arith }

pub overflow_add-r : goal.overflow_add-r
overflow_add-r c =
    record { fits = step_fits c.loop-i.r c.from.result c.loop-i.i c.loop-i.invariant.fits (omega arith) (omega arith) }

pub loop-i-preserved : goal.loop-i-preserved
loop-i-preserved c = let l = c.loop-i in
    let more = number_more c.args.b.now c.args.at l.i in
    record { so_far = cc; fits = step_lt l.r c.from.result l.i l.invariant.fits (omega arith) }
