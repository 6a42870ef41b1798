use lib.Pow.{pow_mono}
use native.Mathlib.Nat.{lt_of_lt_of_le}
use Prim.Native.Nat.{◌≤◌}
use mathlib.Core.Path.{sym}
use native.Mathlib.Omega.{arith}
use Rattle.sets.proofs.Membership.{shr_within, lt_within}
use Rattle.sets.proofs.within.Goals as goal

pub returns-then-v-lt64 : goal.returns-then-v-lt64
returns-then-v-lt64 c = shr_within c.args.v c.args.set

pub returns-else-v-lt64 : goal.returns-else-v-lt64
returns-else-v-lt64 c =
    let l : 64 ≤ c.args.v = omega arith in
    sym (lt_within c.args.v c.args.set (lt_of_lt_of_le c.ranges.set.fits (pow_mono l)))
