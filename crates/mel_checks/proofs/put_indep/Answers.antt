use mathlib.Core.Path.{refl}
use native.Mathlib.Omega.{arith}
use Rattle.buffer.proofs.Writing.{recast}
use Rattle.buffer.proofs.Decimal.{one_digit, two_digits}
use Rattle.mel_checks.proofs.Checks.{indep_numbered}
use Rattle.mel_checks.proofs.put_indep.Goals as goal

pub returns-then-y-lt10 : goal.returns-then-y-lt10
returns-then-y-lt10 c =
    recast (indep_numbered _ _ _ _ (one_digit _ c.if-x-lt10.true) (one_digit _ c.if-y-lt10.true) refl) c.put_numbered.ensures

pub returns-then-x-lt10 : goal.returns-then-x-lt10
returns-then-x-lt10 c =
    recast (indep_numbered _ _ _ _ (one_digit _ c.if-x-lt10.true) (two_digits _ c.if-y-lt10.false (omega arith)) refl) c.put_numbered-then-x-lt10.ensures

pub returns-then-y-lt10-2 : goal.returns-then-y-lt10-2
returns-then-y-lt10-2 c =
    recast (indep_numbered _ _ _ _ (two_digits _ c.if-x-lt10.false (omega arith)) (one_digit _ c.if-y-lt10-2.true) refl) c.put_numbered-then-y-lt10-2.ensures

pub returns : goal.returns
returns c =
    recast (indep_numbered _ _ _ _ (two_digits _ c.if-x-lt10.false (omega arith)) (two_digits _ c.if-y-lt10-2.false (omega arith)) refl) c.put_numbered-2.ensures
