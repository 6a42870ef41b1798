use mathlib.Core.Path.{ap, ◌∙◌}
use mathlib.Core.List.{[], ◌∷◌, ◌++◌}
use native.Mathlib.Omega.{arith}
use lib.ListN.{length, length-append}
use Prim.Native.Nat.{ℕ, ◌/◌}
use Rattle.buffer.proofs.Writing.{then, recast}
use Rattle.buffer.specs.Decimal.{decimal}
use Rattle.buffer.proofs.Decimal.{one_digit, last_digit}
use Rattle.buffer.proofs.+put_digits.Goals as goal

pub returns-then-n-lt10 : goal.returns-then-n-lt10
returns-then-n-lt10 t c =
    recast (ap (λ (x : ℕ). x ∷ []) c.digit.ensures ∙ one_digit c.args.n (search)) c.put_byte.ensures

pub put_digits-o-requires : goal.put_digits-o-requires
put_digits-o-requires t c = (omega arith, omega (arith, simp length-append at (ap length (last_digit c.args.n (omega arith)))))

pub put_byte-requires-2 : goal.put_byte-requires-2
put_byte-requires-2 t c = omega (arith, simp length-append at (ap length (last_digit c.args.n (omega arith))))

pub returns : goal.returns
returns t c =
    recast (ap (λ (x : ℕ). decimal (c.args.n / 10) ++ (x ∷ [])) c.digit-2.ensures ∙ last_digit c.args.n (omega arith))
    (then c.put_digits-o.ensures c.put_byte-2.ensures)
