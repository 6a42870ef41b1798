use mathlib.Core.Path.{ap, ap₂, ◌∙◌}
use mathlib.Core.List.{[], ◌∷◌, ◌++◌}
use Prim.Native.Nat.{ℕ}
use native.Mathlib.Omega.{arith}
use Rattle.buffer.proofs.Writing.{then, recast}
use Rattle.buffer.proofs.Decimal.{one_digit, two_digits}
use Rattle.buffer.proofs.put_number.Goals as goal

pub returns-then-n-lt10 : goal.returns-then-n-lt10
returns-then-n-lt10 c =
    recast (ap (λ (x : ℕ). x ∷ []) c.digit.ensures ∙ one_digit c.args.n (search)) c.put_byte.ensures

pub returns-then-n-lt100 : goal.returns-then-n-lt100
returns-then-n-lt100 c =
    let n = c.args.n in
    recast (ap₂ (λ (x y : ℕ). (x ∷ []) ++ (y ∷ [])) c.digit-then-n-lt100.ensures c.digit-then-n-lt100-2.ensures ∙ two_digits n (omega arith) (omega arith))
    (then c.put_byte-o.ensures c.put_byte-then-n-lt100.ensures)
