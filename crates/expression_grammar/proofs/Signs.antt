-- What a byte's sign tells of the byte, and the other way.
use mathlib.Core.Path.{◌≡◌, ap}
use mathlib.Core.Bool.{◌&&◌}
use Prim.Native.Nat.{ℕ, ◌+◌, ◌<◌}
use native.Mathlib.Omega.{arith}
use lib.Dec.{eqb, leb}
use borrow.Author.Tests.{eqb-true, ne_eqb, leb-true, le-leb}
use Rattle.expression.specs.Text.{mark}
use Rattle.logic.proofs.Bools.{by_test, and-true}
use Rattle.expression_grammar.specs.Reader.{Sign, digit, joiner, opener, closer, other, sign}

pub sign_digit : (v : ℕ) → v < 10 → sign (48 + v) ≡ digit v
sign_digit v h =
    rw (
      ne_eqb (48 + v) 44 (λ e. omega arith),
      ne_eqb (48 + v) 38 (λ e. omega arith),
      ne_eqb (48 + v) 40 (λ e. omega arith),
      ne_eqb (48 + v) 41 (λ e. omega arith),
      le-leb 48 (48 + v) (omega arith),
      le-leb (48 + v) 57 (omega arith),
    )
    (ap digit (omega arith))

-- the byte is the sign's
abbrev pub Is : Sign → ℕ → Type 0
Is (digit v) b = (b ≡ 48 + v) × (v < 10)
Is (joiner k) b = b ≡ mark k
Is opener b = b ≡ 40
Is closer b = b ≡ 41
Is other b = Unit {0}

pub sign_is : (b : ℕ) → Is (sign b) b
sign_is b =
    by_test (λ s. Is s b) (eqb b 44) (λ t. eqb-true b 44 t) λ _.
    by_test (λ s. Is s b) (eqb b 38) (λ t. eqb-true b 38 t) λ _.
    by_test (λ s. Is s b) (eqb b 40) (λ t. eqb-true b 40 t) λ _.
    by_test (λ s. Is s b) (eqb b 41) (λ t. eqb-true b 41 t) λ _.
    by_test (λ s. Is s b) (leb 48 b && leb b 57)
    (λ t. let lo = leb-true 48 b (and-true (leb 48 b) (leb b 57) t).0 in let hi = leb-true b 57 (and-true (leb 48 b) (leb b 57) t).1 in (omega arith, omega arith))
    (λ _. tt)
