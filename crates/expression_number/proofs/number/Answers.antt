use mathlib.Core.Path.{sym, subst}
use native.Mathlib.Omega.{arith}
use Rattle.std.specs.Prelude.{Ok}
use Rattle.expression_number.specs.Nodes.{Numbered}
use Rattle.expression_number.proofs.Digits.{num_one, num_two}
use Rattle.expression_number.proofs.number.Goals as goal

pub returns-then-is_ascii_digit : goal.returns-then-is_ascii_digit
returns-then-is_ascii_digit c =
    let d = c.if-is_ascii_digit.ensures.cases in
    subst (λ z. Numbered 32 c.args.text.now c.args.at (Ok z)) (sym c.goal.ensures)
    (num_two 32 c.args.text.now c.args.at c.from-first.result c.from.result (omega arith) (omega arith) (omega (arith, d)) (omega arith) (omega (arith, d)))

pub returns-else-is_ascii_digit : goal.returns-else-is_ascii_digit
returns-else-is_ascii_digit c =
    subst (λ z. Numbered 32 c.args.text.now c.args.at (Ok z)) (sym c.goal-else-is_ascii_digit.ensures)
    (num_one 32 c.args.text.now c.args.at c.from-first.result (omega arith) (omega arith) (omega arith) (rw (sym c.byte-d.ensures) c.if-is_ascii_digit.ensures.cases))
