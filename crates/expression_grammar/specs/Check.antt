-- "Check of an expression": the refusals of reading its text; "then it says 'same', or 'differs' with the first i, then j, for which just one of the
-- two orders has i before j".
use Rattle.std.specs.Prelude.{Bool, cond, List, ℕ}
use Rattle.std.specs.Bool.{beq}
use Rattle.std.proofs.Math.Option.{Option, none, some}
use Rattle.expression.specs.Expr.{Expr, before}
use Rattle.expression.specs.Search.{first_in}
use Rattle.record_rules.specs.Outcome.{Outcome, accepted, next}
use Rattle.expression_grammar.specs.TextRules.{read_text}

pub data Verdict : Type 0 where
  same : Verdict
  differs : ℕ → ℕ → Verdict

-- just one of the two orders has i before j
abbrev pub differ : (ℕ → ℕ → Bool) → (ℕ → ℕ → Bool) → ℕ → ℕ → Option (ℕ × ℕ)
differ R S i j = cond (beq (R i j) (S i j)) none (some (i, j))

-- the first i, then j, of 1 to n
unfoldable pub first_differ : ℕ → (ℕ → ℕ → Bool) → (ℕ → ℕ → Bool) → Option (ℕ × ℕ)
first_differ n R S = first_in (λ i. first_in (λ j. differ R S i j) 1 n) 1 n

abbrev pub verdict : Option (ℕ × ℕ) → Verdict
verdict none = same
verdict (some p) = differs p.0 p.1

abbrev pub judged : ℕ → (ℕ → ℕ → Bool) → Outcome Expr → Outcome Verdict
judged n R o = next o (λ e. accepted (verdict (first_differ n R (before e))))

-- the check of the text t against the order R of the goals 1 to n
unfoldable pub checked : ℕ → (ℕ → ℕ → Bool) → List ℕ → Outcome Verdict
checked n R t = judged n R (read_text n t)
