-- What reading an expression's text for n goals gives: refusal 15, 16 or 17 with its place, or the expression.
use Rattle.std.specs.Prelude.{◌&&◌, List, ℕ, leb, length}
use Rattle.std.proofs.Math.Option.{Option, none, some}
use Rattle.expression.specs.Expr.{Expr}
use Rattle.expression_grammar.specs.Reader.{Scan, reads, stops, read}
use Rattle.expression_grammar.specs.Numbers.{misuse}
use Rattle.record_rules.specs.Outcome.{Outcome, refused, accepted, only_if}

-- "At most 32 parentheses may be open at a time." "15 text empty or above 512 bytes"
abbrev pub open_limit : ℕ
open_limit = 32

abbrev pub expression_limit : ℕ
expression_limit = 512

-- "17 the leftmost number above n or met before (its first byte), else a goal missing (the text's length)"
abbrev pub numbered : Expr → Option ℕ → Outcome Expr
numbered e none = accepted e
numbered e (some p) = refused 17 p

-- "16 not in the grammar, the limit on open parentheses included (the first byte with which no text of the grammar, of any length, goes on, or the
-- text's length if it stops early)". All of 16 comes before 17.
abbrev pub decided : ℕ → List ℕ → Scan → Outcome Expr
decided n t (stops k) = refused 16 k
decided n t (reads e) = numbered e (misuse n t e)

-- "15 text empty or above 512 bytes (0)", before the others
unfoldable pub read_text : ℕ → List ℕ → Outcome Expr
read_text n t = only_if (leb 1 (length t) && leb (length t) expression_limit) 15 0 (decided n t (read open_limit t))
