-- The text of a goal: its place and its length in the record.
use Rattle.std.specs.Prelude.{◌&&◌, List, ℕ, leb}
use Rattle.record_fields.specs.Fields.{goal_count, text_place, text_length}
use Rattle.record_rules.specs.Outcome.{Outcome, accepted, read_then, only_if, values}
use Rattle.record_text.specs.declared.Span.{Span}

-- 01: "14 goal number outside 1 to n (0)"
abbrev pub of_goal : {A : Type 0} → List ℕ → ℕ → Outcome A → Outcome A
of_goal b g o = only_if (leb 1 g && leb g (goal_count b)) 14 0 o

unfoldable pub goal_text : List ℕ → ℕ → Outcome Span
goal_text b g = read_then b (of_goal b g (accepted (record { place = text_place b g; size = text_length b g })))

-- 01: "Otherwise the answer is the part of the lent record that holds this goal's text"; with any refusal the part is the empty one at the record's start
abbrev pub no_span : Span
no_span = record { place = 0; size = 0 }

unfoldable pub text_part : List ℕ → ℕ → Span
text_part b g = (values no_span (goal_text b g)).value
