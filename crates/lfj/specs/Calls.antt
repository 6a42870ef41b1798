-- What the exported functions answer beside the annotator's operations (annotator/specs/Answers, form/specs/Form, mel/specs/Annotation); the words are those of
-- lfj_words/specs/Words.
use Rattle.std.specs.Prelude.{List, ℕ}
use Rattle.graph.specs.Graph.{goals_of}
use Rattle.record_fields.specs.Fields.{goal_count, var_count}
use Rattle.record_rules.specs.Outcome.{Outcome, accepted, read_then}
use Rattle.order.specs.Order.{before}
use Rattle.record_text.specs.declared.Span.{Span}
use Rattle.record_text.specs.Texts.{of_goal}
use Rattle.lfj_words.specs.Words.{word, span_word}

-- `lfj_after`: the set of the goals that `goal` is before, goal g at bit g - 1; for a goal outside the record 14, as in 01, "14 goal number outside 1 to n
-- (0)"
unfoldable pub after : List ℕ → ℕ → Outcome ℕ
after b g = read_then b (of_goal b g (accepted (goals_of (goal_count b) (before b g))))

-- `lfj_goal_text`: the word of the span
unfoldable pub text_word : Outcome Span → ℕ
text_word o = word (λ s. span_word s.place s.size) o

-- `lfj_listed`, `lfj_head`: the variable count. `lfj_order`, `lfj_goal_sets`, `lfj_ground_sets` and `lfj_ticks` answer the goal count, as `lfj_read` does.
unfoldable pub variables : List ℕ → Outcome ℕ
variables b = read_then b (accepted (var_count b))
