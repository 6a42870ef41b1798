-- What the words lose nothing of, for every record of bytes, of any length: each value fits the bits that its word has for it.
use Rattle.std.specs.Prelude.{◌≡◌, List, ◌↔◌, ℕ, ◌/◌, ◌^◌, ◌≤◌, ◌<◌}
use Rattle.std.proofs.Math.Option.{some}
use Rattle.graph.specs.Passes.{pass_limit}
use Rattle.record_fields.specs.Fields.{goal_count}
use Rattle.record_rules.specs.Outcome.{refused, accepted, values, Accepted}
use Rattle.record.specs.WellFormed.{WellFormed}
use Rattle.expression.specs.Search.{Four}
use Rattle.expression_grammar.specs.Check.{same, differs}
use Rattle.form.specs.Form.{form_answer, form_length, shown}
use Rattle.mel.specs.Annotation.{mel_answer}
use Rattle.record_text.specs.declared.Span.{Span}
use Rattle.record_text.specs.Texts.{goal_text, no_span}
use Rattle.annotator.specs.Answers.{read, passes, check}
use Rattle.lfj_words.specs.Words.{read_word, after_word, form_word, mel_word, check_word}
use Rattle.lfj.specs.Calls.{after, variables, text_word}

-- the place of every refusal
pub record PlacesFit (b : List ℕ) : Type 0 where
  pub of_read : (k p : ℕ) → read b ≡ refused k p → p < 2 ^ 32
  pub of_variables : (k p : ℕ) → variables b ≡ refused k p → p < 2 ^ 32
  pub of_passes : (k p : ℕ) → passes b ≡ refused k p → p < 2 ^ 32
  pub of_after : (g k p : ℕ) → after b g ≡ refused k p → p < 2 ^ 32
  pub of_form : (buf : List ℕ) (k p : ℕ) → form_answer b buf ≡ refused k p → p < 2 ^ 32
  pub of_length : (k p : ℕ) → form_length b ≡ refused k p → p < 2 ^ 32
  pub of_mel : (buf : List ℕ) (k p : ℕ) → mel_answer b buf ≡ refused k p → p < 2 ^ 32
  pub of_text : (g k p : ℕ) → goal_text b g ≡ refused k p → p < 2 ^ 32
  pub of_check : (t : List ℕ) (k p : ℕ) → check b t ≡ refused k p → p < 2 ^ 32

-- lengths, a goal's text, goals and the number of passes
pub record ValuesFit (b : List ℕ) : Type 0 where
  pub of_passes : (k : ℕ) → passes b ≡ accepted k → (1 ≤ k) × (k ≤ pass_limit)
  pub of_form : (buf : List ℕ) (n : ℕ) → form_answer b buf ≡ accepted n → n < 2 ^ 32
  pub of_length : (n : ℕ) → form_length b ≡ accepted n → n < 2 ^ 32
  pub of_thirteen : (q : Four) → shown b ≡ some q → (q.a < 2 ^ 6) × (q.b < 2 ^ 6) × (q.c < 2 ^ 6) × (q.d < 2 ^ 6)
  pub of_mel : (buf : List ℕ) (n : ℕ) → mel_answer b buf ≡ accepted n → n < 2 ^ 32
  pub of_text : (g : ℕ) (s : Span) → goal_text b g ≡ accepted s → (s.place < 2 ^ 32) × (s.size < 2 ^ 16)
  pub of_check : (t : List ℕ) (i j : ℕ) → check b t ≡ accepted (differs i j) → (i < 2 ^ 8) × (j < 2 ^ 8)

-- bits 56 to 63 are the refusal's number, 0 if accepted
pub record NumbersSay (b : List ℕ) : Type 0 where
  pub of_read : read_word (read b) / 2 ^ 56 ≡ (values 0 (read b)).number
  pub of_variables : read_word (variables b) / 2 ^ 56 ≡ (values 0 (variables b)).number
  pub of_passes : read_word (passes b) / 2 ^ 56 ≡ (values 0 (passes b)).number
  pub of_after : (g : ℕ) → after_word (after b g) / 2 ^ 56 ≡ (values 0 (after b g)).number
  pub of_form : (buf : List ℕ) → form_word (form_answer b buf) (shown b) / 2 ^ 56 ≡ (values 0 (form_answer b buf)).number
  pub of_length : form_word (form_length b) (shown b) / 2 ^ 56 ≡ (values 0 (form_length b)).number
  pub of_mel : (buf : List ℕ) → mel_word (mel_answer b buf) / 2 ^ 56 ≡ (values 0 (mel_answer b buf)).number
  pub of_text : (g : ℕ) → text_word (goal_text b g) / 2 ^ 56 ≡ (values no_span (goal_text b g)).number
  pub of_check : (t : List ℕ) → check_word (check b t) / 2 ^ 56 ≡ (values same (check b t)).number

-- so these bits are 0 exactly if the call is accepted; for the goals after a goal, exactly if the record is well formed and has the goal
pub record ZeroAccepted (b : List ℕ) : Type 0 where
  pub of_read : (read_word (read b) / 2 ^ 56 ≡ 0) ↔ Accepted (read b)
  pub of_variables : (read_word (variables b) / 2 ^ 56 ≡ 0) ↔ Accepted (variables b)
  pub of_passes : (read_word (passes b) / 2 ^ 56 ≡ 0) ↔ Accepted (passes b)
  pub of_after : (g : ℕ) → (after_word (after b g) / 2 ^ 56 ≡ 0) ↔ (WellFormed b × (1 ≤ g) × (g ≤ goal_count b))
  pub of_form : (buf : List ℕ) → (form_word (form_answer b buf) (shown b) / 2 ^ 56 ≡ 0) ↔ Accepted (form_answer b buf)
  pub of_length : (form_word (form_length b) (shown b) / 2 ^ 56 ≡ 0) ↔ Accepted (form_length b)
  pub of_mel : (buf : List ℕ) → (mel_word (mel_answer b buf) / 2 ^ 56 ≡ 0) ↔ Accepted (mel_answer b buf)
  pub of_text : (g : ℕ) → (text_word (goal_text b g) / 2 ^ 56 ≡ 0) ↔ Accepted (goal_text b g)
  pub of_check : (t : List ℕ) → (check_word (check b t) / 2 ^ 56 ≡ 0) ↔ Accepted (check b t)
