-- What an answer tells: the numbers with which each operation refuses, and that one answer has the outcome promised.
use Rattle.std.specs.Prelude.{◌≡◌, List, ◌⊎◌, ◌↔◌, ℕ, ◌≤◌, Result}
use Rattle.std.proofs.Math.Option.{some}
use Rattle.record_rules.specs.declared.Refusal.{Refusal}
use Rattle.record_rules.specs.Outcome.{refused, values, Accepted, outcome}
use Rattle.expression.specs.Search.{Four}
use Rattle.expression_grammar.specs.Check.{same}
use Rattle.record.specs.Limits.{OfReading}
use Rattle.form.specs.Form as F
use Rattle.form.specs.declared.FormError.{FormError}
use Rattle.mel.specs.Annotation as M
use Rattle.order_compare.specs.declared.Verdict.{Verdict}
use Rattle.record_text.specs.declared.Span.{Span}
use Rattle.record_text.specs.Texts.{goal_text, no_span}
use Rattle.annotator.specs.Answers.{read, passes, check, check_outcome}

-- ---- 01, "What each operation turns down": the refusals of reading, which starts every operation, and those of its own.
abbrev pub OfText : ℕ → Type 0
OfText k = OfReading k ⊎ (k ≡ 14)

abbrev pub OfCheck : ℕ → Type 0
OfCheck k = OfReading k ⊎ ((15 ≤ k) × (k ≤ 17))

abbrev pub OfForm : ℕ → Type 0
OfForm k = OfReading k ⊎ ((k ≡ 12) ⊎ (k ≡ 13))

abbrev pub OfLength : ℕ → Type 0
OfLength k = OfReading k ⊎ (k ≡ 13)

abbrev pub OfMel : ℕ → Type 0
OfMel k = OfReading k ⊎ (k ≡ 12)

pub record Refuses (b : List ℕ) : Type 0 where
  pub of_read : (k p : ℕ) → read b ≡ refused k p → OfReading k
  pub of_passes : (k p : ℕ) → passes b ≡ refused k p → OfReading k
  pub of_text : (g k p : ℕ) → goal_text b g ≡ refused k p → OfText k
  pub of_check : (t : List ℕ) (k p : ℕ) → check b t ≡ refused k p → OfCheck k
  pub of_form : (buf : List ℕ) (k p : ℕ) → F.form_answer b buf ≡ refused k p → OfForm k
  pub of_length : (k p : ℕ) → F.form_length b ≡ refused k p → OfLength k
  pub of_mel : (buf : List ℕ) (k p : ℕ) → M.mel_answer b buf ≡ refused k p → OfMel k

-- ---- None of these is 0: an answer's number is 0 exactly if it is accepted. 13 is answered exactly with its four goals.
pub record Numbers (b : List ℕ) : Type 0 where
  pub of_read : ((values 0 (read b)).number ≡ 0) ↔ Accepted (read b)
  pub of_passes : ((values 0 (passes b)).number ≡ 0) ↔ Accepted (passes b)
  pub of_text : (g : ℕ) → ((values no_span (goal_text b g)).number ≡ 0) ↔ Accepted (goal_text b g)
  pub of_check : (t : List ℕ) → ((values same (check b t)).number ≡ 0) ↔ Accepted (check b t)
  pub of_form : (buf : List ℕ) → ((values 0 (F.form_answer b buf)).number ≡ 0) ↔ Accepted (F.form_answer b buf)
  pub of_length : ((values 0 (F.form_length b)).number ≡ 0) ↔ Accepted (F.form_length b)
  pub of_mel : (buf : List ℕ) → ((values 0 (M.mel_answer b buf)).number ≡ 0) ↔ Accepted (M.mel_answer b buf)
  pub of_thirteen : (buf : List ℕ) → (F.form_answer b buf ≡ refused 13 0) ↔ ((q : Four) × (F.shown b ≡ some q))

-- ---- One answer has an outcome.
pub record OneAnswer : Type 0 where
  pub of_read : (a c : Result ℕ Refusal) → outcome a ≡ outcome c → a ≡ c
  pub of_text : (a c : Result Span Refusal) → outcome a ≡ outcome c → a ≡ c
  pub of_check : (a c : Result Verdict Refusal) → check_outcome a ≡ check_outcome c → a ≡ c
  pub of_form : (a c : Result ℕ FormError) → F.outcome a ≡ F.outcome c → F.goals a ≡ F.goals c → a ≡ c
  pub of_mel : (a c : Result ℕ Refusal) → outcome a ≡ outcome c → a ≡ c
