-- Writing the form and the length estimate: what is answered, and what becomes of the lent buffer (01, "What each operation turns down").
use Rattle.std.specs.Prelude.{◌≡◌, List, ℕ, suc, length, Result, Ok, Err}
use Rattle.std.proofs.Math.Option.{Option, none, some}
use Rattle.record_fields.specs.Fields.{goal_count}
use Rattle.record_rules.specs.Outcome.{Outcome, refused, accepted, read_then, next, values, size_in, buffer_after}
use Rattle.expression.specs.Search.{Four, first_n}
use Rattle.expression.specs.Form.{form}
use Rattle.expression.specs.Text as T
use Rattle.order.specs.Order.{before}
use Rattle.form_first_n.specs.FirstN.{four}
use Rattle.form.specs.declared.FormError.{FormError}
use Rattle.form.specs.declared.FormError.TheVariants as W

-- 01: "13 no expression induces the order" (0): the first N decides; else the text
abbrev pub or_thirteen : Option Four → List ℕ → Outcome (List ℕ)
or_thirteen none t = accepted t
or_thirteen (some q) t = refused 13 0

-- the first four goals that show that a record's order has no form, or none
abbrev pub first_four : List ℕ → Option Four
first_four b = first_n (before b) (goal_count b)

-- the text of a record's form: the refusals of reading it, then 13
unfoldable pub form_text : List ℕ → Outcome (List ℕ)
form_text b = read_then b (or_thirteen (first_four b) (T.text (form (before b) (goal_count b))))

-- 01: "13 also has its four goals": with any other answer there are none
unfoldable pub shown : List ℕ → Option Four
shown b = (values none (read_then b (accepted (first_four b)))).value

-- ---- Writing the form: the answer, and the buffer afterwards.
abbrev pub form_answer : List ℕ → List ℕ → Outcome ℕ
form_answer b buf = size_in (form_text b) buf

abbrev pub form_buffer : List ℕ → List ℕ → List ℕ
form_buffer b buf = buffer_after (form_text b) buf

-- the outcome that the program's answer is, and its four goals
abbrev pub outcome : Result ℕ FormError → Outcome ℕ
outcome (Ok n) = accepted n
outcome (Err (W.NoForm q)) = refused 13 0
outcome (Err (W.Refused r)) = refused r.number r.place

abbrev pub goals : Result ℕ FormError → Option Four
goals (Ok n) = none
goals (Err (W.NoForm q)) = some (four q)
goals (Err (W.Refused r)) = none

-- ---- The length estimate. 02, 3: "The estimate shall be exactly the number of bytes that the form takes": refused as the text is, or its length
abbrev pub form_length : List ℕ → Outcome ℕ
form_length b = next (form_text b) (λ t. accepted (length t))

-- "so a buffer of that length always suffices and one byte less never does": the two operations together, on one record
pub record LengthExact (b : List ℕ) : Type 0 where
  pub size : ℕ
  pub answers : form_length b ≡ accepted size
  pub suffices : (buf : List ℕ) → length buf ≡ size → (form_answer b buf ≡ accepted size) × (accepted (form_buffer b buf) ≡ form_text b)
  pub never : (buf : List ℕ) → suc (length buf) ≡ size → (form_answer b buf ≡ refused 12 size) × (form_buffer b buf ≡ buf)
