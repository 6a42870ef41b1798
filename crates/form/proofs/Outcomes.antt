-- What writing the form answers, by what reading and the search for an N give; and the form's length.
use Rattle.std.specs.Prelude.{Ok, Err}
use mathlib.Core.Path.{◌≡◌, refl, sym, ap, ap₂, ◌∙◌}
use mathlib.Core.Bool.{Bool, cond}
use mathlib.Core.List.{List, ◌++◌}
use mathlib.Core.Option.{Option, none, some}
use Prim.Native.Nat.{ℕ, ◌≤◌}
use native.Mathlib.Omega.{arith}
use lib.ListN.{length, take, drop, length-append}
use lib.Seq.{take_at}
use Rattle.buffer.specs.Lent.{stored}
use Rattle.buffer.proofs.Lent.{fits_le}
use Rattle.record_rules.specs.declared.Refusal.{Refusal}
use Rattle.record_rules.specs.Reading.{reading}
use Rattle.record_rules.specs.Outcome.{Outcome, refused, accepted, next, size_in, buffer_after, values}
use Rattle.record_rules.proofs.Outcomes.{told_apart, one_value, one_refusal, read-refused, read-fine, size_fits, same_answer, same_buffer}
use Rattle.record_fields.specs.Fields.{goal_count}
use Rattle.expression.specs.Search.{Four}
use Rattle.expression.specs.Form.{form}
use Rattle.expression.specs.Text as T
use Rattle.order.specs.Order.{before}
use Rattle.form.specs.declared.FormError.{FormError}
use Rattle.form.specs.declared.FormError.TheVariants as W
use Rattle.form.specs.Form.{or_thirteen, first_four, form_text, shown, outcome}

-- ---- the search's answer
module _ {o : Option Four} (t : List ℕ) where
  pub thirteen-none : o ≡ none → or_thirteen o t ≡ accepted t
  thirteen-none e = ap (λ (x : Option Four). or_thirteen x t) e

  pub thirteen_some : (q : Four) → o ≡ some q → or_thirteen o t ≡ refused 13 0
  thirteen_some q e = ap (λ (x : Option Four). or_thirteen x t) e

-- ---- a refused record, and an accepted one
module _ (b : List ℕ) where
  pub form-refused : (r : Refusal) → reading b ≡ Err r → form_text b ≡ refused r.number r.place
  unfolding form_text
  form-refused r e = sym (read-refused b _ r refl e)

  pub form-fine : reading b ≡ Ok tt → form_text b ≡ or_thirteen (first_four b) (T.text (form (before b) (goal_count b)))
  unfolding form_text
  form-fine e = sym (read-fine b _ refl e)

  pub shown-refused : (r : Refusal) → reading b ≡ Err r → shown b ≡ none
  unfolding shown
  shown-refused r e = sym (ap (λ (o : Outcome (Option Four)). (values none o).value) (read-refused b _ r refl e))

  pub shown-fine : reading b ≡ Ok tt → shown b ≡ first_four b
  unfolding shown
  shown-fine e = sym (ap (λ (o : Outcome (Option Four)). (values none o).value) (read-fine b _ refl e))

-- ---- a buffer that holds the text, whichever it is: the answer is its length, and it is the buffer's first bytes; or the refusal that comes before it
abbrev pub Held : Outcome (List ℕ) → List ℕ → Type 0
Held x buf = (t : List ℕ) → x ≡ accepted t → length t ≤ length buf

pub stored_fit : (t buf : List ℕ) → length t ≤ length buf → stored t buf ≡ t ++ drop (length t) buf
unfolding stored
stored_fit t buf h = ap (λ (x : Bool). cond x (t ++ drop (length t) buf) buf) (fits_le t buf h)

module _ (t buf : List ℕ) (h : length t ≤ length buf) {k : ℕ} (e : accepted k ≡ size_in (accepted t) buf) where
  size_is : k ≡ length t
  size_is = one_value (e ∙ sym (size_fits t buf refl h))

  size-held : k ≤ length (stored t buf)
  size-held = omega (arith, size_is, ap length (stored_fit t buf h), length-append t (drop (length t) buf))

  first-bytes : take k (stored t buf) ≡ t
  first-bytes = ap (take k) (stored_fit t buf h) ∙ take_at t (drop (length t) buf) k (sym size_is)

pub held-size : (x : Outcome (List ℕ)) (buf : List ℕ) → Held x buf → {k : ℕ} → accepted k ≡ size_in x buf → k ≤ length (buffer_after x buf)
held-size (refused l q) buf h e = absurd (told_apart (sym e))
held-size (accepted t) buf h e = size-held t buf (h t refl) e

pub held-text : (x : Outcome (List ℕ)) (buf : List ℕ) → Held x buf → {k : ℕ} → accepted k ≡ size_in x buf → accepted (take k (buffer_after x buf)) ≡ x
held-text (refused l q) buf h e = absurd (told_apart (sym e))
held-text (accepted t) buf h e = ap accepted (first-bytes t buf (h t refl) e)

pub held-refused : (x : Outcome (List ℕ)) (buf : List ℕ) → Held x buf → {k p : ℕ} → refused k p ≡ size_in x buf → refused k p ≡ x
held-refused (refused l q) buf h e = let (m, n) = one_refusal e in ap₂ refused m n
held-refused (accepted t) buf h e = absurd (told_apart (e ∙ sym (size_fits t buf refl (h t refl))))

-- the answer is the text's length, whatever it is
pub held-length : (x : Outcome (List ℕ)) (buf : List ℕ) → Held x buf → size_in x buf ≡ next x (λ t. accepted (length t))
held-length (refused k p) buf h = refl
held-length (accepted t) buf h = sym (size_fits t buf refl (h t refl))

-- what no text was written for into such a buffer is answered whatever the buffer, which stays as it was
pub held-error : (x : Outcome (List ℕ)) (space buf : List ℕ) → Held x space → (e : FormError) → outcome (Err e) ≡ size_in x space
    → (outcome (Err e) ≡ size_in x buf) × (buf ≡ buffer_after x buf)
held-error x space buf h (W.NoForm q) e = let r = held-refused x space h e in (same_answer buf r, same_buffer buf r)
held-error x space buf h (W.Refused q) e = let r = held-refused x space h e in (same_answer buf r, same_buffer buf r)
