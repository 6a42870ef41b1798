-- The line of the form, by what the operation that writes the form answers for an accepted record, with room for every form.
use mathlib.Core.Path.{◌≡◌, refl, sym, ap, ap₂, ◌∙◌}
use mathlib.Core.List.{List, ◌++◌}
use mathlib.Core.Option.{Option, none, some}
use Prim.Native.Nat.{ℕ, ◌≤◌}
use native.Mathlib.Omega.{arith}
use lib.ListN.{length, take, drop, length-append}
use lib.Seq.{take-append_seam}
use Rattle.buffer.specs.Decimal.{decimal}
use Rattle.buffer.proofs.Decimal.{decimal-length}
use Rattle.buffer.specs.Lent.{stored}
use Rattle.buffer.proofs.Lent.{fits_le}
use Rattle.record_fields.specs.Fields.{goal_count}
use Rattle.record_rules.specs.declared.Refusal.{Refusal}
use Rattle.record_rules.specs.Outcome.{Outcome, refused, accepted}
use Rattle.record_rules.proofs.Outcomes.{told_apart, one_value, size_fits, same_answer, same_buffer}
use Rattle.record.specs.WellFormed.{WellFormed}
use Rattle.record.proofs.WellFormed.{well_formed_fine}
use Rattle.order.specs.Order.{before}
use Rattle.expression.specs.Search.{Four}
use Rattle.expression.specs.Form.{form}
use Rattle.expression.specs.Text.{form_limit, text}
use Rattle.expression.proofs.Search.{found_first}
use Rattle.form_first_n.specs.declared.Four.{Four as Goals}
use Rattle.form_first_n.specs.FirstN.{four}
use Rattle.std.specs.Prelude.{Result, Ok, Err}
use Rattle.form.specs.declared.FormError.{FormError}
use Rattle.form.specs.declared.FormError.TheVariants as W
use Rattle.form.specs.Form.{first_four, form_text, shown, form_answer, form_buffer, outcome, goals}
use Rattle.form.proofs.Outcomes.{shown-fine, thirteen-none}
use Rattle.form.proofs.Theorems.{settles, form_short}
use Rattle.sheet_text.specs.Sheet.{form_word, none_line, form_line}
use Rattle.sheet_text.proofs.Lines.{none-length}

module _ (b : List ℕ) where
  -- the line of four goals, and that of a text
  four-line : (q : Four) → shown b ≡ some q → none_line q ≡ form_line (shown b) (form_text b)
  unfolding form_line
  four-line q e = sym (ap (λ (o : Option Four). form_line o (form_text b)) e)

  text-line : (t : List ℕ) → shown b ≡ none → form_text b ≡ accepted t → form_word ++ t ≡ form_line (shown b) (form_text b)
  unfolding form_line
  text-line t e f = sym (ap₂ form_line e f)

  -- "No form" is answered with the four goals of the line,
  pub none-shown : {r : Result ℕ FormError} (q : Goals) → goals r ≡ shown b → r ≡ Err (W.NoForm q) → none_line (four q) ≡ form_line (shown b) (form_text b)
  none-shown q g f = four-line (four q) (sym g ∙ ap goals f)

  module _ (buf : List ℕ) (room : length buf ≡ form_limit) where
    -- a text is written
    fitting : (t : List ℕ) → form_text b ≡ accepted t → form_answer b buf ≡ accepted (length t)
    fitting t e = same_answer buf e ∙ sym (size_fits t buf refl (omega (arith, form_short b t e, room)))

    -- and a length with its text.
    pub text-shown : {new : List ℕ} {r : Result ℕ FormError} {n : ℕ} → (outcome r ≡ form_answer b buf) × ((goals r ≡ shown b) × (new ≡ form_buffer b buf))
        → r ≡ Ok n → (form_word ++ take n new ≡ form_line (shown b) (form_text b)) × (length (take n new) ≤ form_limit) × (n ≤ length new)
    unfolding stored
    text-shown {new} {r} {n} (h, (g, k)) f = by (form_text b) refl (ap outcome (sym f) ∙ h)
      where
        by : (o : Outcome (List ℕ)) → form_text b ≡ o → accepted n ≡ form_answer b buf
            → (form_word ++ take n new ≡ form_line (shown b) (form_text b)) × (length (take n new) ≤ form_limit) × (n ≤ length new)
        by (refused x p) e a = absurd (told_apart (sym (a ∙ same_answer buf e)))
        by (accepted t) e a =
            let z : n ≡ length t = one_value (a ∙ fitting t e) in
            let m = form_short b t e in
            let i : new ≡ t ++ drop (length t) buf = k ∙ same_buffer buf e ∙ rw (fits_le t buf (omega (arith, m, room))) in
            let j : take n new ≡ t = ap₂ take z i ∙ take-append_seam t (drop (length t) buf) in (
              text-line (take n new) (sym g ∙ ap goals f) (e ∙ ap accepted (sym j)),
              omega (arith, ap length j, m),
              omega (arith, z, ap length i, length-append t (drop (length t) buf)),
            )

  module _ (w : WellFormed b) where
    -- where there is no N, the form has a text
    has-text : first_four b ≡ none → form_text b ≡ accepted (text (form (before b) (goal_count b)))
    has-text e = settles b w ∙ thirteen-none (text (form (before b) (goal_count b))) e

    first-shown : shown b ≡ first_four b
    first-shown = shown-fine b (well_formed_fine b w)

    -- With room for every form it is not refused.
    pub not-refused : (buf : List ℕ) → length buf ≡ form_limit → {r : Result ℕ FormError} {x : Refusal} → outcome r ≡ form_answer b buf → goals r ≡ shown b
        → r ≡ Err (W.Refused x) → ⊥
    not-refused buf room h g f =
        told_apart (ap outcome (sym f) ∙ h ∙ fitting buf room _ (has-text (sym first-shown ∙ sym g ∙ ap goals f)))

    -- the line is short
    pub form_limit_lem : length (form_line (shown b) (form_text b)) ≤ 151
    form_limit_lem = by (first_four b) refl
      where
        two : (g : ℕ) → g ≤ goal_count b → length (decimal g) ≤ 2
        two g h = decimal-length 1 g (omega (arith, h, w.goals_to))

        by : (o : Option Four) → first_four b ≡ o → length (form_line (shown b) (form_text b)) ≤ 151
        by none e =
            let t = text (form (before b) (goal_count b)) in
            omega (arith, form_short b t (has-text e), ap length (text-line t (first-shown ∙ e) (has-text e)), length-append form_word t)
        by (some q) e =
            let (x, ga, gb, gc, gd) = (found_first (before b) (goal_count b) q e).is in
            let l = ap length (four-line q (first-shown ∙ e)) in
            omega (arith, l, none-length q, two q.a ga.1, two q.b gb.1, two q.c gc.1, two q.d gd.1)
