-- The outcome of a goal's text, case by case.
use Rattle.std.specs.Prelude.{Result, Ok, Err}
use mathlib.Core.Path.{◌≡◌, refl, sym, ap, ◌∙◌, subst}
use mathlib.Core.Bool.{Bool, true, false, ◌&&◌}
use mathlib.Core.List.{List}
use Prim.Native.Nat.{ℕ, ◌+◌, ◌≤◌, zero-le}
use lib.Dec.{leb}
use lib.ListN.{length}
use Rattle.sets.specs.Sets.{goal_limit}
use Rattle.record_rules.specs.declared.Refusal.{Refusal}
use Rattle.record_rules.specs.Reading.{reading}
use Rattle.record_rules.specs.Outcome.{Outcome, outcome, accepted, values}
use Rattle.record_rules.proofs.Must.{between_low, between_high}
use Rattle.record_rules.proofs.Outcomes.{read_ok, by_reading, holds, fails}
use Rattle.record_fields.specs.Fields.{goal_count, goal_place, text_at, text_length_at, text_place, text_length}
use Rattle.record.specs.WellFormed.{WellFormed}
use Rattle.record.proofs.WellFormed.{fine_well_formed}
use Rattle.record.proofs.Limits.{text-inside}
use Rattle.record_text.specs.declared.Span.{Span}
use Rattle.record_text.specs.Texts.{of_goal, goal_text, no_span, text_part}

module _ (b : List ℕ) where
  -- the text of the goal that starts at c, as it is read from bytes that are b
  pub text_found : (l : List ℕ) {a c n : ℕ} (g : ℕ) → l ≡ b → reading b ≡ Ok tt → leb 1 g && leb g (goal_count b) ≡ true → c ≡ goal_place l g → a ≡ text_at l c
      → n ≡ text_length_at l c → accepted (record { place = a; size = n }) ≡ goal_text b g
  unfolding goal_text text_place text_length
  text_found l g same f t h p q = rw (p, q, h, same) (holds 14 0 _ t ∙ sym (read_ok b _ f))

  -- a goal's text lies inside the record; so does the empty part at its start
  abbrev Inside : Outcome Span → Type 0
  Inside o = (values no_span o).value.place + (values no_span o).value.size ≤ length b

  pub span_inside : (g : ℕ) → (text_part b g).place + (text_part b g).size ≤ length b
  unfolding goal_text text_part
  span_inside g = by_reading b _ Inside (λ r e. zero-le) (λ e. by_range (fine_well_formed b e) (leb 1 g && leb g (goal_count b)) refl)
    where
      text : Outcome Span
      text = accepted (record { place = text_place b g; size = text_length b g })

      by_range : WellFormed b → (t : Bool) → leb 1 g && leb g (goal_count b) ≡ t → Inside (of_goal b g text)
      by_range w true e = subst Inside (holds 14 0 text e) (text-inside b w g (between_low 1 (goal_count b) g e) (between_high 1 (goal_count b) g e))
      by_range w false e = subst Inside (fails 14 0 text e) zero-le

  -- the place and the length of a text that was found; of none they are 0
  pub span_is : (g : ℕ) {r : Result Span Refusal} (s : Span) → outcome r ≡ goal_text b g → r ≡ Ok s → (s.place ≡ (text_part b g).place) × (s.size ≡ (text_part b g).size)
  unfolding text_part
  span_is g s e f =
      let h = ap (λ (o : Outcome Span). (values no_span o).value) (ap outcome (sym f) ∙ e) in
      (ap (λ (v : Span). v.place) h, ap (λ (v : Span). v.size) h)

  pub none_is : (g : ℕ) {r : Result Span Refusal} (x : Refusal) → outcome r ≡ goal_text b g → r ≡ Err x → (0 ≡ (text_part b g).place) × (0 ≡ (text_part b g).size)
  unfolding text_part
  none_is g x e f =
      let h = ap (λ (o : Outcome Span). (values no_span o).value) (ap outcome (sym f) ∙ e) in
      (ap (λ (v : Span). v.place) h, ap (λ (v : Span). v.size) h)

  -- the test of a goal's number
  pub tested : {t v : Bool} (g : ℕ) {n : ℕ} → t ≡ (leb 1 g && leb g n) → t ≡ v → n ≡ goal_count b → leb 1 g && leb g (goal_count b) ≡ v
  tested g e f h = ap (λ (n : ℕ). leb 1 g && leb g n) (sym h) ∙ sym e ∙ f

  -- a goal of the record, and the most that there are
  pub in_range : (g : ℕ) → WellFormed b → leb 1 g && leb g (goal_count b) ≡ true → (1 ≤ g) × (g ≤ goal_count b) × (goal_count b ≤ goal_limit)
  in_range g w e = (between_low 1 (goal_count b) g e, between_high 1 (goal_count b) g e, w.goals_to)
