-- What an operation answers fits the bits that its word has for it, for every record of bytes, so that the word says it whole (Encoding.antt).
--     places_fit, values_fit, numbers_say, zero_accepted     specs/Fits.antt
--     form_says, mel_says                                    so the word of a text that was written is its length
use Rattle.std.specs.Prelude.{Ok, Err}
use mathlib.Core.Path.{◌≡◌, refl, sym, ap, ap₂, ◌∙◌, subst}
use mathlib.Core.Bool.{Bool, true, false, ◌&&◌, true≢false}
use mathlib.Core.List.{List}
use mathlib.Core.Logic.{◌↔◌}
use mathlib.Core.Option.{Option, none, some}
use Prim.Native.Nat.{ℕ, ◌-◌, ◌^◌, ◌≤◌, ◌<◌}
use native.Mathlib.Nat.{lt_of_lt_of_le}
use native.Mathlib.Omega.{arith}
use lib.Dec.{leb}
use lib.ListN.{length}
use lib.Pow.{pow_mono}
use Rattle.graph.specs.Graph.{goals_of}
use Rattle.graph.specs.Passes.{pass_limit}
use Rattle.graph.proofs.Rows.{goals_lt}
use mathlib.Core.Logic.{⊎_elim}
use Rattle.record_fields.specs.Fields.{goal_count, var_count, goal_place, text_place}
use Rattle.record_fields.proofs.Facts.{length_between}
use Rattle.record_rules.specs.declared.Refusal.{Refusal}
use Rattle.record_rules.specs.Reading.{reading, Reading}
use Rattle.record_rules.specs.Outcome.{Outcome, refused, accepted, values}
use Rattle.record_rules.proofs.Must.{between_low, between_high, between_in}
use Rattle.record_rules.proofs.Outcomes.{All, all-refused, all_accepted, all_read, all-only, all-next, all-size, by_reading, holds, fails, number-zero}
use Rattle.record.specs.WellFormed.{WellFormed}
use Rattle.record.specs.Limits.{Bytes}
use Rattle.record.proofs.WellFormed.{fine_well_formed, well_formed_fine}
use Rattle.record.proofs.Limits.{text_limit_lem, place_limit}
use Rattle.record.proofs.Refusals.{refusal_number, refusal_limit}
use Rattle.order.specs.Order.{before, pass_count}
use Rattle.order.proofs.Theorems.{passes_limit}
use Rattle.expression.specs.Expr.{Expr}
use Rattle.expression.specs.Expr as E
use Rattle.expression.specs.Text.{form_limit}
use Rattle.expression.specs.Search.{Four}
use Rattle.expression_grammar.specs.TextRules.{read_text}
use Rattle.expression_grammar.specs.Check.{Verdict, same, differs, first_differ, verdict, checked}
use Rattle.expression_grammar.proofs.Differences.{first_difference}
use Rattle.expression_grammar.proofs.Readings.{read-place}
use Rattle.form.specs.Form as F
use Rattle.form.proofs.Outcomes.{shown-fine, shown-refused}
use Rattle.form.proofs.Theorems.{form_short, no_form_lem}
use Rattle.mel.specs.Annotation.{mel, mel_outcome, mel_answer}
use Rattle.mel.proofs.Short.{mel_short}
use Rattle.record_text.specs.declared.Span.{Span}
use Rattle.record_text.specs.Texts.{of_goal, goal_text, no_span}
use Rattle.annotator.specs.Answers.{read, passes, check}
use Rattle.annotator.proofs.Cases.{numbers}
use Rattle.lfj_words.specs.Words.{read_word, after_word, form_word, mel_word, verdict_word, check_word}
use Rattle.lfj.specs.Calls.{after, variables, text_word}
use Rattle.lfj.specs.Fits.{PlacesFit, ValuesFit, NumbersSay, ZeroAccepted}
use Rattle.lfj_words.proofs.Encoding.{form_length_lem, mel-length, number_says, form-number}

-- a place, a length
abbrev Small : ℕ → Type 0
Small p = p < 2 ^ 32

-- every place fits, and every value is as Q says
abbrev Fit : {A : Type 0} → (A → Type 0) → Outcome A → Type 0
Fit Q o = All (λ k p. Small p) Q o

-- 13 has place 0
thirteen-fits : (Q : List ℕ → Type 0) (o : Option Four) (t : List ℕ) → Q t → Fit Q (F.or_thirteen o t)
thirteen-fits Q none t h = h
thirteen-fits Q (some q) t h = omega arith

module _ (b : List ℕ) (bytes : Bytes b) where
  -- the places of reading
  limit : (r : Refusal) → reading b ≡ Err r → Small r.place
  limit r e = omega (arith, refusal_limit b r e bytes)

  read_fits : Fit (λ n. Unit {0}) (read b)
  unfolding read
  read_fits = all_read (λ k p. Small p) (λ n. Unit {0}) b (accepted (goal_count b)) limit (λ e. tt)

  variables-fits : Fit (λ n. Unit {0}) (variables b)
  unfolding variables
  variables-fits = all_read (λ k p. Small p) (λ n. Unit {0}) b (accepted (var_count b)) limit (λ e. tt)

  passes-fits : Fit (λ k. (1 ≤ k) × (k ≤ pass_limit)) (passes b)
  unfolding passes
  passes-fits =
      all_read (λ k p. Small p) (λ k. (1 ≤ k) × (k ≤ pass_limit)) b (accepted (pass_count b)) limit (λ e. passes_limit b (fine_well_formed b e).goals_to)

  after-fits : (g : ℕ) → Fit (λ m. Unit {0}) (after b g)
  unfolding after
  after-fits g = all_read (λ k p. Small p) (λ m. Unit {0}) b _ limit (λ e. all-only (λ k p. Small p) (λ m. Unit {0}) (leb 1 g && leb g (goal_count b)) 14 0 _ (omega arith) (λ t. tt))

  -- ---- a goal's text starts below 2 ^ 32 and has fewer than 2 ^ 16 bytes
  text-fits : (g : ℕ) → Fit (λ (s : Span). Small s.place × (s.size < 2 ^ 16)) (goal_text b g)
  unfolding goal_text text_place
  text-fits g =
      all_read (λ k p. Small p) (λ s. Small s.place × (s.size < 2 ^ 16)) b _ limit
      (λ e. all-only (λ k p. Small p) (λ s. Small s.place × (s.size < 2 ^ 16)) (leb 1 g && leb g (goal_count b)) 14 0 _ (omega arith) (λ t.
      let w = fine_well_formed b e in
      let l = between_low 1 (goal_count b) g t in
      let h = between_high 1 (goal_count b) g t in
      (omega (arith, place_limit b w (g - 1) (omega arith), w.goals_to, length_between b (goal_place b g)), omega (arith, text_limit_lem b w g l h))))

  -- ---- i and j of a difference are goals, and the place of a text's refusal is at most 512
  abbrev Goals : Verdict → Type 0
  Goals same = Unit {0}
  Goals (differs i j) = (i < 2 ^ 8) × (j < 2 ^ 8)

  check-fits : (t : List ℕ) → Fit Goals (check b t)
  unfolding check checked
  check-fits t = all_read (λ k p. Small p) Goals b _ limit (λ e. all-next (λ k p. Small p) Goals (λ x. Unit {0}) (read_text n t) _ (by_text (read_text n t) refl) (λ x u. by_pair (fine_well_formed b e) x (first_differ n (before b) (E.before x)) refl))
    where
      n : ℕ
      n = goal_count b

      by_text : (x : Outcome Expr) → read_text n t ≡ x → All (λ k p. Small p) (λ x. Unit {0}) x
      by_text (refused k p) e = omega (arith, (read-place n t k p e).1)
      by_text (accepted x) e = tt

      by_pair : WellFormed b → (e : Expr) (o : Option (ℕ × ℕ)) → first_differ n (before b) (E.before e) ≡ o → Goals (verdict o)
      by_pair w e none h = tt
      by_pair w e (some p) h =
          let d = first_difference n (before b) (E.before e) p.0 p.1 h in
          (omega (arith, d.in_i.1, w.goals_to), omega (arith, d.in_j.1, w.goals_to))

  -- ---- the form: a length up to the longest
  form_places : Fit (λ t. Unit {0}) (F.form_text b)
  unfolding F.form_text
  form_places = all_read (λ k p. Small p) (λ t. Unit {0}) b _ limit (λ e. thirteen-fits (λ t. Unit {0}) (F.first_four b) _ tt)

  text_of_form : Fit (λ t. length t ≤ form_limit) (F.form_text b)
  text_of_form = go (F.form_text b) refl
    where
      go : (o : Outcome (List ℕ)) → F.form_text b ≡ o → Fit (λ t. length t ≤ form_limit) o
      go (refused k p) e = all-refused (λ k p. Small p) (λ t. Unit {0}) form_places e
      go (accepted t) e = form_short b t e

  form-fits : (buf : List ℕ) → Fit (λ n. n ≤ form_limit) (F.form_answer b buf)
  form-fits buf = all-size (λ k p. Small p) (λ n. n ≤ form_limit) (λ t. length t ≤ form_limit) (F.form_text b) buf text_of_form (λ t h. (omega arith, h))

  length-fits : Fit (λ n. n ≤ form_limit) (F.form_length b)
  length-fits = all-next (λ k p. Small p) (λ n. n ≤ form_limit) (λ t. length t ≤ form_limit) (F.form_text b) _ text_of_form (λ t h. h)

  -- 13's four are goals
  thirteen-goals : (q : Four) → F.shown b ≡ some q → (q.a < 2 ^ 6) × (q.b < 2 ^ 6) × (q.c < 2 ^ 6) × (q.d < 2 ^ 6)
  thirteen-goals q e = go (reading b) refl
    where
      go : (s : Reading) → reading b ≡ s → (q.a < 2 ^ 6) × (q.b < 2 ^ 6) × (q.c < 2 ^ 6) × (q.d < 2 ^ 6)
      go (Ok _) f =
          let w = fine_well_formed b f in
          let g = (no_form_lem b w q (sym (shown-fine b f) ∙ e)).shape.goals in
          let m = w.goals_to in
          (omega (arith, g.0.1, m), omega (arith, g.1.1, m), omega (arith, g.2.1, m), omega (arith, g.3.1, m))
      go (Err r) f = absurd (let k = sym (shown-refused b r f) ∙ e in let z : ◌≡◌ {A = ℕ} 0 1 = cc in omega arith)

  -- ---- MEL
  mel-fits : (buf : List ℕ) → Fit Small (mel_answer b buf)
  unfolding mel_outcome
  mel-fits buf =
      all-size (λ k p. Small p) Small (λ t. Small (length t)) (mel_outcome b) buf
      (all_read (λ k p. Small p) (λ t. Small (length t)) b (accepted (mel b)) limit (λ e. mel_short b (fine_well_formed b e))) (λ t h. (h, h))

  -- ---- the word of a text that was written
  pub form_says : (buf : List ℕ) (n : ℕ) → F.form_answer b buf ≡ accepted n → F.shown b ≡ none → form_word (F.form_answer b buf) (F.shown b) ≡ n
  form_says buf n e s = let h = all_accepted _ _ (form-fits buf) e in ap₂ form_word e s ∙ form_length_lem n (omega (arith, h))

  pub mel_says : (buf : List ℕ) (n : ℕ) → mel_answer b buf ≡ accepted n → mel_word (mel_answer b buf) ≡ n
  mel_says buf n e = ap mel_word e ∙ mel-length n (all_accepted _ _ (mel-fits buf) e)

  pub places_fit : PlacesFit b
  places_fit =
      record {
        of_read = λ k p. all-refused _ _ read_fits;
        of_variables = λ k p. all-refused _ _ variables-fits;
        of_passes = λ k p. all-refused _ _ passes-fits;
        of_after = λ g k p. all-refused _ _ (after-fits g);
        of_form = λ buf k p. all-refused _ _ (form-fits buf);
        of_length = λ k p. all-refused _ _ length-fits;
        of_mel = λ buf k p. all-refused _ _ (mel-fits buf);
        of_text = λ g k p. all-refused _ _ (text-fits g);
        of_check = λ t k p. all-refused _ _ (check-fits t);
      }

  pub values_fit : ValuesFit b
  values_fit =
      record {
        of_passes = λ k. all_accepted _ _ passes-fits;
        of_form = λ buf n e. let h = all_accepted _ _ (form-fits buf) e in omega (arith, h);
        of_length = λ n e. let h = all_accepted _ _ length-fits e in omega (arith, h);
        of_thirteen = thirteen-goals;
        of_mel = λ buf n. all_accepted _ _ (mel-fits buf);
        of_text = λ g s. all_accepted _ _ (text-fits g);
        of_check = λ t i j. all_accepted _ _ (check-fits t);
      }

-- ---- bits 56 to 63, of any list
abbrev Low : {A : Type 0} → (A → ℕ) → Outcome A → Type 0
Low f o = All (λ k p. Unit {0}) (λ x. f x < 2 ^ 56) o

any : {A : Type 0} (f : A → ℕ) → ((x : A) → f x < 2 ^ 56) → (o : Outcome A) → Low f o
any f h (refused k p) = tt
any f h (accepted x) = h x

verdict_low : (v : Verdict) → verdict_word v < 2 ^ 56
verdict_low same = omega arith
verdict_low (differs i j) = omega arith

module _ (b : List ℕ) where
  read_low : Low (λ n. n) (read b)
  unfolding read
  read_low = all_read (λ k p. Unit {0}) (λ n. n < 2 ^ 56) b (accepted (goal_count b)) (λ r e. tt) (λ e. omega (arith, (fine_well_formed b e).goals_to))

  variables_low : Low (λ n. n) (variables b)
  unfolding variables
  variables_low = all_read (λ k p. Unit {0}) (λ n. n < 2 ^ 56) b (accepted (var_count b)) (λ r e. tt) (λ e. omega (arith, (fine_well_formed b e).vars_to))

  passes_low : Low (λ k. k) (passes b)
  unfolding passes
  passes_low =
      all_read (λ k p. Unit {0}) (λ k. k < 2 ^ 56) b (accepted (pass_count b)) (λ r e. tt)
      (λ e. let l = (passes_limit b (fine_well_formed b e).goals_to).1 in omega (arith, l))

  after_low : (g : ℕ) → Low (λ m. m) (after b g)
  unfolding after
  after_low g =
      all_read (λ k p. Unit {0}) (λ m. m < 2 ^ 56) b _ (λ r e. tt)
      (λ e. all-only (λ k p. Unit {0}) (λ m. m < 2 ^ 56) (leb 1 g && leb g (goal_count b)) 14 0 _ tt (λ t.
      let l = lt_of_lt_of_le (goals_lt (goal_count b) (before b g)) (pow_mono (fine_well_formed b e).goals_to) in omega (arith, l)))

  pub numbers_say : NumbersSay b
  unfolding read_word after_word mel_word text_word check_word
  numbers_say =
      record {
        of_read = number_says (λ n. n) 0 (read b) read_low;
        of_variables = number_says (λ n. n) 0 (variables b) variables_low;
        of_passes = number_says (λ k. k) 0 (passes b) passes_low;
        of_after = λ g. number_says (λ m. m) 0 (after b g) (after_low g);
        of_form = λ buf. form-number (F.form_answer b buf) (F.shown b);
        of_length = form-number (F.form_length b) (F.shown b);
        of_mel = λ buf. number_says _ 0 (mel_answer b buf) (any _ (λ n. omega arith) (mel_answer b buf));
        of_text = λ g. number_says _ no_span (goal_text b g) (any _ (λ s. omega arith) (goal_text b g));
        of_check = λ t. number_says verdict_word same (check b t) (any verdict_word verdict_low (check b t));
      }

  -- ---- accepted
  -- a refusal of reading has a number
  variables_some : All (λ k p. 1 ≤ k) (λ n. Unit {0}) (variables b)
  unfolding variables
  variables_some =
      all_read (λ k p. 1 ≤ k) (λ n. Unit {0}) b (accepted (var_count b)) (λ r e. ⊎_elim (λ a. a.0) (λ a. omega (arith, a.0)) (refusal_number b r e)) (λ e. tt)

  after_accepted : (g : ℕ) → ((values 0 (after b g)).number ≡ 0) ↔ (WellFormed b × (1 ≤ g) × (g ≤ goal_count b))
  unfolding after
  after_accepted g = by_reading b _ (λ o. ((values 0 o).number ≡ 0) ↔ (WellFormed b × (1 ≤ g) × (g ≤ n))) turned (λ e. by_range (fine_well_formed b e) (leb 1 g && leb g n) refl)
    where
      n : ℕ
      n = goal_count b

      turned : (r : Refusal) → reading b ≡ Err r → (r.number ≡ 0) ↔ (WellFormed b × (1 ≤ g) × (g ≤ n))
      turned r q = (
        λ z. absurd (⊎_elim (λ a. omega (arith, a.0, z)) (λ a. omega (arith, a.0, z)) (refusal_number b r q)),
        λ h. absurd (let k = sym (well_formed_fine b h.0) ∙ q in let z : ◌≡◌ {A = ℕ} 0 1 = cc in omega arith),
      )

      row : Outcome ℕ
      row = accepted (goals_of n (before b g))

      by_range : WellFormed b → (t : Bool) → leb 1 g && leb g n ≡ t → ((values 0 (of_goal b g row)).number ≡ 0) ↔ (WellFormed b × (1 ≤ g) × (g ≤ n))
      by_range w true e =
          subst (λ (o : Outcome ℕ). ((values 0 o).number ≡ 0) ↔ (WellFormed b × (1 ≤ g) × (g ≤ n))) (holds 14 0 row e)
          (λ z. (w, between_low 1 n g e, between_high 1 n g e), λ h. refl)
      by_range w false e =
          subst (λ (o : Outcome ℕ). ((values 0 o).number ≡ 0) ↔ (WellFormed b × (1 ≤ g) × (g ≤ n))) (fails 14 0 row e)
          (λ z. absurd (omega arith), λ h. absurd (true≢false (sym (between_in 1 n g h.1 h.2) ∙ e)))

told_zero : {A : Type 0} {k w : ℕ} → w ≡ k → ((k ≡ 0) ↔ A) → (w ≡ 0) ↔ A
told_zero e h = (λ z. h.0 (sym e ∙ z), λ a. e ∙ h.1 a)

pub zero_accepted : (b : List ℕ) → ZeroAccepted b
zero_accepted b =
    let s = numbers_say b in
    let n = numbers b in
    record {
      of_read = told_zero s.of_read n.of_read;
      of_variables = told_zero s.of_variables (number-zero 0 (variables b) (λ k p. all-refused (λ k p. 1 ≤ k) (λ n. Unit {0}) (variables_some b)));
      of_passes = told_zero s.of_passes n.of_passes;
      of_after = λ g. told_zero (s.of_after g) (after_accepted b g);
      of_form = λ buf. told_zero (s.of_form buf) (n.of_form buf);
      of_length = told_zero s.of_length n.of_length;
      of_mel = λ buf. told_zero (s.of_mel buf) (n.of_mel buf);
      of_text = λ g. told_zero (s.of_text g) (n.of_text g);
      of_check = λ t. told_zero (s.of_check t) (n.of_check t);
    }
