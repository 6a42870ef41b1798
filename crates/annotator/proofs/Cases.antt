-- What an answer tells, on every input (specs/Cases.antt).
--     refuses      each operation refuses with its own numbers and those of reading
--     numbers      the number is 0 exactly if the call is accepted; 13 exactly with its four goals
--     one_answer   one answer has an outcome
use Rattle.std.specs.Prelude.{Result, Ok, Err}
use mathlib.Core.Path.{◌≡◌, refl, sym, ap, ap₂, ◌∙◌}
use mathlib.Core.Bool.{◌&&◌}
use mathlib.Core.List.{List}
use mathlib.Core.Logic.{inl, inr, ⊎_elim, ◌↔◌}
use mathlib.Core.Option.{Option, none, some}
use Prim.Native.Nat.{ℕ, ◌≤◌}
use native.Mathlib.Omega.{arith}
use lib.Dec.{leb}
use lib.ListN.{length}
use Rattle.record_rules.specs.declared.Refusal.{Refusal}
use Rattle.record_rules.specs.Reading.{reading, Reading}
use Rattle.record_rules.specs.Outcome.{Outcome, refused, accepted, outcome, read_then, size_in}
use Rattle.record_rules.proofs.Outcomes.{told_apart, one_value, one_refusal, number-zero, All, all-refused, all_read, all-only, all-next, all-size}
use Rattle.record_fields.specs.Fields.{goal_count}
use Rattle.record.proofs.WellFormed.{fine_well_formed}
use Rattle.order.specs.Order.{pass_count}
use Rattle.record.proofs.Refusals.{refusal_number}
use Rattle.expression.specs.Expr.{Expr}
use Rattle.expression.specs.Search.{Four}
use Rattle.expression_grammar.specs.Reader as R
use Rattle.expression_grammar.specs.Numbers.{misuse}
use Rattle.expression_grammar.specs.TextRules.{expression_limit, open_limit, numbered, decided, read_text}
use Rattle.expression_grammar.specs.Check.{same, checked}
use Rattle.order_compare.specs.declared.Pair.{Pair}
use Rattle.order_compare.specs.declared.Verdict.{Verdict}
use Rattle.order_compare.specs.declared.Verdict.TheVariants.{Same, Differs}
use Rattle.order_compare.specs.Verdicts.{verdict_of}
use Rattle.form_first_n.specs.declared.Four.{Four as Goals}
use Rattle.form_first_n.specs.FirstN.{four}
use Rattle.form.specs.Form as F
use Rattle.form.specs.declared.FormError.{FormError}
use Rattle.form.specs.declared.FormError.TheVariants.{NoForm, Refused}
use Rattle.form.proofs.Outcomes.{form-refused, shown-refused, shown-fine}
use Rattle.form.proofs.Theorems.{demand, found-thirteen}
use Rattle.mel.specs.Annotation as M
use Rattle.record_text.specs.Texts.{goal_text, no_span}
use Rattle.annotator.specs.Answers.{read, passes, check, check_outcome}
use Rattle.record.specs.Limits.{OfReading}
use Rattle.annotator.specs.Cases.{OfText, OfCheck, OfForm, OfLength, OfMel, Refuses, Numbers, OneAnswer}

-- ---- the numbers of refusals
abbrev Turned : {A : Type 0} → (ℕ → Type 0) → Outcome A → Type 0
Turned P o = All (λ k p. P k) (λ x. Unit {0}) o

started : {A : Type 0} (P : ℕ → Type 0) (b : List ℕ) (o : Outcome A) → ((k : ℕ) → OfReading k → P k) → Turned P o → Turned P (read_then b o)
started P b o h t = all_read (λ k p. P k) (λ x. Unit {0}) b o (λ r e. h r.number (refusal_number b r e)) (λ e. t)

text-turned : (n : ℕ) (t : List ℕ) → Turned OfCheck (read_text n t)
unfolding read_text
text-turned n t =
    all-only (λ k p. OfCheck k) (λ x. Unit {0}) (leb 1 (length t) && leb (length t) expression_limit) 15 0 (decided n t (R.read open_limit t)) (inr (omega arith, omega arith))
    (λ e. inside (R.read open_limit t))
  where
    used : (e : Expr) (o : Option ℕ) → Turned OfCheck (numbered e o)
    used e none = tt
    used e (some p) = inr (omega arith, omega arith)

    inside : (r : R.Scan) → Turned OfCheck (decided n t r)
    inside (R.stops k) = inr (omega arith, omega arith)
    inside (R.reads e) = used e (misuse n t e)

thirteen-turned : (P : ℕ → Type 0) (o : Option Four) (t : List ℕ) → P 13 → Turned P (F.or_thirteen o t)
thirteen-turned P none t h = tt
thirteen-turned P (some q) t h = h

sized : (P : ℕ → Type 0) (o : Outcome (List ℕ)) (buf : List ℕ) → P 12 → Turned P o → Turned P (size_in o buf)
sized P o buf h u = all-size (λ k p. P k) (λ x. Unit {0}) (λ x. Unit {0}) o buf u (λ t s. (h, tt))

-- ---- all of them are 1 or more
module _ (k : ℕ) where
  reading_some : OfReading k → 1 ≤ k
  reading_some h = ⊎_elim (λ a. a.0) (λ a. omega (arith, a.0)) h

  -- 13 is no refusal of reading
  reading-apart : OfReading k → k ≡ 13 → ⊥
  reading-apart h e = ⊎_elim (λ a. omega (arith, a.1, e)) (λ a. omega (arith, a.0, e)) h

  text_some : OfText k → 1 ≤ k
  text_some h = ⊎_elim reading_some (λ a. omega arith) h

  check_some : OfCheck k → 1 ≤ k
  check_some h = ⊎_elim reading_some (λ a. omega arith) h

  form_some : OfForm k → 1 ≤ k
  form_some h = ⊎_elim reading_some (λ a. ⊎_elim (λ c. omega arith) (λ c. omega arith) a) h

  length_some : OfLength k → 1 ≤ k
  length_some h = ⊎_elim reading_some (λ a. omega arith) h

  mel_some : OfMel k → 1 ≤ k
  mel_some h = ⊎_elim reading_some (λ a. omega arith) h

module _ (b : List ℕ) where
  read-turned : Turned OfReading (read b)
  unfolding read
  read-turned = started OfReading b (accepted (goal_count b)) (λ k h. h) tt

  passes-turned : Turned OfReading (passes b)
  unfolding passes
  passes-turned = started OfReading b (accepted (pass_count b)) (λ k h. h) tt

  goal-turned : (g : ℕ) → Turned OfText (goal_text b g)
  unfolding goal_text
  goal-turned g =
      started OfText b _ (λ k h. inl h) (all-only (λ k p. OfText k) (λ x. Unit {0}) (leb 1 g && leb g (goal_count b)) 14 0 _ (inr refl) (λ e. tt))

  check-turned : (t : List ℕ) → Turned OfCheck (check b t)
  unfolding check checked
  check-turned t =
      started OfCheck b _ (λ k h. inl h)
      (all-next (λ k p. OfCheck k) (λ x. Unit {0}) (λ x. Unit {0}) (read_text (goal_count b) t) _ (text-turned (goal_count b) t) (λ e s. tt))

  form-turned : (P : ℕ → Type 0) → ((k : ℕ) → OfReading k → P k) → P 13 → Turned P (F.form_text b)
  unfolding F.form_text
  form-turned P r h = started P b _ r (thirteen-turned P (F.first_four b) _ h)

  answer-turned : (buf : List ℕ) → Turned OfForm (F.form_answer b buf)
  answer-turned buf = sized OfForm (F.form_text b) buf (inr (inl refl)) (form-turned OfForm (λ k h. inl h) (inr (inr refl)))

  length-turned : Turned OfLength (F.form_length b)
  length-turned =
      all-next (λ k p. OfLength k) (λ x. Unit {0}) (λ x. Unit {0}) (F.form_text b) _ (form-turned OfLength (λ k h. inl h) (inr refl)) (λ t s. tt)

  mel-turned : (buf : List ℕ) → Turned OfMel (M.mel_answer b buf)
  unfolding M.mel_outcome
  mel-turned buf = sized OfMel (M.mel_outcome b) buf (inr refl) (started OfMel b (accepted (M.mel b)) (λ k h. inl h) tt)

  pub refuses : Refuses b
  refuses =
      record {
        of_read = λ k p. all-refused _ _ read-turned;
        of_passes = λ k p. all-refused _ _ passes-turned;
        of_text = λ g k p. all-refused _ _ (goal-turned g);
        of_check = λ t k p. all-refused _ _ (check-turned t);
        of_form = λ buf k p. all-refused _ _ (answer-turned buf);
        of_length = λ k p. all-refused _ _ length-turned;
        of_mel = λ buf k p. all-refused _ _ (mel-turned buf);
      }

  -- 13 exactly with its four goals
  thirteen : (buf : List ℕ) → (F.form_answer b buf ≡ refused 13 0) ↔ ((q : Four) × (F.shown b ≡ some q))
  thirteen buf = go (reading b) refl
    where
      go : (s : Reading) → reading b ≡ s → (F.form_answer b buf ≡ refused 13 0) ↔ ((q : Four) × (F.shown b ≡ some q))
      go (Ok _) e =
          let w = fine_well_formed b e in (
            λ h. let (q, n) = (demand b w).without buf h in (q, n.shows),
            λ (q, h). found-thirteen b w buf q (sym (shown-fine b e) ∙ h),
          )
      go (Err r) e = (
        λ h. absurd (reading-apart r.number (refusal_number b r e) (one_refusal (sym (ap (λ (o : Outcome (List ℕ)). size_in o buf) (form-refused b r e)) ∙ h)).0),
        λ (q, h). absurd (let k = sym (shown-refused b r e) ∙ h in let z : ◌≡◌ {A = ℕ} 0 1 = cc in omega arith),
      )

  pub numbers : Numbers b
  numbers =
      record {
        of_read = number-zero 0 (read b) (λ k p e. reading_some k (refuses.of_read k p e));
        of_passes = number-zero 0 (passes b) (λ k p e. reading_some k (refuses.of_passes k p e));
        of_text = λ g. number-zero no_span (goal_text b g) (λ k p e. text_some k (refuses.of_text g k p e));
        of_check = λ t. number-zero same (check b t) (λ k p e. check_some k (refuses.of_check t k p e));
        of_form = λ buf. number-zero 0 (F.form_answer b buf) (λ k p e. form_some k (refuses.of_form buf k p e));
        of_length = number-zero 0 (F.form_length b) (λ k p e. length_some k (refuses.of_length k p e));
        of_mel = λ buf. number-zero 0 (M.mel_answer b buf) (λ k p e. mel_some k (refuses.of_mel buf k p e));
        of_thirteen = thirteen;
      }

-- ---- one answer has an outcome
refusal_is : {A : Type 0} (r u : Refusal) → ◌≡◌ {A = Outcome A} (refused r.number r.place) (refused u.number u.place) → r ≡ u
refusal_is r u e = ap₂ (λ (k p : ℕ). made k p) (one_refusal e).0 (one_refusal e).1
  where
    made : ℕ → ℕ → Refusal
    made k p = record { number = k; place = p }

verdict_is : (v u : Verdict) → verdict_of v ≡ verdict_of u → v ≡ u
verdict_is Same Same e = refl
verdict_is Same (Differs p) e = absurd (let z : ◌≡◌ {A = ℕ} 0 1 = cc in omega arith)
verdict_is (Differs p) Same e = absurd (let z : ◌≡◌ {A = ℕ} 0 1 = cc in omega arith)
verdict_is (Differs p) (Differs q) e =
    let i : p.i ≡ q.i = cc in
    let j : p.j ≡ q.j = cc in
    ap₂ (λ (i j : ℕ). Differs (made i j)) i j
  where
    made : ℕ → ℕ → Pair
    made i j = record { i = i; j = j }

outcome_one : {A : Type 0} (a c : Result A Refusal) → outcome a ≡ outcome c → a ≡ c
outcome_one (Ok x) (Ok y) e = ap Ok (one_value e)
outcome_one (Ok x) (Err r) e = absurd (told_apart (sym e))
outcome_one (Err r) (Ok x) e = absurd (told_apart e)
outcome_one (Err r) (Err u) e = ap Err (refusal_is r u e)

check-one : (a c : Result Verdict Refusal) → check_outcome a ≡ check_outcome c → a ≡ c
check-one (Ok v) (Ok u) e = ap Ok (verdict_is v u (one_value e))
check-one (Ok v) (Err r) e = absurd (told_apart (sym e))
check-one (Err r) (Ok v) e = absurd (told_apart e)
check-one (Err r) (Err u) e = ap Err (refusal_is r u e)

four_is : (q r : Goals) → ◌≡◌ {A = Option Four} (some (four q)) (some (four r)) → q ≡ r
four_is q r e = let f : four q ≡ four r = cc in ap back f
  where
    back : Four → Goals
    back x = record { a = x.a; b = x.b; c = x.c; d = x.d }

form-one : (a c : Result ℕ FormError) → F.outcome a ≡ F.outcome c → F.goals a ≡ F.goals c → a ≡ c
form-one (Ok n) (Ok m) e g = ap Ok (one_value e)
form-one (Ok n) (Err (NoForm q)) e g = absurd (told_apart (sym e))
form-one (Ok n) (Err (Refused r)) e g = absurd (told_apart (sym e))
form-one (Err (NoForm q)) (Ok n) e g = absurd (told_apart e)
form-one (Err (NoForm q)) (Err (NoForm r)) e g = ap (λ x. Err (NoForm x)) (four_is q r g)
form-one (Err (NoForm q)) (Err (Refused r)) e g = absurd (let z : ◌≡◌ {A = ℕ} 0 1 = cc in omega arith)
form-one (Err (Refused r)) (Ok n) e g = absurd (told_apart e)
form-one (Err (Refused r)) (Err (NoForm q)) e g = absurd (let z : ◌≡◌ {A = ℕ} 0 1 = cc in omega arith)
form-one (Err (Refused r)) (Err (Refused u)) e g = ap (λ x. Err (Refused x)) (refusal_is r u e)

pub one_answer : OneAnswer
one_answer = record { of_read = outcome_one; of_text = outcome_one; of_check = check-one; of_form = form-one; of_mel = outcome_one }
