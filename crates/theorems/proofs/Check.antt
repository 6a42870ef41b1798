-- T12: the check of an expression, in the paper's words. Every name in a statement is one of specs/, here or in the crates below.
--     check_says      the whole, for a well-formed record and any text
--     check_15 to check_differs   its five equivalences, one by one
--     answer_says     the same of the operation's answer
--     differs_not     an expression that differs has not the record's order
use mathlib.Core.Path.{◌≡◌, refl, sym, ap, ◌∙◌, subst}
use mathlib.Core.Bool.{Bool, cond}
use mathlib.Core.List.{List, [], ◌∷◌}
use mathlib.Core.Option.{Option, none, some}
use mathlib.Core.Logic.{◌⊎◌, inl, inr, ⊎_elim, dite, ◌↔◌}
use Prim.Native.Nat.{ℕ, ◌≤◌, ◌<◌}
use native.Mathlib.Decide.{dec_le, dec_lt}
use native.Mathlib.Omega.{arith}
use lib.Dec.{eqb}
use lib.ListN.{length}
use Rattle.record_fields.specs.Fields.{goal_count}
use Rattle.record.specs.WellFormed.{WellFormed}
use Rattle.record.proofs.WellFormed.{well_formed_fine}
use Rattle.expression.specs.Expr as E
use Rattle.expression.specs.Expr.{Expr, UsesOnce}
use Rattle.order.specs.Order as O
use Rattle.form.specs.Demand.{HasOrder, Expresses}
use Rattle.expression_grammar.specs.Grammar.{Text, BadAt}
use Rattle.expression_grammar.specs.Reader.{Scan, reads, stops, read}
use Rattle.expression_grammar.specs.Numbers.{misuse}
use Rattle.record_rules.specs.Outcome.{Outcome, refused, accepted}
use Rattle.expression_grammar.specs.TextRules.{expression_limit, open_limit, numbered, decided, read_text}
use Rattle.expression_grammar.specs.Check.{Verdict, same, differs, first_differ, verdict, judged, checked}
use Rattle.expression_grammar.proofs.Theorems.{accepts, refuses, read_text_lem, read_16, read_17}
use Rattle.expression_grammar.proofs.Goals.{misuse-none}
use Rattle.expression_grammar.proofs.Differences.{same-order}
use Rattle.record_rules.specs.declared.Refusal.{Refusal}
use Rattle.order_compare.specs.declared.Verdict as Verdicts
use Rattle.std.specs.Prelude as P
use Rattle.annotator.specs.Answers.{check_outcome, check}
use Rattle.annotator.proofs.Checks.{check_fine}
use Rattle.expression_grammar.specs.Occurrences.{Misused}
use Rattle.theorems.specs.Check.{Sized, FirstDifference, Case, refused_15, refused_16, refused_17, says_same, says_differs, answer, Applies, CheckSays}
use Rattle.expression_grammar.proofs.Misuses.{misuse_is}
use Rattle.expression_grammar.proofs.Readings.{sized, unsized}
use Rattle.theorems.proofs.Orders.{first_is, order_is}

-- ---- the answers of the five cases are different
abbrev case_of : Outcome Verdict → Case
case_of (refused k p) = cond (eqb k 15) refused_15 (cond (eqb k 16) (refused_16 p) (refused_17 p))
case_of (accepted same) = says_same
case_of (accepted (differs i j)) = says_differs i j

case_of-answer : (c : Case) → case_of (answer c) ≡ c
case_of-answer refused_15 = refl
case_of-answer (refused_16 p) = refl
case_of-answer (refused_17 p) = refl
case_of-answer says_same = refl
case_of-answer (says_differs i j) = refl

answers_differ : (c c' : Case) → answer c ≡ answer c' → c ≡ c'
answers_differ c c' h = sym (case_of-answer c) ∙ ap case_of h ∙ case_of-answer c'

-- ---- a text that has not 1 to 512 bytes
too_short_or_long : (t : List ℕ) → (1 ≤ length t → length t ≤ expression_limit → ⊥) → (t ≡ []) ⊎ (expression_limit < length t)
too_short_or_long [] h = inl refl
too_short_or_long (x ∷ t) h = dite (dec_lt expression_limit (length (x ∷ t))) inr (λ l. absurd (h (omega arith) (omega arith)))

not_sized : (t : List ℕ) → (t ≡ []) ⊎ (expression_limit < length t) → 1 ≤ length t → length t ≤ expression_limit → ⊥
not_sized t (inl e) lo hi = omega (arith, ap length e)
not_sized t (inr l) lo hi = omega arith

module _ (b t : List ℕ) where
  abbrev n : ℕ
  n = goal_count b

  abbrev R : ℕ → ℕ → Bool
  R = O.before b

  -- ---- the answer of a case that applies
  applied : (c : Case) → Applies b t c → checked n R t ≡ answer c
  unfolding checked
  applied refused_15 a = ap (λ r. judged n R r) (unsized n t (not_sized t a))
  applied (refused_16 p) ((lo, hi), a) = ap (λ r. judged n R r) ((read_16 n t p).1 (lo, hi, a))
  applied (refused_17 p) ((lo, hi), a) = ap (λ r. judged n R r) ((read_17 n t p).1 (lo, hi, a))
  applied says_same ((lo, hi), (e, j, x)) =
      ap (λ r. judged n R r) ((read_text_lem n t e).1 (lo, hi, j, x.uses))
      ∙ ap (λ o. accepted (verdict o)) ((same-order n R (E.before e)).1 ((order_is b e x.uses).1 x.order))
  applied (says_differs i j) ((lo, hi), (e, s, u, f)) =
      ap (λ r. judged n R r) ((read_text_lem n t e).1 (lo, hi, s, u)) ∙ ap (λ o. accepted (verdict o)) ((first_is b e u i j).1 f)

  -- ---- a case that applies, with its answer
  abbrev Answered : Outcome Verdict → Type 0
  Answered r = (c : Case) × Applies b t c × (r ≡ answer c)

  compared : Sized t → (e : Expr) → Text open_limit t e → UsesOnce n e → (o : Option (ℕ × ℕ)) → first_differ n R (E.before e) ≡ o → Answered (accepted (verdict o))
  compared z e j u none h = (says_same, (z, (e, j, record { uses = u; order = (order_is b e u).0 ((same-order n R (E.before e)).0 h) })), refl)
  compared z e s u (some (i, j)) h = (says_differs i j, (z, (e, s, u, (first_is b e u i j).0 h)), refl)

  used : Sized t → (e : Expr) → Text open_limit t e → (o : Option ℕ) → misuse n t e ≡ o → Answered (judged n R (numbered e o))
  used z e j none h = compared z e j ((misuse-none open_limit n t e j).0 h) (first_differ n R (E.before e)) refl
  used z e j (some p) h = (refused_17 p, (z, (e, j, (misuse_is n j p).0 h)), refl)

  was_read : Sized t → (r : Scan) → read open_limit t ≡ r → Answered (judged n R (decided n t r))
  was_read z (stops p) h = (refused_16 p, (z, (refuses open_limit t p).0 h), refl)
  was_read z (reads e) h = let j = (accepts open_limit t e).0 h in used z e j (misuse n t e) refl

  answered : Answered (checked n R t)
  unfolding checked
  answered =
      dite (dec_le 1 (length t))
      (λ lo. dite (dec_le (length t) expression_limit)
      (λ hi. subst (λ r. Answered (judged n R r)) (sym (sized n t lo hi)) (was_read (lo, hi) (read open_limit t) refl))
      (λ out. not_so_long (λ _ hi. out hi)))
      (λ out. not_so_long (λ lo _. out lo))
    where
      not_so_long : (1 ≤ length t → length t ≤ expression_limit → ⊥) → Answered (judged n R (read_text n t))
      not_so_long h = subst (λ r. Answered (judged n R r)) (sym (unsized n t h)) (refused_15, too_short_or_long t h, refl)

-- ---- T12. For a well-formed record and any text: each answer is given exactly if its case applies; one case applies, and only one.
pub check_says : (b t : List ℕ) → WellFormed b → CheckSays b t
check_says b t w =
    let fine : checked (goal_count b) (O.before b) t ≡ check b t = check_fine b t (well_formed_fine b w) in
    let (c₀, a₀, e₀) = answered b t in
    record {
      exactly = λ c. (λ h. subst (Applies b t) (answers_differ c₀ c (sym e₀ ∙ fine ∙ h)) a₀, λ a. sym fine ∙ applied b t c a);
      one_case = (c₀, a₀);
      only_case = λ c c' a a'. answers_differ c c' (sym (applied b t c a) ∙ applied b t c' a');
    }

-- Its equivalences, one by one.
module _ (b t : List ℕ) (w : WellFormed b) where
  -- 15 exactly if the text is empty or above 512 bytes;
  pub check_15 : (check b t ≡ refused 15 0) ↔ ((t ≡ []) ⊎ (expression_limit < length t))
  check_15 = (check_says b t w).exactly refused_15

  -- 16 exactly if it is not, and p is its bad place;
  pub check_16 : (p : ℕ) → (check b t ≡ refused 16 p) ↔ (Sized t × BadAt open_limit t p)
  check_16 p = (check_says b t w).exactly (refused_16 p)

  -- 17 exactly if it is in the grammar, and p is the place of its leftmost number above n or met before, or it has none, a goal is missing and p is its length;
  pub check_17 : (p : ℕ) → (check b t ≡ refused 17 p) ↔ (Sized t × Misused (goal_count b) t p)
  check_17 p = (check_says b t w).exactly (refused_17 p)

  -- "same" exactly if it is the text of an expression that uses each goal exactly once and has the record's order;
  pub check-same : (check b t ≡ accepted same) ↔ (Sized t × ((e : Expr) × Text open_limit t e × Expresses b e))
  check-same = (check_says b t w).exactly says_same

  -- "differs" exactly if it is the text of an expression that uses each goal exactly once, and i, j is the first pair that just one of the two orders has.
  pub check_differs : (i j : ℕ)
      → (check b t ≡ accepted (differs i j)) ↔ (Sized t × ((e : Expr) × Text open_limit t e × UsesOnce (goal_count b) e × FirstDifference b e i j))
  check_differs i j = (check_says b t w).exactly (says_differs i j)

-- The operation promises `check_outcome r ≡ check b t` of its answer r: so its answer says the same.
pub answer_says : (b t : List ℕ) → WellFormed b → (r : P.Result Verdicts.Verdict Refusal) → check_outcome r ≡ check b t → (c : Case) → (check_outcome r ≡ answer c) ↔ Applies b t c
answer_says b t w r e c = let x = (check_says b t w).exactly c in (λ h. x.0 (sym e ∙ h), λ a. e ∙ x.1 a)

-- An expression that differs has not the record's order.
pub differs_not : (b : List ℕ) (e : Expr) (i j : ℕ) → FirstDifference b e i j → HasOrder b e → ⊥
differs_not b e i j f h =
    let x = h i j f.goals.0 f.goals.1 in
    ⊎_elim (λ a. a.1 (x.0 a.0)) (λ a. a.0 (x.1 a.1)) f.just_one
