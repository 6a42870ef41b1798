-- Refusal 17 in words: what `misuse` computes is `Misuse`.
--     fault_is        the place that `fault` finds is that of the leftmost number above n or met before
--     fault-none_is   it finds none exactly if no number is
--     missing_is      `missing` says whether a goal is missing
--     misuse_is       both together, for a text of the grammar
--     misused_runs    the same with the numbers as runs of digits
use mathlib.Core.Path.{◌≡◌, refl, sym, ap, ◌∙◌, subst}
use mathlib.Core.Bool.{Bool, true, false, ◌||◌, cond, true≢false}
use mathlib.Core.List.{List, [], ◌∷◌}
use mathlib.Core.Option.{Option, none, some}
use mathlib.Core.Logic.{◌⊎◌, inl, inr, ⊎_elim, dite, ◌↔◌}
use Prim.Native.Nat.{ℕ, zero, suc, ◌<◌}
use native.Mathlib.Decide.{dec_lt, dec_le}
use native.Mathlib.Omega.{arith}
use lib.Dec.{eqb, ltb}
use lib.ListN.{length}
use borrow.Author.Tests.{eqb-true, eq-eqb, ltb-true, lt-ltb}
use Rattle.expression_grammar.specs.TextRules.{open_limit}
use Rattle.logic.proofs.Bools.{or-true, or-false, or_l, or_r}
use Rattle.expression.specs.Expr.{Expr, Goals, times}
use Rattle.expression.proofs.Search.{never, or_some}
use Rattle.expression_grammar.specs.Grammar.{Text}
use Rattle.expression_grammar.specs.Numbers.{Found, numbers, among, fault, missing, misuse}
use Rattle.expression_grammar.specs.Occurrences.{NumberAt, NumberRun, Wrong, Leftmost, Missing, Misuse, Misused}
use Rattle.expression_grammar.proofs.Occurrences.{Has, number_at, Ascends, ascending}
use Rattle.expression_grammar.proofs.Runs.{number-run}

-- ---- the leftmost number above n or met before, where some are met already
abbrev WrongIn : ℕ → List ℕ → List Found → ℕ → Type 0
WrongIn n met l k = (v : ℕ) × Has l k v × ((n < v) ⊎ ((among v met ≡ true) ⊎ ((p : ℕ) × (p < k) × Has l p v)))

some_is : {x p : ℕ} → some x ≡ some p → p ≡ x
some_is h = cc

module _ (n : ℕ) (met : List ℕ) (x : Found) (l : List Found) (up : Ascends (x ∷ l)) where
  -- the first is not wrong: what is wrong is wrong in the rest
  rest_wrong : (ltb n x.value || among x.value met) ≡ false → (k : ℕ) → WrongIn n met (x ∷ l) k → WrongIn n (x.value ∷ met) l k
  rest_wrong f k (v, inl (ek, ev), why) =
      let both = or-false (ltb n x.value) (among x.value met) f in
      absurd (⊎_elim (λ a. true≢false (sym (lt-ltb n x.value (omega arith)) ∙ both.0))
      (⊎_elim (λ a. true≢false (sym (ap (λ z. among z met) (sym ev) ∙ a) ∙ both.1))
      (λ a. ⊎_elim (λ e. omega (arith, a.1, e.0)) (λ e. omega (arith, a.1, up.0 a.0 v e)) a.2)) why)
  rest_wrong f k (v, inr i, inl a) = (v, i, inl a)
  rest_wrong f k (v, inr i, inr (inl a)) = (v, i, inr (inl (or_r (eqb v x.value) (among v met) a)))
  rest_wrong f k (v, inr i, inr (inr (p, lt, inl e))) = (v, i, inr (inl (or_l (eqb v x.value) (among v met) (eq-eqb v x.value e.1))))
  rest_wrong f k (v, inr i, inr (inr (p, lt, inr e))) = (v, i, inr (inr (p, lt, e)))

  -- what is wrong in the rest is wrong
  wrong_rest : (k : ℕ) → WrongIn n (x.value ∷ met) l k → WrongIn n met (x ∷ l) k
  wrong_rest k (v, i, inl a) = (v, inr i, inl a)
  wrong_rest k (v, i, inr (inl a)) =
      (v, inr i, ⊎_elim (λ e. inr (inr (x.place, up.0 k v i, inl (refl, eqb-true v x.value e)))) (λ e. inr (inl e)) (or-true (eqb v x.value) (among v met) a))
  wrong_rest k (v, i, inr (inr (p, lt, e))) = (v, inr i, inr (inr (p, lt, inr e)))

  -- the first is wrong
  first_wrong : (ltb n x.value || among x.value met) ≡ true → WrongIn n met (x ∷ l) x.place
  first_wrong t = (x.value, inl (refl, refl), ⊎_elim (λ a. inl (ltb-true n x.value a)) (λ a. inr (inl a)) (or-true (ltb n x.value) (among x.value met) t))

  none_before : (p : ℕ) → p < x.place → WrongIn n met (x ∷ l) p → ⊥
  none_before p lt (v, inl e, why) = omega (arith, e.0)
  none_before p lt (v, inr i, why) = omega (arith, up.0 p v i)

-- what fault answers, in words
abbrev Told : ℕ → List ℕ → List Found → Option ℕ → Type 0
Told n met l none = (k : ℕ) → WrongIn n met l k → ⊥
Told n met l (some k) = WrongIn n met l k × ((p : ℕ) → p < k → WrongIn n met l p → ⊥)

fault_told : (n : ℕ) (met : List ℕ) (l : List Found) → Ascends l → Told n met l (fault n met l)
fault_told n met [] up = λ k w. w.1
fault_told n met (x ∷ l) up = go (fault n (x.value ∷ met) l) (fault_told n (x.value ∷ met) l up.1) (ltb n x.value || among x.value met) refl
  where
    go : (r : Option ℕ) → Told n (x.value ∷ met) l r → (b : Bool) → (ltb n x.value || among x.value met) ≡ b → Told n met (x ∷ l) (cond b (some x.place) r)
    go r h true t = (first_wrong n met x l up t, none_before n met x l up)
    go none h false t = λ k w. h k (rest_wrong n met x l up t k w)
    go (some k) h false t = (wrong_rest n met x l up k h.0, λ p lt w. h.1 p lt (rest_wrong n met x l up t p w))

-- ---- the same of the numbers that the grammar reads
module _ (n : ℕ) {d : ℕ} {t : List ℕ} {e : Expr} (j : Text d t e) where
  to_wrong : (k : ℕ) → WrongIn n [] (numbers t) k → Wrong n (NumberAt j) k
  to_wrong k (v, i, inl a) = (v, (number_at j k v).1 i, inl a)
  to_wrong k (v, i, inr (inl a)) = absurd (true≢false (sym a))
  to_wrong k (v, i, inr (inr (p, lt, h))) = (v, (number_at j k v).1 i, inr (p, lt, (number_at j p v).1 h))

  of_wrong : (k : ℕ) → Wrong n (NumberAt j) k → WrongIn n [] (numbers t) k
  of_wrong k (v, i, inl a) = (v, (number_at j k v).0 i, inl a)
  of_wrong k (v, i, inr (p, lt, h)) = (v, (number_at j k v).0 i, inr (inr (p, lt, (number_at j p v).0 h)))

  fault-none : fault n [] (numbers t) ≡ none → (k : ℕ) → Wrong n (NumberAt j) k → ⊥
  fault-none q k w = subst (Told n [] (numbers t)) q (fault_told n [] (numbers t) (ascending t)) k (of_wrong k w)

  fault_some : (k : ℕ) → fault n [] (numbers t) ≡ some k → Leftmost n (NumberAt j) k
  fault_some k q =
      let h = subst (Told n [] (numbers t)) q (fault_told n [] (numbers t) (ascending t)) in
      record { wrong = to_wrong k h.0; leftmost = λ p lt w. h.1 p lt (of_wrong p w) }

  -- two leftmost are one
  leftmost_unique : (k l : ℕ) → Leftmost n (NumberAt j) k → Leftmost n (NumberAt j) l → k ≡ l
  leftmost_unique k l a b = dite (dec_lt k l) (λ h. absurd (b.leftmost k h a.wrong)) (λ h. dite (dec_lt l k) (λ i. absurd (a.leftmost l i b.wrong)) (λ i. omega arith))

  pub fault_is : (k : ℕ) → (fault n [] (numbers t) ≡ some k) ↔ Leftmost n (NumberAt j) k
  fault_is k = (fault_some k, λ f. go f (fault n [] (numbers t)) refl)
    where
      go : Leftmost n (NumberAt j) k → (o : Option ℕ) → fault n [] (numbers t) ≡ o → fault n [] (numbers t) ≡ some k
      go f none q = absurd (fault-none q k f.wrong)
      go f (some l) q = q ∙ ap some (leftmost_unique l k (fault_some l q) f)

  pub fault-none_is : (fault n [] (numbers t) ≡ none) ↔ ((k : ℕ) → Wrong n (NumberAt j) k → ⊥)
  fault-none_is = (fault-none, λ h. go h (fault n [] (numbers t)) refl)
    where
      go : ((k : ℕ) → Wrong n (NumberAt j) k → ⊥) → (o : Option ℕ) → fault n [] (numbers t) ≡ o → fault n [] (numbers t) ≡ none
      go h none q = q
      go h (some l) q = absurd (h l (fault_some l q).wrong)

-- ---- a goal missing
missing-goal : (n : ℕ) (e : Expr) → missing n e ≡ true → (i : ℕ) × Goals n i × (times e i ≡ 0)
missing-goal zero e h = absurd (true≢false (sym h))
missing-goal (suc n) e h =
    ⊎_elim (λ t. (suc n, (omega arith, omega arith), eqb-true (times e (suc n)) 0 t)) (λ t. let (i, g, z) = missing-goal n e t in (i, (g.0, omega (arith, g.1)), z))
    (or-true (eqb (times e (suc n)) 0) (missing n e) h)

goal-missing : (n : ℕ) (e : Expr) (i : ℕ) → Goals n i → times e i ≡ 0 → missing n e ≡ true
goal-missing zero e i g z = absurd (omega (arith, g.0, g.1))
goal-missing (suc n) e i g z =
    dite (dec_le i n) (λ h. or_r (eqb (times e (suc n)) 0) (missing n e) (goal-missing n e i (g.0, h) z))
    (λ h. let same : i ≡ suc n = omega (arith, g.1) in or_l (eqb (times e (suc n)) 0) (missing n e) (eq-eqb (times e (suc n)) 0 (ap (times e) (sym same) ∙ z)))

pub missing_is : (n : ℕ) (e : Expr) → (missing n e ≡ true) ↔ ((i : ℕ) × Goals n i × (times e i ≡ 0))
missing_is n e = (missing-goal n e, λ h. goal-missing n e h.0 h.1 h.2)

-- ---- both
pub misuse_is : (n : ℕ) {d : ℕ} {t : List ℕ} {e : Expr} (j : Text d t e) (p : ℕ) → (misuse n t e ≡ some p) ↔ Misuse n j p
misuse_is n {d} {t} {e} j p = (λ h. ⊎_elim (λ f. inl ((fault_is n j p).0 f)) (λ f. inr (to f.0 (missing n e) refl f.1)) (or_some (fault n [] (numbers t)) _ h), back)
  where
    to : fault n [] (numbers t) ≡ none → (b : Bool) → missing n e ≡ b → cond b (some (length t)) none ≡ some p → Missing n (NumberAt j) t e p
    to f true m h = let g = (missing_is n e).0 m in record { none_wrong = (fault-none_is n j).0 f; goal = g.0; is_goal = g.1; stands_not = g.2; place = some_is h }
    to f false m h = absurd (never h)

    back : Misuse n j p → misuse n t e ≡ some p
    back (inl f) = rw ((fault_is n j p).1 f)
    back (inr m) = rw ((fault-none_is n j).1 m.none_wrong, (missing_is n e).1 (m.goal, m.is_goal, m.stands_not), m.place)

-- ---- the numbers as runs of digits: no derivation is named
module _ (n : ℕ) (N M : ℕ → ℕ → Type 0) (same : (p v : ℕ) → N p v ↔ M p v) where
  wrong_same : (p : ℕ) → Wrong n N p → Wrong n M p
  wrong_same p (v, i, inl a) = (v, (same p v).0 i, inl a)
  wrong_same p (v, i, inr (q, l, a)) = (v, (same p v).0 i, inr (q, l, (same q v).0 a))

  same_wrong : (p : ℕ) → Wrong n M p → Wrong n N p
  same_wrong p (v, i, inl a) = (v, (same p v).1 i, inl a)
  same_wrong p (v, i, inr (q, l, a)) = (v, (same p v).1 i, inr (q, l, (same q v).1 a))

  misuse-same : (t : List ℕ) (e : Expr) (p : ℕ) → Leftmost n N p ⊎ Missing n N t e p → Leftmost n M p ⊎ Missing n M t e p
  misuse-same t e p (inl f) = inl (record { wrong = wrong_same p f.wrong; leftmost = λ q l w. f.leftmost q l (same_wrong q w) })
  misuse-same t e p (inr m) =
      inr (record { none_wrong = λ q w. m.none_wrong q (same_wrong q w); goal = m.goal; is_goal = m.is_goal; stands_not = m.stands_not; place = m.place })

pub misused_runs : (n : ℕ) (t : List ℕ) (p : ℕ) → Misused n t p ↔ ((e : Expr) × Text open_limit t e × (Leftmost n (NumberRun t) p ⊎ Missing n (NumberRun t) t e p))
misused_runs n t p = (
  λ (e, j, m). (e, j, misuse-same n (NumberAt j) (NumberRun t) (number-run j) t e p m),
  λ (e, j, m). (e, j, misuse-same n (NumberRun t) (NumberAt j) (λ q v. let r = number-run j q v in (r.1, r.0)) t e p m),
)
