-- The numbers found in a text of the grammar are the goals of its expression, and nothing is wrong with them exactly if the expression uses each goal once.
use mathlib.Core.Path.{◌≡◌, refl, sym, ap, ap₂, ◌∙◌, subst}
use mathlib.Core.Bool.{Bool, true, false, ◌&&◌, ◌||◌, cond}
use mathlib.Core.List.{List, [], ◌∷◌, ◌++◌, append_assoc, append-nil}
use mathlib.Core.Option.{Option, none, some}
use mathlib.Core.Logic.{⊎_elim, dite, ◌↔◌}
use Prim.Native.Nat.{ℕ, zero, suc, ◌+◌, ◌≤◌}
use native.Mathlib.Omega.{arith}
use native.Mathlib.Decide.{dec_le}
use lib.Dec.{eqb, leb, ltb}
use lib.ListN.{length}
use borrow.Author.Tests.{eqb-true, eqb-false, eq-eqb, ne_eqb, leb-true, le-leb, lt-leb, ltb-false, le-ltb}
use Rattle.expression.specs.Expr.{Expr, goal, join, Members, one, more, times, times_m, UsesOnce}
use Rattle.expression.specs.Search.{or_else}
use Rattle.expression.specs.Text.{mark}
use Rattle.expression.proofs.Search.{never, or-none}
use Rattle.logic.proofs.Bools.{test, and-true, or-false}
use Rattle.expression_grammar.specs.Grammar.{Number, single, double, Joined, alone, several, Others, last, next, Member, group, number, parens, Text}
use Rattle.expression_grammar.specs.Numbers.{Found, found, fresh, grown, scan, numbers, among, fault, missing, misuse}
use Rattle.expression_grammar.proofs.Signs.{sign_digit}

-- The numbers of an expression from left to right.
abbrev mutual
  pub goals : Expr → List ℕ
  goals (goal g) = g ∷ []
  goals (join k e ms) = goals e ++ goals_m ms

  pub goals_m : Members → List ℕ
  goals_m (one e) = goals e
  goals_m (more e ms) = goals e ++ goals_m ms

-- How often i stands in a list.
abbrev pub count : List ℕ → ℕ → ℕ
count [] i = 0
count (v ∷ l) i = cond (eqb i v) 1 0 + count l i

abbrev pub values : List Found → List ℕ
values [] = []
values (x ∷ l) = x.value ∷ values l

-- ---- counting
count-append : (a b : List ℕ) (i : ℕ) → count (a ++ b) i ≡ count a i + count b i
count-append [] b i = omega arith
count-append (v ∷ a) b i = omega (arith, count-append a b i)

mutual
  pub count-goals : (e : Expr) (i : ℕ) → count (goals e) i ≡ times e i
  count-goals (goal g) i = omega arith
  count-goals (join k e ms) i = omega (arith, count-append (goals e) (goals_m ms) i, count-goals e i, count_goals_m ms i)

  count_goals_m : (ms : Members) (i : ℕ) → count (goals_m ms) i ≡ times_m ms i
  count_goals_m (one e) i = count-goals e i
  count_goals_m (more e ms) i = omega (arith, count-append (goals e) (goals_m ms) i, count-goals e i, count_goals_m ms i)

-- ---- the numbers of a text
abbrev pub Parts : List ℕ → Type 0
Parts u = (at : ℕ) (x : Found) → scan u at (some x) ≡ x ∷ scan u at none

abbrev Finds : List ℕ → List ℕ → List ℕ → ℕ → Type 0
Finds t gs u at = (end : ℕ) × (values (scan t at none) ≡ gs ++ values (scan u end none))

parts-end : Parts []
parts-end at x = refl

pub parts-mark : (k : Bool) (u : List ℕ) → Parts (mark k ∷ u)
parts-mark true u at x = refl
parts-mark false u at x = refl

pub skip_mark : (k : Bool) (u : List ℕ) (at : ℕ) → scan (mark k ∷ u) at none ≡ scan u (suc at) none
skip_mark true u at = refl
skip_mark false u at = refl

number_finds : (t : List ℕ) (n : ℕ) → Number t n → (u : List ℕ) → Parts u → (at : ℕ) → Finds (t ++ u) (n ∷ []) u at
number_finds t n (single v lo hi) u h at = (suc at, ap (λ s. values (scan u (suc at) (fresh s at))) (sign_digit v hi) ∙ ap values (h (suc at) (found v at)))
number_finds t n (double v w lo hi hw) u h at =
    (suc (suc at), ap (λ s. values (scan ((48 + w) ∷ u) (suc at) (fresh s at))) (sign_digit v hi) ∙ ap (λ s. (grown (found v at) s).value ∷ values (scan u (suc (suc at)) none)) (sign_digit w hw))

joins : (k : Bool) (t w u a b : List ℕ) (at end : ℕ) → values (scan (t ++ (mark k ∷ (w ++ u))) at none) ≡ a ++ values (scan (mark k ∷ (w ++ u)) end none)
    → Finds (w ++ u) b u (suc end) → Finds (t ++ (mark k ∷ (w ++ u))) (a ++ b) u at
joins k t w u a b at end p q = (q.0, p ∙ ap (λ z. a ++ values z) (skip_mark k (w ++ u) end) ∙ ap (λ z. a ++ z) q.1 ∙ sym (append_assoc a b (values (scan u q.0 none))))

mutual
  joined_finds : {k : Bool} {d : ℕ} {t : List ℕ} {e : Expr} → Joined k d t e → (u : List ℕ) → Parts u → (at : ℕ) → Finds (t ++ u) (goals e) u at
  joined_finds (alone m) u h at = member_finds m u h at
  joined_finds (several {k = k} {t = s} {u = t} {w = w} {e = x} {ms = ms} m o q) u h at =
      let a = member_finds m (mark k ∷ (w ++ u)) (parts-mark k (w ++ u)) at in
      let b = others_finds o u h (suc a.0) in
      rw (q, append_assoc t (mark k ∷ w) u) (joins k t w u (goals x) (goals_m ms) at a.0 a.1 b)

  others_finds : {k : Bool} {d : ℕ} {t : List ℕ} {ms : Members} → Others k d t ms → (u : List ℕ) → Parts u → (at : ℕ) → Finds (t ++ u) (goals_m ms) u at
  others_finds (last m) u h at = member_finds m u h at
  others_finds (next {k = k} {t = s} {u = t} {w = w} {e = x} {ms = ms} m o q) u h at =
      let a = member_finds m (mark k ∷ (w ++ u)) (parts-mark k (w ++ u)) at in
      let b = others_finds o u h (suc a.0) in
      rw (q, append_assoc t (mark k ∷ w) u) (joins k t w u (goals x) (goals_m ms) at a.0 a.1 b)

  member_finds : {k : Bool} {d : ℕ} {t : List ℕ} {e : Expr} → Member k d t e → (u : List ℕ) → Parts u → (at : ℕ) → Finds (t ++ u) (goals e) u at
  member_finds (group j) u h at = joined_finds j u h at
  member_finds (number {t = t} {n = n} j) u h at = number_finds t n j u h at
  member_finds (parens {u = t} {e = e} j q) u h at =
      let a = joined_finds j (41 ∷ u) (λ i x. refl) (suc at) in
      rw (q, append_assoc t (41 ∷ []) u) (suc a.0, a.1)

pub text-goals : (d : ℕ) (t : List ℕ) (e : Expr) → Text d t e → values (numbers t) ≡ goals e
text-goals d t e j =
    let a = joined_finds j [] parts-end 0 in
    ap (λ z. values (scan z 0 none)) (sym (append-nil t)) ∙ a.1 ∙ append-nil (goals e)

-- ---- no number is 0
mutual
  joined-zero : {k : Bool} {d : ℕ} {t : List ℕ} {e : Expr} → Joined k d t e → times e 0 ≡ 0
  joined-zero (alone m) = member_zero m
  joined-zero (several m o q) = omega (arith, member_zero m, others-zero o)

  others-zero : {k : Bool} {d : ℕ} {t : List ℕ} {ms : Members} → Others k d t ms → times_m ms 0 ≡ 0
  others-zero (last m) = member_zero m
  others-zero (next m o q) = omega (arith, member_zero m, others-zero o)

  member_zero : {k : Bool} {d : ℕ} {t : List ℕ} {e : Expr} → Member k d t e → times e 0 ≡ 0
  member_zero (group j) = joined-zero j
  member_zero (number {n = n} j) = ap (λ b. cond b 1 0) (ne_eqb 0 n (λ e. omega (arith, positive j)))
    where
      positive : {t : List ℕ} {n : ℕ} → Number t n → 1 ≤ n
      positive (single v lo hi) = lo
      positive (double v w lo hi hw) = omega arith
  member_zero (parens j q) = joined-zero j

-- ---- refusal 17
among_none : (v : ℕ) (l : List ℕ) → among v l ≡ false → count l v ≡ 0
among_none v [] h = refl
among_none v (w ∷ l) h =
    let t = or-false (eqb v w) (among v l) h in
    let r = among_none v l t.1 in
    rw t.0 (omega arith)

none-among : (v : ℕ) (l : List ℕ) → count l v ≡ 0 → among v l ≡ false
none-among v [] h = refl
none-among v (w ∷ l) h =
    ⊎_elim (λ t. absurd (omega (arith, subst (λ (b : Bool). cond b 1 0 + count l v ≡ 0) t h)))
    (λ t. rw t (none-among v l (omega (arith, subst (λ (b : Bool). cond b 1 0 + count l v ≡ 0) t h))))
    (test (eqb v w))

-- each number is at most n, and stands once, here or among those met
abbrev pub Good : ℕ → List ℕ → List ℕ → Type 0
Good n met vs = (i : ℕ) → 1 ≤ count vs i → (i ≤ n) × (count vs i + count met i ≤ 1)

flag : (b c : Bool) → b ≡ c → cond {A = ℕ} b 1 0 ≡ cond c 1 0
flag b c e = ap (λ z. cond {A = ℕ} z 1 0) e

good_one : (n : ℕ) (met : List ℕ) (v : ℕ) (vs : List ℕ) → v ≤ n → count met v ≡ 0 → Good n (v ∷ met) vs → Good n met (v ∷ vs)
good_one n met v vs le zero-met h i p = ⊎_elim (λ t. here (eqb-true i v t) (flag _ _ t)) (λ t. there (flag _ _ t)) (test (eqb i v))
  where
    here : i ≡ v → cond {A = ℕ} (eqb i v) 1 0 ≡ 1 → (i ≤ n) × (count (v ∷ vs) i + count met i ≤ 1)
    here e t = let m : count met i ≡ 0 = ap (λ z. count met z) e ∙ zero-met in dite (dec_le 1 (count vs i)) (λ q. absurd (omega (arith, (h i q).1))) (λ q. (omega arith, omega arith))

    there : cond {A = ℕ} (eqb i v) 1 0 ≡ 0 → (i ≤ n) × (count (v ∷ vs) i + count met i ≤ 1)
    there t = let g = h i (omega arith) in (g.0, omega (arith, g.1))

pub fault_good : (n : ℕ) (met : List ℕ) (l : List Found) → fault n met l ≡ none → Good n met (values l)
fault_good n met [] h = λ i p. absurd (omega arith)
fault_good n met (x ∷ l) h =
    let v = x.value in
    let t : (ltb n v || among v met) ≡ false = ⊎_elim (λ t. absurd (never (sym h ∙ ap (λ b. cond b (some x.place) (fault n (v ∷ met) l)) t))) (λ t. t) (test (ltb n v || among v met)) in
    let both = or-false (ltb n v) (among v met) t in
    good_one n met v (values l) (ltb-false n v both.0) (among_none v met both.1)
    (fault_good n (v ∷ met) l (sym (ap (λ b. cond b (some x.place) (fault n (v ∷ met) l)) t) ∙ h))

good_fault : (n : ℕ) (met : List ℕ) (l : List Found) → Good n met (values l) → fault n met l ≡ none
good_fault n met [] g = refl
good_fault n met (x ∷ l) g =
    let v = x.value in
    let one-here : cond {A = ℕ} (eqb v v) 1 0 ≡ 1 = flag _ _ (eq-eqb v v refl) in
    let here = g v (omega arith) in
    let t : (ltb n v || among v met) ≡ false = rw (le-ltb n v here.0) (none-among v met (omega (arith, here.1))) in
    ap (λ b. cond b (some x.place) (fault n (v ∷ met) l)) t
    ∙ (good_fault n (v ∷ met) l (λ i p. let r = g i (omega arith) in (r.0, omega (arith, r.1))))

pub missing-none : (n : ℕ) (e : Expr) → missing n e ≡ false → (i : ℕ) → 1 ≤ i → i ≤ n → 1 ≤ times e i
missing-none zero e h i lo hi = absurd (omega arith)
missing-none (suc n) e h i lo hi =
    let t = or-false (eqb (times e (suc n)) 0) (missing n e) h in
    dite (dec_le i n) (λ q. missing-none n e t.1 i lo q)
    (λ q. let same : i ≡ suc n = omega arith in subst (λ z. 1 ≤ times e z) (sym same) (dite (dec_le 1 (times e (suc n))) (λ r. r) (λ r. absurd (eqb-false (times e (suc n)) 0 t.0 (omega arith)))))

pub none-missing : (n : ℕ) (e : Expr) → ((i : ℕ) → 1 ≤ i → i ≤ n → 1 ≤ times e i) → missing n e ≡ false
none-missing zero e h = refl
none-missing (suc n) e h = rw (ne_eqb (times e (suc n)) 0 (λ q. omega (arith, h (suc n) (omega arith) (omega arith)))) (none-missing n e (λ i lo hi. h i lo (omega arith)))

-- Nothing is wrong with the numbers exactly if each goal is used once.
cond-none : (b : Bool) (x : ℕ) → cond b (some x) none ≡ none → b ≡ false
cond-none true x h = absurd (never (sym h))
cond-none false x h = refl

pub misuse-none : (d n : ℕ) (t : List ℕ) (e : Expr) → Text d t e → (misuse n t e ≡ none) ↔ UsesOnce n e
misuse-none d n t e j = (λ h. to h, λ u. back u)
  where
    same : (i : ℕ) → count (values (numbers t)) i ≡ times e i
    same i = ap (λ z. count z i) (text-goals d t e j) ∙ count-goals e i

    to : misuse n t e ≡ none → UsesOnce n e
    to h i =
        let p = or-none (fault n [] (numbers t)) (cond (missing n e) (some (length t)) none) h in
        let g = fault_good n [] (numbers t) p.0 i in
        let m = missing-none n e (cond-none (missing n e) (length t) p.1) i in
        dite (dec_le 1 i)
        (λ lo. dite (dec_le i n)
        (λ hi. let one_at = m lo hi in let r = g (omega (arith, same i)) in rw (le-leb 1 i lo, le-leb i n hi) (omega (arith, same i, r.1)))
        (λ hi. rw (le-leb 1 i lo, lt-leb i n (omega arith)) (dite (dec_le 1 (times e i)) (λ q. absurd (omega (arith, (g (omega (arith, same i))).0))) (λ q. omega arith))))
        (λ lo. rw (lt-leb 1 i (omega arith)) (let z : i ≡ 0 = omega arith in ap (λ z. times e z) z ∙ joined-zero j))

    back : UsesOnce n e → misuse n t e ≡ none
    back u =
        ap₂ (λ (x y : Option ℕ). or_else x y)
        (good_fault n [] (numbers t) (λ i p.
        ⊎_elim
        (λ q. (leb-true i n (and-true (leb 1 i) (leb i n) q).1, omega (arith, same i, u i, flag _ _ q)))
        (λ q. absurd (omega (arith, same i, u i, flag _ _ q)))
        (test (leb 1 i && leb i n))))
        (rw (none-missing n e (λ i lo hi. omega (arith, u i, flag (leb 1 i && leb i n) true (rw (le-leb 1 i lo, le-leb i n hi))))))
