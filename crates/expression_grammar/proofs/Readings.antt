-- What reading a text gives, in the words of the rules.
--     read_answer     an expression exactly if the text has 1 to 512 bytes, is a text of it, and it uses each goal once
--     read_16         refusal 16 at k exactly if the text has 1 to 512 bytes and k is its bad place
--     read_17         refusal 17 at p exactly if the text has 1 to 512 bytes and its numbers are misused at p
--     unsized         refusal 15 for any other number of bytes
--     read-place      a refusal's place lies in the text or at its end, and is at most 512
use mathlib.Core.Path.{◌≡◌, refl, sym, ap, ◌∙◌, subst}
use mathlib.Core.Bool.{Bool, true, false, ◌&&◌, cond}
use mathlib.Core.List.{List, ◌++◌}
use mathlib.Core.Option.{Option, none, some}
use mathlib.Core.Logic.{◌⊎◌, inl, inr, ⊎_elim, ◌↔◌}
use Prim.Native.Nat.{ℕ, ◌≤◌, ◌<◌}
use native.Mathlib.Omega.{arith}
use lib.Dec.{leb}
use lib.ListN.{length, length-append}
use borrow.Author.Tests.{leb-true, le-leb}
use Rattle.expression.specs.Expr.{Expr, UsesOnce}
use Rattle.logic.proofs.Bools.{and-true, is_false}
use Rattle.expression_grammar.specs.Grammar.{Number, single, double, Text, BadAt}
use Rattle.expression_grammar.specs.Occurrences.{NumberRun, Misuse, Misused}
use Rattle.expression_grammar.specs.Reader.{Scan, reads, stops, read}
use Rattle.expression_grammar.specs.Numbers.{misuse}
use Rattle.record_rules.specs.Outcome.{Outcome, refused, accepted}
use Rattle.expression_grammar.specs.TextRules.{expression_limit, open_limit, numbered, decided, read_text}
use Rattle.expression_grammar.proofs.Decides.{read_accepts, read_refuses}
use Rattle.expression_grammar.proofs.Goals.{misuse-none}
use Rattle.expression_grammar.proofs.Runs.{number-run}
use Rattle.expression_grammar.proofs.Misuses.{misuse_is}

-- 1 to 512 bytes
abbrev Sized : List ℕ → Type 0
Sized t = (1 ≤ length t) × (length t ≤ expression_limit)

-- rulings are told apart
abbrev Answer : Outcome Expr → Type 0
Answer (refused k p) = ⊥
Answer (accepted e) = Unit {0}

abbrev Numbered : ℕ → Outcome Expr → Type 0
Numbered m (refused k p) = k ≡ m
Numbered m (accepted e) = ⊥

-- what a reading of a text of 1 to 512 bytes comes to
pub sized : (n : ℕ) (t : List ℕ) → 1 ≤ length t → length t ≤ expression_limit → read_text n t ≡ decided n t (read open_limit t)
unfolding read_text
sized n t lo hi = rw (le-leb 1 (length t) lo, le-leb (length t) expression_limit hi)

-- a reading that is no refusal 15
by_size : (n : ℕ) (t : List ℕ) (P : Outcome Expr → Type 0) → (P (refused 15 0) → ⊥) → P (read_text n t) → Sized t × P (decided n t (read open_limit t))
unfolding read_text
by_size n t P out h = go (leb 1 (length t) && leb (length t) expression_limit) refl h
  where
    go : (b : Bool) → (leb 1 (length t) && leb (length t) expression_limit) ≡ b → P (cond b (decided n t (read open_limit t)) (refused 15 0)) → Sized t × P (decided n t (read open_limit t))
    go true e h = let p = and-true (leb 1 (length t)) (leb (length t) expression_limit) e in ((leb-true 1 (length t) p.0, leb-true (length t) expression_limit p.1), h)
    go false e h = absurd (out h)

-- ---- the expression
pub read_answer : (n : ℕ) (t : List ℕ) (e : Expr) → (read_text n t ≡ accepted e) ↔ ((1 ≤ length t) × (length t ≤ expression_limit) × Text open_limit t e × UsesOnce n e)
read_answer n t e = (
  λ h. let r = by_size n t (λ z. z ≡ accepted e) (λ q. subst Answer (sym q) tt) h in let s = to (read open_limit t) refl r.1 in (r.0.0, r.0.1, s.0, s.1),
  λ a. sized n t a.0 a.1 ∙ ap (λ r. decided n t r) ((read_accepts open_limit t e).1 a.2) ∙ ap (λ o. numbered e o) ((misuse-none open_limit n t e a.2).1 a.3),
)
  where
    same : (x : Expr) (o : Option ℕ) → numbered x o ≡ accepted e → (o ≡ none) × (x ≡ e)
    same x none h = (refl, cc)
    same x (some p) h = absurd (subst Answer (sym h) tt)

    to : (r : Scan) → read open_limit t ≡ r → decided n t r ≡ accepted e → Text open_limit t e × UsesOnce n e
    to (stops k) q h = absurd (subst Answer (sym h) tt)
    to (reads x) q h =
        let s = same x (misuse n t x) h in
        let j = (read_accepts open_limit t x).0 q in
        (subst (λ z. Text open_limit t z) s.1 j, subst (λ z. UsesOnce n z) s.1 ((misuse-none open_limit n t x j).0 s.0))

-- ---- refusal 16
pub read_16 : (n : ℕ) (t : List ℕ) (k : ℕ) → (read_text n t ≡ refused 16 k) ↔ ((1 ≤ length t) × (length t ≤ expression_limit) × BadAt open_limit t k)
read_16 n t k = (
  λ h. let r = by_size n t (λ z. z ≡ refused 16 k) (λ q. other 15 (subst (Numbered 15) q refl) (inl (omega arith))) h in (r.0.0, r.0.1, to (read open_limit t) refl r.1),
  λ a. sized n t a.0 a.1 ∙ ap (λ r. decided n t r) ((read_refuses open_limit t k).1 a.2),
)
  where
    other : (m : ℕ) → 16 ≡ m → (m < 16) ⊎ (16 < m) → ⊥
    other m e (inl l) = omega arith
    other m e (inr l) = omega arith

    none_16 : (e : Expr) (o : Option ℕ) → numbered e o ≡ refused 16 k → ⊥
    none_16 e none h = subst Answer h tt
    none_16 e (some p) h = other 17 (subst (Numbered 17) h refl) (inr (omega arith))

    to : (r : Scan) → read open_limit t ≡ r → decided n t r ≡ refused 16 k → BadAt open_limit t k
    to (stops p) e h = let q : p ≡ k = cc in subst (λ z. BadAt open_limit t z) q ((read_refuses open_limit t p).0 e)
    to (reads x) e h = absurd (none_16 x (misuse n t x) h)

-- ---- refusal 15
pub unsized : (n : ℕ) (t : List ℕ) → (1 ≤ length t → length t ≤ expression_limit → ⊥) → read_text n t ≡ refused 15 0
unfolding read_text
unsized n t h =
    let f : (leb 1 (length t) && leb (length t) expression_limit) ≡ false =
    is_false (leb 1 (length t) && leb (length t) expression_limit) (λ a. let b = and-true (leb 1 (length t)) (leb (length t) expression_limit) a in h (leb-true 1 (length t) b.0) (leb-true (length t) expression_limit b.1)) in
    rw f

-- ---- refusal 17
pub read_17 : (n : ℕ) (t : List ℕ) (p : ℕ) → (read_text n t ≡ refused 17 p) ↔ ((1 ≤ length t) × (length t ≤ expression_limit) × Misused n t p)
read_17 n t p = (
  λ h. let r = by_size n t (λ z. z ≡ refused 17 p) (λ q. let z : ◌≡◌ {A = ℕ} 15 17 = cc in omega arith) h in (r.0.0, r.0.1, read_so (read open_limit t) refl r.1),
  λ (lo, hi, (e, j, m)). sized n t lo hi ∙ ap (decided n t) ((read_accepts open_limit t e).1 j) ∙ ap (numbered e) ((misuse_is n j p).1 m),
)
  where
    used_so : (e : Expr) → Text open_limit t e → (o : Option ℕ) → misuse n t e ≡ o → numbered e o ≡ refused 17 p → Misused n t p
    used_so e j none q h = absurd (subst Answer h tt)
    used_so e j (some k) q h = let same : k ≡ p = cc in (e, j, (misuse_is n j p).0 (q ∙ ap some same))

    read_so : (r : Scan) → read open_limit t ≡ r → decided n t r ≡ refused 17 p → Misused n t p
    read_so (stops k) q h = let z : ◌≡◌ {A = ℕ} 16 17 = cc in absurd (omega arith)
    read_so (reads e) q h = used_so e ((read_accepts open_limit t e).0 q) (misuse n t e) refl h

-- ---- places
digits_some : {t : List ℕ} {n : ℕ} → Number t n → 1 ≤ length t
digits_some (single v lo hi) = omega arith
digits_some (double v w lo hi hw) = omega arith

run_inside : {t : List ℕ} {p v : ℕ} → NumberRun t p v → p < length t
run_inside r = omega (arith, r.place, ap length r.split, length-append r.left (r.digits ++ r.right), length-append r.digits r.right, digits_some r.number)

misused_inside : (n : ℕ) {t : List ℕ} {e : Expr} (j : Text open_limit t e) (p : ℕ) → Misuse n j p → p ≤ length t
misused_inside n j p (inl f) = let (v, i, why) = f.wrong in omega (arith, run_inside ((number-run j p v).0 i))
misused_inside n j p (inr m) = omega (arith, m.place)

pub read-place : (n : ℕ) (t : List ℕ) (k p : ℕ) → read_text n t ≡ refused k p → (p ≤ length t) × (p ≤ expression_limit)
unfolding read_text
read-place n t k p h = sizes (leb 1 (length t) && leb (length t) expression_limit) refl h
  where
    used : (x : Expr) (j : Text open_limit t x) (o : Option ℕ) → misuse n t x ≡ o → numbered x o ≡ refused k p → p ≤ length t
    used x j none m e = absurd (subst Answer e tt)
    used x j (some q) m e =
        let same : q ≡ p = cc in
        omega (arith, same, misused_inside n j q ((misuse_is n j q).0 m))

    within : (r : Scan) → read open_limit t ≡ r → decided n t r ≡ refused k p → p ≤ length t
    within (stops q) r e =
        let same : q ≡ p = cc in
        ⊎_elim (λ s. omega (arith, same, s.0)) (λ s. omega (arith, same, s.0)) ((read_refuses open_limit t q).0 r).stops
    within (reads x) r e = used x ((read_accepts open_limit t x).0 r) (misuse n t x) refl e

    sizes : (b : Bool) → (leb 1 (length t) && leb (length t) expression_limit) ≡ b → cond b (decided n t (read open_limit t)) (refused 15 0) ≡ refused k p → (p ≤ length t) × (p ≤ expression_limit)
    sizes true q e =
        let l = within (read open_limit t) refl e in
        (l, omega (arith, l, leb-true (length t) expression_limit (and-true (leb 1 (length t)) (leb (length t) expression_limit) q).1))
    sizes false q e = let none_read : 0 ≡ p = cc in (omega arith, omega arith)
