-- `Fits`, by which the theorems are proved, is what `times` and `before` say: no number stands twice, and the induced order is R.
use mathlib.Core.Path.{◌≡◌, refl, sym, ap₂, ◌∙◌, subst}
use mathlib.Core.Bool.{Bool, true, false, ◌&&◌, ◌||◌, cond, false≢true, or-false, and-false, and-true}
use mathlib.Core.Logic.{◌⊎◌, inl, inr, ⊎_elim}
use Prim.Native.Nat.{ℕ, ◌+◌, ◌≤◌}
use native.Mathlib.Omega.{arith}
use native.Mathlib.Decide.{dec_le}
use lib.Dec.{eqb}
use borrow.Author.Tests.{eqb-true, eq-eqb, leb-true, le-leb}
use Rattle.expression.specs.Expr.{Expr, goal, join, Members, one, more, times, times_m, stands, stands_m, before, before_m}
use Rattle.expression.proofs.Fits.{In, InM, Cross, Fits, FitsM}
use Rattle.logic.proofs.Bools.{test, is_false, cond_le, or-true as or_cases, and-true as and_both}

-- ---- to stand in e is to stand there once or more
mutual
  pub in_times : (e : Expr) (i : ℕ) → In i e → 1 ≤ times e i
  in_times (goal g) i p = subst (λ b. 1 ≤ cond b 1 0) (sym (eq-eqb i g p)) (omega arith)
  in_times (join k e ms) i (inl p) = omega (arith, in_times e i p)
  in_times (join k e ms) i (inr p) = omega (arith, in_times_m ms i p)

  pub in_times_m : (ms : Members) (i : ℕ) → InM i ms → 1 ≤ times_m ms i
  in_times_m (one e) i p = in_times e i p
  in_times_m (more e ms) i (inl p) = omega (arith, in_times e i p)
  in_times_m (more e ms) i (inr p) = omega (arith, in_times_m ms i p)

-- a sum that is positive has a positive part
part : (a b : ℕ) → 1 ≤ a + b → (1 ≤ a) ⊎ (1 ≤ b)
part a b h = go (dec_le 1 a)
  where
    go : Dec (1 ≤ a) → (1 ≤ a) ⊎ (1 ≤ b)
    go (yes p) = inl p
    go (no p) = inr (omega arith)

mutual
  pub times_in : (e : Expr) (i : ℕ) → 1 ≤ times e i → In i e
  times_in (goal g) i h = ⊎_elim (λ t. eqb-true i g t) (λ t. absurd (omega (arith, subst (λ b. 1 ≤ cond b 1 0) t h))) (test (eqb i g))
  times_in (join k e ms) i h = ⊎_elim (λ t. inl (times_in e i t)) (λ t. inr (times_m_in ms i t)) (part (times e i) (times_m ms i) h)

  pub times_m_in : (ms : Members) (i : ℕ) → 1 ≤ times_m ms i → InM i ms
  times_m_in (one e) i h = times_in e i h
  times_m_in (more e ms) i h = ⊎_elim (λ t. inl (times_in e i t)) (λ t. inr (times_m_in ms i t)) (part (times e i) (times_m ms i) h)

pub stands_in : (e : Expr) (i : ℕ) → stands e i ≡ true → In i e
stands_in e i h = times_in e i (leb-true 1 (times e i) h)

pub in_stands : (e : Expr) (i : ℕ) → In i e → stands e i ≡ true
in_stands e i p = le-leb 1 (times e i) (in_times e i p)

in_stands_m : (ms : Members) (i : ℕ) → InM i ms → stands_m ms i ≡ true
in_stands_m ms i p = le-leb 1 (times_m ms i) (in_times_m ms i p)

out_stands : (e : Expr) (i : ℕ) → (In i e → ⊥) → stands e i ≡ false
out_stands e i n = is_false (stands e i) (λ t. n (stands_in e i t))

out_stands_m : (ms : Members) (i : ℕ) → (InM i ms → ⊥) → stands_m ms i ≡ false
out_stands_m ms i n = is_false (stands_m ms i) (λ t. n (times_m_in ms i (leb-true 1 (times_m ms i) t)))

-- ---- only goals of e are in order
before-parts : (k : Bool) (e : Expr) (ms : Members) (i j : ℕ) → (before e i j ≡ true → In i e × In j e)
    → (before_m k ms i j ≡ true → InM i ms × InM j ms) → before (join k e ms) i j ≡ true → In i (join k e ms) × In j (join k e ms)
before-parts k e ms i j f g h =
    ⊎_elim
    (λ t. ⊎_elim (λ u. let x = f u in (inl x.0, inl x.1)) (λ u. let x = g u in (inr x.0, inr x.1)) (or_cases (before e i j) (before_m k ms i j) t))
    (λ t.
    let u = and_both (k && stands e i) (stands_m ms j) t in
    (inl (stands_in e i (and_both k (stands e i) u.0).1), inr (times_m_in ms j (leb-true 1 (times_m ms j) u.1))))
    (or_cases (before e i j || before_m k ms i j) (k && stands e i && stands_m ms j) h)

mutual
  pub before_in : (e : Expr) (i j : ℕ) → before e i j ≡ true → In i e × In j e
  before_in (goal g) i j h = absurd (false≢true h)
  before_in (join k e ms) i j h = before-parts k e ms i j (λ t. before_in e i j t) (λ t. before_m_in k ms i j t) h

  before_m_in : (k : Bool) (ms : Members) (i j : ℕ) → before_m k ms i j ≡ true → InM i ms × InM j ms
  before_m_in k (one e) i j h = before_in e i j h
  before_m_in k (more e ms) i j h = before-parts k e ms i j (λ t. before_in e i j t) (λ t. before_m_in k ms i j t) h

unless : {A : Type 0} (b : Bool) → (b ≡ true → A) → (A → ⊥) → b ≡ false
unless b f n = is_false b (λ t. n (f t))

-- ---- the order of a join, part by part
module _ (k : Bool) (e : Expr) (ms : Members) (d : (i : ℕ) → In i e → InM i ms → ⊥) (i j : ℕ) where
  join_left : In i e → In j e → before (join k e ms) i j ≡ before e i j
  join_left p q =
      let a : before_m k ms i j ≡ false = unless (before_m k ms i j) (before_m_in k ms i j) (λ t. d i p t.0) in
      let b : stands_m ms j ≡ false = out_stands_m ms j (d j q) in
      simp (a, b, or-false, and-false)

  join_right : InM i ms → InM j ms → before (join k e ms) i j ≡ before_m k ms i j
  join_right p q =
      let a : before e i j ≡ false = unless (before e i j) (before_in e i j) (λ t. d i t.0 p) in
      let b : stands e i ≡ false = out_stands e i (λ t. d i t p) in
      simp (a, b, or-false, and-false)

  join_forth : In i e → InM j ms → before (join k e ms) i j ≡ k
  join_forth p q =
      let a : before e i j ≡ false = unless (before e i j) (before_in e i j) (λ t. d j t.1 q) in
      let b : before_m k ms i j ≡ false = unless (before_m k ms i j) (before_m_in k ms i j) (λ t. d i p t.0) in
      let c : stands e i ≡ true = in_stands e i p in
      let c' : stands_m ms j ≡ true = in_stands_m ms j q in
      simp (a, b, c, c', and-true)

  join_back : InM i ms → In j e → before (join k e ms) i j ≡ false
  join_back p q =
      let a : before e i j ≡ false = unless (before e i j) (before_in e i j) (λ t. d i t.0 p) in
      let b : before_m k ms i j ≡ false = unless (before_m k ms i j) (before_m_in k ms i j) (λ t. d j q t.1) in
      let c : stands e i ≡ false = out_stands e i (λ t. d i t p) in
      simp (a, b, c, and-false)

-- ---- no number stands twice in what fits
apart-once : (a b : ℕ) → a ≤ 1 → b ≤ 1 → (1 ≤ a → 1 ≤ b → ⊥) → a + b ≤ 1
apart-once a b ha hb n = go (dec_le 1 a) (dec_le 1 b)
  where
    go : Dec (1 ≤ a) → Dec (1 ≤ b) → a + b ≤ 1
    go (yes p) (yes q) = absurd (n p q)
    go (yes p) (no q) = omega arith
    go (no p) q = omega arith

module _ (R : ℕ → ℕ → Bool) where
  disjoint : (k : Bool) (e : Expr) (ms : Members) → Cross R k (λ i. In i e) (λ i. InM i ms) → (i : ℕ) → In i e → InM i ms → ⊥
  disjoint k e ms x i p q = (x i i p q).differ refl

  mutual
    pub fits-once : (e : Expr) → Fits R e → (i : ℕ) → times e i ≤ 1
    fits-once (goal g) f i = cond_le (eqb i g)
    fits-once (join k e ms) f i =
        apart-once (times e i) (times_m ms i) (fits-once e f.0 i) (fits_once_m k ms f.1 i)
        (λ p q. disjoint k e ms f.2 i (times_in e i p) (times_m_in ms i q))

    fits_once_m : (k : Bool) (ms : Members) → FitsM R k ms → (i : ℕ) → times_m ms i ≤ 1
    fits_once_m k (one e) f i = fits-once e f i
    fits_once_m k (more e ms) f i =
        apart-once (times e i) (times_m ms i) (fits-once e f.0 i) (fits_once_m k ms f.1 i)
        (λ p q. disjoint k e ms f.2 i (times_in e i p) (times_m_in ms i q))

  -- ---- what fits induces R
  parts-before : (k : Bool) (e : Expr) (ms : Members) → Cross R k (λ i. In i e) (λ i. InM i ms) → (i j : ℕ)
      → (In i e → In j e → before e i j ≡ R i j) → (InM i ms → InM j ms → before_m k ms i j ≡ R i j)
      → In i (join k e ms) → In j (join k e ms) → before (join k e ms) i j ≡ R i j
  parts-before k e ms x i j f g (inl p) (inl q) = join_left k e ms (disjoint k e ms x) i j p q ∙ f p q
  parts-before k e ms x i j f g (inl p) (inr q) = join_forth k e ms (disjoint k e ms x) i j p q ∙ sym (x i j p q).forth
  parts-before k e ms x i j f g (inr p) (inl q) = join_back k e ms (disjoint k e ms x) i j p q ∙ sym (x j i q p).back
  parts-before k e ms x i j f g (inr p) (inr q) = join_right k e ms (disjoint k e ms x) i j p q ∙ g p q

  mutual
    pub fits-before : (e : Expr) → Fits R e → (i j : ℕ) → In i e → In j e → before e i j ≡ R i j
    fits-before (goal g) f i j p q = sym (ap₂ R p q ∙ f)
    fits-before (join k e ms) f i j p q =
        parts-before k e ms f.2 i j (λ r s. fits-before e f.0 i j r s) (λ r s. fits_before_m k ms f.1 i j r s) p q

    fits_before_m : (k : Bool) (ms : Members) → FitsM R k ms → (i j : ℕ) → InM i ms → InM j ms → before_m k ms i j ≡ R i j
    fits_before_m k (one e) f i j p q = fits-before e f i j p q
    fits_before_m k (more e ms) f i j p q =
        parts-before k e ms f.2 i j (λ r s. fits-before e f.0 i j r s) (λ r s. fits_before_m k ms f.1 i j r s) p q

  -- ---- and the other way: what uses no number twice and induces R fits
  module _ (k : Bool) (e : Expr) (ms : Members) (u : (i : ℕ) → times e i + times_m ms i ≤ 1)
      (h : (i j : ℕ) → In i (join k e ms) → In j (join k e ms) → before (join k e ms) i j ≡ R i j) where
    once-disjoint : (i : ℕ) → In i e → InM i ms → ⊥
    once-disjoint i p q = omega (arith, u i, in_times e i p, in_times_m ms i q)

    before-left : (i j : ℕ) → In i e → In j e → before e i j ≡ R i j
    before-left i j p q = sym (join_left k e ms once-disjoint i j p q) ∙ h i j (inl p) (inl q)

    before_right : (i j : ℕ) → InM i ms → InM j ms → before_m k ms i j ≡ R i j
    before_right i j p q = sym (join_right k e ms once-disjoint i j p q) ∙ h i j (inr p) (inr q)

    before_cross : Cross R k (λ i. In i e) (λ i. InM i ms)
    before_cross i j p q =
        record {
          differ = λ t. once-disjoint i p (subst (λ x. InM x ms) (sym t) q);
          forth = sym (h i j (inl p) (inr q)) ∙ join_forth k e ms once-disjoint i j p q;
          back = sym (h j i (inr q) (inl p)) ∙ join_back k e ms once-disjoint j i q p;
        }

  mutual
    pub before-fits : (e : Expr) → ((i : ℕ) → times e i ≤ 1) → ((i j : ℕ) → In i e → In j e → before e i j ≡ R i j) → Fits R e
    before-fits (goal g) u h = sym (h g g refl refl)
    before-fits (join k e ms) u h = (
      before-fits e (λ i. omega (arith, u i)) (before-left k e ms u h),
      before_fits_m k ms (λ i. omega (arith, u i)) (before_right k e ms u h),
      before_cross k e ms u h,
    )

    before_fits_m : (k : Bool) (ms : Members) → ((i : ℕ) → times_m ms i ≤ 1) → ((i j : ℕ) → InM i ms → InM j ms → before_m k ms i j ≡ R i j) → FitsM R k ms
    before_fits_m k (one e) u h = before-fits e u h
    before_fits_m k (more e ms) u h = (
      before-fits e (λ i. omega (arith, u i)) (before-left k e ms u h),
      before_fits_m k ms (λ i. omega (arith, u i)) (before_right k e ms u h),
      before_cross k e ms u h,
    )
