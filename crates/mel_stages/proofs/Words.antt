-- What the words of specs/Mel.antt mean.
use mathlib.Core.Path.{◌≡◌, sym, ap, ap₂, ◌∙◌}
use mathlib.Core.Logic.{inl, inr, ⊎_elim}
use mathlib.Core.Bool.{Bool, true, not, ◌&&◌, ◌||◌, false≢true}
use mathlib.Core.List.{List}
use Prim.Native.Nat.{ℕ, zero, suc, ◌+◌, ◌≤◌, ◌<◌}
use native.Mathlib.Nat.{eq-or-lt_of_le, le_of_suc-le-suc, le_step, le_refl}
use native.Mathlib.Omega.{arith}
use lib.Dec.{ltb, eqb}
use borrow.Author.Tests.{lt-ltb, ltb-true, ne_eqb, eqb-false}
use Rattle.logic.proofs.Bools.{and_l, and_r, and_i, or_elim, or_l, or_r, not-true, is_false, not-false, nor, nor_i, clash}
use Rattle.sets.specs.Sets.{has}
use Rattle.mel_stages.specs.Plain.{Twice, Across, Met, Grounded, Separate}
use Rattle.mel_stages.specs.Mel.{Facts, goal, some_goal, occurs, shared, across, met, ground_check, indep_check}

-- ---- one of the goals p+1 to q

pub record Some (p q : ℕ) (f : ℕ → Bool) : Type 0 where
  pub g : ℕ
  pub above : p < g
  pub upto : g ≤ q
  pub so : f g ≡ true

pub some_out : (p q : ℕ) (f : ℕ → Bool) → some_goal p q f ≡ true → Some p q f
unfolding some_goal
some_out p zero f h = absurd (false≢true h)
some_out p (suc q) f h =
    or_elim (some_goal p q f) (ltb p (suc q) && f (suc q)) h
    (λ e. let r = some_out p q f e in record { g = r.g; above = r.above; upto = le_step r.upto; so = r.so })
    (λ e. record { g = suc q; above = ltb-true p (suc q) (and_l (ltb p (suc q)) (f (suc q)) e); upto = le_refl (suc q); so = and_r (ltb p (suc q)) (f (suc q)) e })

pub some_in : (p q : ℕ) (f : ℕ → Bool) (g : ℕ) → p < g → g ≤ q → f g ≡ true → some_goal p q f ≡ true
unfolding some_goal
some_in p zero f g a u e = absurd (omega arith)
some_in p (suc q) f g a u e =
    ⊎_elim
    (λ s. or_r (some_goal p q f) (ltb p (suc q) && f (suc q)) (and_i (ltb p (suc q)) (f (suc q)) (lt-ltb p (suc q) (omega arith)) (ap f (sym s) ∙ e)))
    (λ k. or_l (some_goal p q f) (ltb p (suc q) && f (suc q)) (some_in p q f g a (le_of_suc-le-suc k) e))
    (eq-or-lt_of_le u)

-- ---- the words as statements

module _ (sets : List ℕ) (p q : ℕ) where
  pub occurs_out : (x : ℕ) → occurs sets p q x ≡ true → Some p q (λ g. has (goal sets g) x)
  unfolding occurs
  occurs_out x h = some_out p q (λ g. has (goal sets g) x) h

  pub occurs_in : (x g : ℕ) → p < g → g ≤ q → has (goal sets g) x ≡ true → occurs sets p q x ≡ true
  unfolding occurs
  occurs_in x g a u e = some_in p q (λ g. has (goal sets g) x) g a u e

  pub shared_out : (x : ℕ) → shared sets p q x ≡ true → Twice sets p q x
  unfolding shared
  shared_out x h =
      let a = some_out p q (λ s. some_goal p q (λ t. ltb s t && (has (goal sets s) x && has (goal sets t) x))) h in
      let b = some_out p q (λ t. ltb a.g t && (has (goal sets a.g) x && has (goal sets t) x)) a.so in
      let both = and_r (ltb a.g b.g) (has (goal sets a.g) x && has (goal sets b.g) x) b.so in
      record {
        s = a.g;
        t = b.g;
        above = a.above;
        upto = b.upto;
        order = ltb-true a.g b.g (and_l (ltb a.g b.g) (has (goal sets a.g) x && has (goal sets b.g) x) b.so);
        in_s = and_l (has (goal sets a.g) x) (has (goal sets b.g) x) both;
        in_t = and_r (has (goal sets a.g) x) (has (goal sets b.g) x) both;
      }

  pub shared_in : (x : ℕ) → Twice sets p q x → shared sets p q x ≡ true
  unfolding shared
  shared_in x w =
      some_in p q (λ s. some_goal p q (λ t. ltb s t && (has (goal sets s) x && has (goal sets t) x))) w.s w.above (omega (arith, w.order, w.upto))
      (some_in p q (λ t. ltb w.s t && (has (goal sets w.s) x && has (goal sets t) x)) w.t (omega (arith, w.order, w.above)) w.upto
      (and_i (ltb w.s w.t) (has (goal sets w.s) x && has (goal sets w.t) x) (lt-ltb w.s w.t w.order)
      (and_i (has (goal sets w.s) x) (has (goal sets w.t) x) w.in_s w.in_t)))

  pub across_out : (x y : ℕ) → across sets p q x y ≡ true → Across sets p q x y
  unfolding across
  across_out x y h =
      let a = some_out p q (λ s. some_goal p q (λ t. not (eqb s t) && (has (goal sets s) x && has (goal sets t) y))) h in
      let b = some_out p q (λ t. not (eqb a.g t) && (has (goal sets a.g) x && has (goal sets t) y)) a.so in
      let both = and_r (not (eqb a.g b.g)) (has (goal sets a.g) x && has (goal sets b.g) y) b.so in
      record {
        s = a.g;
        t = b.g;
        above_s = a.above;
        upto_s = a.upto;
        above_t = b.above;
        upto_t = b.upto;
        differ = eqb-false a.g b.g (not-true (eqb a.g b.g) (and_l (not (eqb a.g b.g)) (has (goal sets a.g) x && has (goal sets b.g) y) b.so));
        in_s = and_l (has (goal sets a.g) x) (has (goal sets b.g) y) both;
        in_t = and_r (has (goal sets a.g) x) (has (goal sets b.g) y) both;
      }

  pub across_in : (x y : ℕ) → Across sets p q x y → across sets p q x y ≡ true
  unfolding across
  across_in x y w =
      some_in p q (λ s. some_goal p q (λ t. not (eqb s t) && (has (goal sets s) x && has (goal sets t) y))) w.s w.above_s w.upto_s
      (some_in p q (λ t. not (eqb w.s t) && (has (goal sets w.s) x && has (goal sets t) y)) w.t w.above_t w.upto_t
      (and_i (not (eqb w.s w.t)) (has (goal sets w.s) x && has (goal sets w.t) y) (ap not (ne_eqb w.s w.t w.differ))
      (and_i (has (goal sets w.s) x) (has (goal sets w.t) y) w.in_s w.in_t)))

-- ---- in the head, or in goals 1 to p

module _ (head : ℕ) (sets : List ℕ) (p x : ℕ) where
  pub met_out : met head sets p x ≡ true → Met head sets p x
  unfolding met
  met_out h =
      or_elim (has head x) (occurs sets 0 p x) h (λ e. inl e)
      (λ e. let s = occurs_out sets 0 p x e in inr (record { g = s.g; above = s.above; upto = s.upto; here = s.so }))

  pub met_in : Met head sets p x → met head sets p x ≡ true
  unfolding met
  met_in (inl e) = or_l (has head x) (occurs sets 0 p x) e
  met_in (inr e) = or_r (has head x) (occurs sets 0 p x) (occurs_in sets 0 p x e.g e.above e.upto e.here)

-- ---- the checks in plain words

module _ (c : Facts) (p q : ℕ) where
  pub ground_out : (x : ℕ) → ground_check c p q x ≡ true → Grounded c p q x
  unfolding ground_check
  ground_out x h =
      record {
        twice = shared_out c.sets p q x (and_l (shared c.sets p q x) (not (has (c.grounded (p + 1)) x)) h);
        unknown = not-true (has (c.grounded (p + 1)) x) (and_r (shared c.sets p q x) (not (has (c.grounded (p + 1)) x)) h);
      }

  pub ground_in : (x : ℕ) → Grounded c p q x → ground_check c p q x ≡ true
  unfolding ground_check
  ground_in x w = and_i (shared c.sets p q x) (not (has (c.grounded (p + 1)) x)) (shared_in c.sets p q x w.twice) (ap not w.unknown)

  pub indep_out : (x y : ℕ) → indep_check c p q x y ≡ true → Separate c p q x y
  unfolding indep_check
  indep_out x y h =
      let S = shared c.sets p q in
      let M = met c.head c.sets p in
      let one = and_l (ltb x y && across c.sets p q x y && not (S x || S y)) (not (c.known (p + 1) x y || not (M x) || not (M y))) h in
      let two = and_r (ltb x y && across c.sets p q x y && not (S x || S y)) (not (c.known (p + 1) x y || not (M x) || not (M y))) h in
      let both = and_l (ltb x y && across c.sets p q x y) (not (S x || S y)) one in
      let once = nor (S x) (S y) (and_r (ltb x y && across c.sets p q x y) (not (S x || S y)) one) in
      let kept = nor (c.known (p + 1) x y || not (M x)) (not (M y)) two in
      let kept-x = nor (c.known (p + 1) x y) (not (M x)) (ap not kept.0) in
      record {
        lower = ltb-true x y (and_l (ltb x y) (across c.sets p q x y) both);
        across = across_out c.sets p q x y (and_r (ltb x y) (across c.sets p q x y) both);
        x_once = λ t. clash (shared_in c.sets p q x t) once.0;
        y_once = λ t. clash (shared_in c.sets p q y t) once.1;
        unknown = kept-x.0;
        x_met = met_out c.head c.sets p x (not-false (M x) kept-x.1);
        y_met = met_out c.head c.sets p y (not-false (M y) kept.1);
      }

  pub indep_in : (x y : ℕ) → Separate c p q x y → indep_check c p q x y ≡ true
  unfolding indep_check
  indep_in x y w =
      let S = shared c.sets p q in
      let M = met c.head c.sets p in
      and_i (ltb x y && across c.sets p q x y && not (S x || S y)) (not (c.known (p + 1) x y || not (M x) || not (M y)))
      (and_i (ltb x y && across c.sets p q x y) (not (S x || S y))
      (and_i (ltb x y) (across c.sets p q x y) (lt-ltb x y w.lower) (across_in c.sets p q x y w.across))
      (nor_i (S x) (S y) (is_false (S x) (λ e. w.x_once (shared_out c.sets p q x e))) (is_false (S y) (λ e. w.y_once (shared_out c.sets p q y e)))))
      (nor_i (c.known (p + 1) x y || not (M x)) (not (M y)) (ap₂ ◌||◌ w.unknown (ap not (met_in c.head c.sets p x w.x_met))) (ap not (met_in c.head c.sets p y w.y_met)))
