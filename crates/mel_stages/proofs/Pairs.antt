-- The checks of a stage by masks: the ground checks are a set, and the independence checks of a variable are a set.
use mathlib.Core.Path.{◌≡◌, refl, sym, ap, ap₂, ◌∙◌}
use mathlib.Core.Bool.{Bool, true, false, not, ◌&&◌, ◌||◌, cond}
use mathlib.Core.List.{List, [], ◌∷◌}
use Prim.Native.Nat.{ℕ, zero, suc, ◌+◌, ◌≤◌, ◌<◌}
use native.Mathlib.Decide.{dec_lt}
use native.Mathlib.Omega.{arith}
use lib.Dec.{ltb}
use borrow.Author.Tests.{le-ltb, ltb-false}
use Rattle.logic.proofs.Bools.{iff, and_l, and_r, and_i, not-true, not-i, not_out, or-false}
use Rattle.sets.specs.Sets.{has, union, meet, without, below, members_from, members}
use Rattle.sets.proofs.Membership.{has-union, has_meet, has-without, has-below}
use Rattle.mel_stages.specs.Mel.{Facts, goal, those_from, occurs, shared, met, ground_check, indep_check}
use Rattle.mel_stages.specs.Masks.{once, twice, goal_with, candidates, partners}
use Rattle.mel_stages.specs.Plain.{Twice}
use Rattle.mel_stages.proofs.Words.{Some, occurs_out, occurs_in, shared_out, shared_in, indep_out, indep_in, met_out, met_in}
use Rattle.mel_stages.proofs.Masks.{has-once, has-twice, goal_with_out, goal_with_in}

pub those-members : (k x m : ℕ) (f : ℕ → Bool) → ((i : ℕ) → f i ≡ has m i) → those_from k x f ≡ members_from k x m
unfolding those_from members_from
those-members zero x m f h = refl
those-members (suc k) x m f h = ap₂ (λ (b : Bool) (r : List ℕ). cond b (x ∷ r) r) (h x) (those-members k (suc x) m f h)

pub those-none : (k x : ℕ) (f : ℕ → Bool) → ((i : ℕ) → f i ≡ false) → those_from k x f ≡ []
unfolding those_from
those-none zero x f h = refl
those-none (suc k) x f h = rw (h x) (those-none k (suc x) f h)

-- the two goals of a variable that is in no two are one
one-goal : (sets : List ℕ) (p q x s t : ℕ) → (Twice sets p q x → ⊥) → p < s → s ≤ q → p < t → t ≤ q → has (goal sets s) x ≡ true → has (goal sets t) x ≡ true → s ≡ t
one-goal sets p q x s t not2 ls us lt ut es et = go (dec_lt s t) (dec_lt t s)
  where
    go : Dec (s < t) → Dec (t < s) → s ≡ t
    go (yes h) d = absurd (not2 (record { s = s; t = t; above = ls; order = h; upto = ut; in_s = es; in_t = et }))
    go (no h) (yes k) = absurd (not2 (record { s = t; t = s; above = lt; order = k; upto = us; in_s = et; in_t = es }))
    go (no h) (no k) = omega arith

module _ (c : Facts) (p q : ℕ) where
  abbrev grd : ℕ
  grd = c.grounded (p + 1)

  abbrev cand : ℕ
  cand = candidates (once c.sets p q) (twice c.sets p q) (union c.head (once c.sets 0 p)) (c.grounded (p + 1))

  pub grounds_mask : those_from c.width 0 (ground_check c p q) ≡ members c.width (without (twice c.sets p q) (c.grounded (p + 1)))
  unfolding ground_check
  grounds_mask =
      those-members c.width 0 (without (twice c.sets p q) grd) (ground_check c p q)
      (λ x. sym (has-without (twice c.sets p q) grd x ∙ ap (λ (t : Bool). t && not (has grd x)) (has-twice c.sets p q x)))

  has-cand : (x : ℕ) → has cand x ≡ occurs c.sets p q x && met c.head c.sets p x && not (shared c.sets p q x) && not (has grd x)
  unfolding candidates met
  has-cand x =
      has-without (without (meet (once c.sets p q) (union c.head (once c.sets 0 p))) (twice c.sets p q)) grd x
      ∙ ap (λ (t : Bool). t && not (has grd x))
      (has-without (meet (once c.sets p q) (union c.head (once c.sets 0 p))) (twice c.sets p q) x
      ∙ ap₂ (λ (s t : Bool). s && not t)
      (has_meet (once c.sets p q) (union c.head (once c.sets 0 p)) x
      ∙ ap₂ ◌&&◌ (has-once c.sets p q x) (has-union c.head (once c.sets 0 p) x ∙ ap (λ (t : Bool). has c.head x || t) (has-once c.sets 0 p x)))
      (has-twice c.sets p q x))

  -- x may stand in a check
  record Candidate (x : ℕ) : Type 0 where
    place : Some p q (λ g. has (goal c.sets g) x)
    x_met : met c.head c.sets p x ≡ true
    x_once : Twice c.sets p q x → ⊥
    free : has grd x ≡ false

  candidate_out : (x : ℕ) → has cand x ≡ true → Candidate x
  candidate_out x h =
      let O = occurs c.sets p q x in
      let M = met c.head c.sets p x in
      let S = shared c.sets p q x in
      let e : O && M && not S && not (has grd x) ≡ true = sym (has-cand x) ∙ h in
      let e1 = and_l (O && M && not S) (not (has grd x)) e in
      let e2 = and_l (O && M) (not S) e1 in
      record {
        place = occurs_out c.sets p q x (and_l O M e2);
        x_met = and_r O M e2;
        x_once = λ t. not_out S (and_r (O && M) (not S) e1) (shared_in c.sets p q x t);
        free = not-true (has grd x) (and_r (O && M && not S) (not (has grd x)) e);
      }

  candidate_in : (x s : ℕ) → p < s → s ≤ q → has (goal c.sets s) x ≡ true → met c.head c.sets p x ≡ true → (Twice c.sets p q x → ⊥) → has grd x ≡ false → has cand x ≡ true
  candidate_in x s a u e m o f =
      has-cand x
      ∙ and_i (occurs c.sets p q x && met c.head c.sets p x && not (shared c.sets p q x)) (not (has grd x))
      (and_i (occurs c.sets p q x && met c.head c.sets p x) (not (shared c.sets p q x))
      (and_i (occurs c.sets p q x) (met c.head c.sets p x) (occurs_in c.sets p q x s a u e) m)
      (not-i (shared c.sets p q x) (λ t. o (shared_out c.sets p q x t))))
      (ap not f)

  module _ (x row : ℕ) (kn : (y : ℕ) → c.known (p + 1) x y ≡ has row y || has (c.grounded (p + 1)) x || has (c.grounded (p + 1)) y) where
    abbrev others : ℕ
    others = partners c.sets p q cand row x

    has-others : (y : ℕ) → has others y ≡ has cand y && not (has row y) && not (has (goal_with c.sets p q x) y) && not (ltb y (x + 1))
    unfolding partners
    has-others y =
        has-without (without (without cand row) (goal_with c.sets p q x)) (below (x + 1)) y
        ∙ ap₂ (λ (s t : Bool). s && not t)
        (has-without (without cand row) (goal_with c.sets p q x) y ∙ ap (λ (t : Bool). t && not (has (goal_with c.sets p q x) y)) (has-without cand row y))
        (has-below (x + 1) y)

    there : (y : ℕ) → indep_check c p q x y ≡ true → has cand x && has others y ≡ true
    there y h =
        let w = indep_out c p q x y h in
        let a = w.across in
        let u = or-false (has row y || has grd x) (has grd y) (sym (kn y) ∙ w.unknown) in
        let v = or-false (has row y) (has grd x) u.0 in
        let kx : has cand x ≡ true = candidate_in x a.s a.above_s a.upto_s a.in_s (met_in c.head c.sets p x w.x_met) w.x_once v.1 in
        let ky : has cand y ≡ true = candidate_in y a.t a.above_t a.upto_t a.in_t (met_in c.head c.sets p y w.y_met) w.y_once u.1 in
        let H = has (goal_with c.sets p q x) y in
        let nh : not H ≡ true =
        not-i H (λ e.
        let g = goal_with_out c.sets p q x y e in
        let gx = and_l (has (goal c.sets g.g) x) (has (goal c.sets g.g) y) g.so in
        let gy = and_r (has (goal c.sets g.g) x) (has (goal c.sets g.g) y) g.so in
        a.differ
        (one-goal c.sets p q x a.s g.g w.x_once a.above_s a.upto_s g.above g.upto a.in_s gx
        ∙ one-goal c.sets p q y g.g a.t w.y_once g.above g.upto a.above_t a.upto_t gy a.in_t))
        in
        and_i (has cand x) (has others y) kx
        (has-others y
        ∙ and_i (has cand y && not (has row y) && not H) (not (ltb y (x + 1)))
        (and_i (has cand y && not (has row y)) (not H) (and_i (has cand y) (not (has row y)) ky (ap not v.0)) nh)
        (ap not (le-ltb y (x + 1) (omega (arith, w.lower)))))

    back : (y : ℕ) → has cand x && has others y ≡ true → indep_check c p q x y ≡ true
    back y h =
        let mx = candidate_out x (and_l (has cand x) (has others y) h) in
        let H = has (goal_with c.sets p q x) y in
        let e : has cand y && not (has row y) && not H && not (ltb y (x + 1)) ≡ true = sym (has-others y) ∙ and_r (has cand x) (has others y) h in
        let e1 = and_l (has cand y && not (has row y) && not H) (not (ltb y (x + 1))) e in
        let e2 = and_l (has cand y && not (has row y)) (not H) e1 in
        let my = candidate_out y (and_l (has cand y) (not (has row y)) e2) in
        indep_in c p q x y
        (record {
          lower = omega (arith, ltb-false y (x + 1) (not-true (ltb y (x + 1)) (and_r (has cand y && not (has row y) && not H) (not (ltb y (x + 1))) e)));
          across =
              record {
                s = mx.place.g;
                t = my.place.g;
                above_s = mx.place.above;
                upto_s = mx.place.upto;
                above_t = my.place.above;
                upto_t = my.place.upto;
                in_s = mx.place.so;
                in_t = my.place.so;
                differ = λ d. not_out H (and_r (has cand y && not (has row y)) (not H) e1)
                    (goal_with_in c.sets p q x y mx.place.g mx.place.above mx.place.upto mx.place.so (ap (λ (g : ℕ). has (goal c.sets g) y) d ∙ my.place.so) mx.x_once);
              };
          x_once = mx.x_once;
          y_once = my.x_once;
          x_met = met_out c.head c.sets p x mx.x_met;
          y_met = met_out c.head c.sets p y my.x_met;
          unknown = kn y ∙ ap₂ ◌||◌ (ap₂ ◌||◌ (not-true (has row y) (and_r (has cand y) (not (has row y)) e2)) mx.free) my.free;
        })

    pub indep_masks : (y : ℕ) → indep_check c p q x y ≡ has cand x && has others y
    indep_masks y = iff _ _ (there y) (back y)
