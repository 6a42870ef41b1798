-- How many independence checks a stage has at most: of u candidates in k goals, (u * u - 2 * h * u + k * h * h) / 2, whatever h is.
use mathlib.Core.Path.{◌≡◌, refl, sym, ap, ◌∙◌}
use mathlib.Core.Logic.{dite}
use mathlib.Core.Bool.{Bool, true, false, not, ◌&&◌, cond, and-false}
use mathlib.Core.List.{List, ◌∷◌, map}
use Prim.Native.Nat.{ℕ, zero, suc, ◌+◌, ◌-◌, ◌*◌, ◌≤◌, ◌<◌}
use native.Mathlib.Decide.{dec_lt}
use native.Mathlib.Omega.{arith}
use lib.ListN.{length, get_or, length-append, length-map}
use borrow.Author.Tests.{ltb-false}
use Rattle.logic.proofs.Bools.{and_l, and_r, and_i, is_false, not-true, clash}
use Rattle.sets.specs.Sets.{has, meet, without, below, members_from, members}
use Rattle.sets.proofs.Membership.{has_meet, has-without, has-below}
use Rattle.sets.proofs.Members.{no_more}
use Rattle.mel_stages.specs.Mel.{Indep, goal}
use Rattle.mel_stages.specs.Masks.{goal_with, partners}
use Rattle.mel_stages.specs.Plain.{Twice}
use Rattle.mel_stages.proofs.Words.{Some}
use Rattle.mel_stages.proofs.Masks.{goal_with_in}
use Rattle.mel_checks.specs.CheckTexts.{pairs_of}
use Rattle.mel.proofs.Sizes.{size, size_in_lem, size_out, size_top, size_split}
use Rattle.mel.proofs.GoalSums.{sum_from, sum_most, sum_mono, sum_one, distance, distance_zero, distance_suc}

module _ (w : ℕ) (sets listed : List ℕ) (p q k : ℕ) where
  abbrev others : ℕ → ℕ
  others x = partners sets p q k (get_or listed x 0) x

  -- a partner of x is above x, another candidate, and not in x's goal
  pub others_out : (x y : ℕ) → has (others x) y ≡ true → (x < y) × (has k y ≡ true) × (has (goal_with sets p q x) y ≡ false)
  unfolding partners
  others_out x y e =
      let row = get_or listed x 0 in
      let own = goal_with sets p q x in
      let a = has (without (without k row) own) y in
      let b = not (has (below (x + 1)) y) in
      let e0 : a && b ≡ true = sym (has-without (without (without k row) own) (below (x + 1)) y) ∙ e in
      let e1 : has (without k row) y && not (has own y) ≡ true = sym (has-without (without k row) own y) ∙ and_l a b e0 in
      let e2 : has k y && not (has row y) ≡ true = sym (has-without k row y) ∙ and_l (has (without k row) y) (not (has own y)) e1 in (
        omega (arith, ltb-false y (x + 1) (sym (has-below (x + 1) y) ∙ not-true (has (below (x + 1)) y) (and_r a b e0))),
        and_l (has k y) (not (has row y)) e2,
        not-true (has own y) (and_r (has (without k row) y) (not (has own y)) e1),
      )

  -- so all of them are among the variables above x
  others-size : (n x : ℕ) → x + suc n ≡ w → length (members w (others x)) ≤ size n (suc x) (others x)
  others-size n x e =
      size_top w 0 n (suc x) (others x) (omega arith) (omega arith) (λ y l. is_false (has (others x) y) (λ t. absurd (omega (arith, (others_out x y t).0))))

  -- the checks of the candidates among the n variables from i on
  unfoldable pub pairs : ℕ → ℕ → ℕ
  pairs n i = length (pairs_of w sets listed p q k (members_from n i k))

  -- the candidates among the n variables from i on that goal g has
  abbrev own : ℕ → ℕ → ℕ → ℕ
  own n i g = size n i (meet k (goal sets g))

  -- Each candidate is in one goal of the stage. If u g of the u candidates are in goal g, the pairs from two goals are half of u * u without the sum of the u g * u g.
  -- The square of u g's distance from h is u g * u g - 2 * h * u g + h * h, so the sum of these, `spread`, can stand in the place of the other sum.
  module _ (h : ℕ) (here : (x : ℕ) → has k x ≡ true → Some p q (λ g. has (goal sets g) x)) (alone : (x : ℕ) → has k x ≡ true → Twice sets p q x → ⊥) where
    spread : ℕ → ℕ → ℕ
    spread n i = sum_from (q - p) p (λ g. distance h (own n i g))

    -- a candidate's goal is the only one of the stage that has it
    not_other : (x g c : ℕ) → has k x ≡ true → p < g → g ≤ q → p < c → c ≤ q → has (goal sets c) x ≡ true → (g ≡ c → ⊥) → has (goal sets g) x ≡ false
    not_other x g c e lg ug lc uc t d =
        is_false (has (goal sets g) x) (λ s.
        dite (dec_lt g c)
        (λ l. alone x e (record { s = g; t = c; above = lg; order = l; upto = uc; in_s = s; in_t = t }))
        (λ n. alone x e (record { s = c; t = g; above = lc; order = omega arith; upto = ug; in_s = t; in_t = s })))

    -- one variable more: no candidate, or a candidate of goal c
    spread_out : (n i : ℕ) → has k i ≡ false → spread (suc n) i ≤ spread n (suc i)
    unfolding spread
    spread_out n i e =
        sum_mono (q - p) p (λ g. distance h (own (suc n) i g)) (λ g. distance h (own n (suc i) g)) (λ g a u.
        omega (arith, ap (distance h) (size_out n i (meet k (goal sets g)) (has_meet k (goal sets g) i ∙ ap (λ (b : Bool). b && has (goal sets g) i) e))))

    spread_in : (n i c : ℕ) → has k i ≡ true → p < c → c ≤ q → has (goal sets c) i ≡ true → spread (suc n) i + 2 * h ≤ spread n (suc i) + (2 * own n (suc i) c + 1)
    unfolding spread
    spread_in n i c e lc uc t =
        sum_one (q - p) p (λ g. distance h (own (suc n) i g)) (λ g. distance h (own n (suc i) g)) c (2 * h) (2 * own n (suc i) c + 1) lc (omega arith)
        (λ g a u d.
        omega (
          arith,
          ap (distance h) (size_out n i (meet k (goal sets g))
              (has_meet k (goal sets g) i ∙ ap (λ (b : Bool). has k i && b) (not_other i g c e a (omega arith) lc uc t d) ∙ and-false (has k i))),
        ))
        (omega (
          arith,
          ap (distance h) (size_in_lem n i (meet k (goal sets c)) (has_meet k (goal sets c) i ∙ and_i (has k i) (has (goal sets c) i) e t)),
          distance_suc h (own n (suc i) c),
        ))

    -- the partners of x are not in its goal
    others-own : (n x c : ℕ) → has k x ≡ true → p < c → c ≤ q → has (goal sets c) x ≡ true → x + suc n ≡ w → length (members w (others x)) + own n (suc x) c ≤ size n (suc x) k
    others-own n x c e lc uc t r =
        let rest = without k (goal sets c) in
        omega (
          arith,
          others-size n x r,
          size_split n (suc x) k (goal sets c),
          no_more n (suc x) (others x) rest (λ y s.
              let o = others_out x y s in
              let f = is_false (has (goal sets c) y) (λ m. clash (goal_with_in sets p q x y c lc uc t m (alone x e)) o.2) in
              has-without k (goal sets c) y ∙ and_i (has k y) (not (has (goal sets c) y)) o.1 (ap not f)),
        )

    pairs_spread : (n i : ℕ) → i + n ≡ w → 2 * pairs n i + spread n i + 2 * h * size n i k ≤ size n i k * size n i k + (q - p) * (h * h)
    unfolding pairs pairs_of members_from spread
    pairs_spread zero i r = omega (arith, sum_most (q - p) p (λ g. distance h 0) (h * h) (λ g. omega (arith, distance_zero h)))
    pairs_spread (suc n) i r = go (has k i) refl (pairs_spread n (suc i) (omega arith))
      where
        go : (b : Bool) → has k i ≡ b → 2 * pairs n (suc i) + spread n (suc i) + 2 * h * size n (suc i) k ≤ size n (suc i) k * size n (suc i) k + (q - p) * (h * h) →
            let l = cond b (i ∷ members_from n (suc i) k) (members_from n (suc i) k) in
            2 * length (pairs_of w sets listed p q k l) + spread (suc n) i + 2 * h * length l ≤ length l * length l + (q - p) * (h * h)
        go false e ih = omega (arith, ih, spread_out n i e)
        go true e ih =
            let s = here i e in
            omega (
              arith,
              ih,
              length-append (map (Indep i) (members w (others i))) (pairs_of w sets listed p q k (members_from n (suc i) k)),
              length-map (members w (others i)) (Indep i),
              others-own n i s.g e s.above s.upto s.so r,
              spread_in n i s.g e s.above s.upto s.so,
            )

    pub pairs_most : 2 * pairs w 0 + 2 * h * size w 0 k ≤ size w 0 k * size w 0 k + (q - p) * (h * h)
    pairs_most = omega (arith, pairs_spread w 0 (omega arith))
