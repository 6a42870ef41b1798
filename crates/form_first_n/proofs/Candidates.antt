-- The sets of candidates have the goals of every N, and only such.
use mathlib.Core.Path.{◌≡◌, refl, sym, ap, ap₂, ◌∙◌, subst}
use mathlib.Core.Bool.{Bool, true, false, not, ◌&&◌, ◌||◌, cond, true≢false, false≢true}
use mathlib.Core.List.{List}
use mathlib.Core.Logic.{dite}
use mathlib.Core.Option.{none, some}
use Prim.Native.Nat.{ℕ, zero, suc, ◌+◌, ◌^◌, ◌<◌, ◌≤◌}
use native.Mathlib.Decide.{dec_lt}
use native.Mathlib.Numerals.{add-one}
use native.Mathlib.Omega.{arith}
use lib.Dec.{eqb}
use lib.ListN.{get_or}
use lib.Pow.{pow_pos}
use borrow.Author.Tests.{ne_eqb}
use Rattle.logic.proofs.Bools.{is_false, and_l, and_r, and-true, or_l, or_r, not-true, or-false}
use Rattle.sets.specs.Sets.{has, union, meet, without, single}
use Rattle.sets.proofs.Membership.{has-union, has_meet, has-without, has-single, has_empty}
use Rattle.sets.proofs.Builder.{union_lt, meet_lt, without_lt}
use Rattle.graph.specs.Graph.{ahead, transposed, Within}
use Rattle.graph.proofs.Rows.{turned-has, row_lt}
use Rattle.expression.specs.Expr.{Goals, N}
use Rattle.expression.specs.Arrange.{Strict}
use Rattle.expression.specs.Search.{is_n}
use Rattle.expression.proofs.Search.{is_n_lem, n_is}
use Rattle.graph_transpose.specs.Related.{related}
use Rattle.form_first_n.specs.Candidates.{leading, seconds, fourths, thirds, lasts}
use Rattle.form_first_n.proofs.Loops.{at_d, at_c, at_b, at_a}
use Rattle.form_first_n.proofs.Scan.{Left, left_start, nowhere}

-- how the set of the candidates for c is found
module _ (rows prior : List ℕ) where
  pub thirds_some : (a b : ℕ) → (fourths rows prior a b ≡ 0 → ⊥) → meet (get_or rows a 0) (get_or rows b 0) ≡ thirds rows prior a b
  unfolding thirds
  thirds_some a b f = sym (ap (λ (t : Bool). cond t 0 (meet (get_or rows a 0) (get_or rows b 0))) (ne_eqb (fourths rows prior a b) 0 f))

-- the goals that are before some goal
pub leading-none : (prior : List ℕ) → 0 ≡ leading prior 0
unfolding leading
leading-none prior = refl

pub leading_more : (prior : List ℕ) (i : ℕ) → union (leading prior i) (get_or prior i 0) ≡ leading prior (i + 1)
unfolding leading
leading_more prior i = rw (add-one i)

pub leading-has : (prior : List ℕ) (n i j : ℕ) → j < n → has (get_or prior j 0) i ≡ true → has (leading prior n) i ≡ true
unfolding leading
leading-has prior zero i j l h = absurd (omega arith)
leading-has prior (suc n) i j l h =
    has-union (leading prior n) (get_or prior n 0) i
    ∙ dite (dec_lt j n) (λ k. or_l (has (leading prior n) i) (has (get_or prior n 0) i) (leading-has prior n i j k h))
    (λ k.
    let e : j ≡ n = omega arith in
    or_r (has (leading prior n) i) (has (get_or prior n 0) i) (ap (λ (z : ℕ). has (get_or prior z 0) i) (sym e) ∙ h))

pub leading_lt : (prior : List ℕ) (n w : ℕ) → ((i : ℕ) → get_or prior i 0 < 2 ^ w) → leading prior n < 2 ^ w
unfolding leading
leading_lt prior zero w h = pow_pos w
leading_lt prior (suc n) w h = union_lt w (leading prior n) (get_or prior n 0) (leading_lt prior n w h) (h n)

module _ (w : ℕ) (rows prior : List ℕ) (n : ℕ) (asked : (n ≤ w) × (prior ≡ transposed w n rows) × Strict (ahead rows) (Goals n) × Within w n rows)
    (lead : ℕ) (led : lead ≡ leading prior n) where
  most : n ≤ w
  most = asked.0

  turned : prior ≡ transposed w n rows
  turned = asked.1

  strict : Strict (ahead rows) (Goals n)
  strict = asked.2

  within : Within w n rows
  within = asked.3

  abbrev R : ℕ → ℕ → Bool
  R i j = ahead rows (suc i) (suc j)

  -- of two goals one alone is before the other
  one_way : (i j : ℕ) → i < n → j < n → R i j ≡ true → R j i ≡ false
  one_way i j li lj h =
      let gi : Goals n (suc i) = (omega arith, li) in
      let gj : Goals n (suc j) = (omega arith, lj) in
      is_false (R j i) (λ e. true≢false (sym (strict.chained (suc i) (suc j) (suc i) gi gj gi h e) ∙ strict.unlike (suc i) gi))

  prior-has : (i j : ℕ) → i < n → j < n → has (get_or prior i 0) j ≡ R j i
  prior-has i j li lj = turned-has w n rows prior i j most turned li lj

  related-has : (i j : ℕ) → i < n → j < n → has (related rows prior i) j ≡ R i j || R j i
  related-has i j li lj = has-union (get_or rows i 0) (get_or prior i 0) j ∙ ap (λ (t : Bool). R i j || t) (prior-has i j li lj)

  fourths-has : (a b d : ℕ) → a < n → d < n → has (fourths rows prior a b) d ≡ R b d && not (R a d || R d a)
  unfolding fourths
  fourths-has a b d la ld =
      has-without (get_or rows b 0) (related rows prior a) d ∙ ap (λ (t : Bool). R b d && not t) (related-has a d la ld)

  -- the candidates are goals
  lead_lt : lead < 2 ^ n
  unfolding transposed
  lead_lt =
      subst (λ (m : ℕ). m < 2 ^ n) (sym led)
      (leading_lt prior n n (λ i. subst (λ (l : List ℕ). get_or l i 0 < 2 ^ n) (sym turned) (row_lt w n (λ j k. ahead rows k j) i most)))

  seconds_lt : (a : ℕ) → seconds rows prior lead a < 2 ^ n
  unfolding seconds
  seconds_lt a = without_lt n (without lead (related rows prior a)) (single a) (without_lt n lead (related rows prior a) lead_lt)

  thirds_lt : (a b : ℕ) → thirds rows prior a b < 2 ^ n
  unfolding thirds
  thirds_lt a b = go (eqb (fourths rows prior a b) 0)
    where
      go : (t : Bool) → cond t 0 (meet (get_or rows a 0) (get_or rows b 0)) < 2 ^ n
      go true = pow_pos n
      go false =
          meet_lt n (get_or rows a 0) (get_or rows b 0) (subst (λ (l : List ℕ). get_or l a 0 < 2 ^ n) (sym within) (row_lt w n (ahead rows) a most))

  module _ (a b c d : ℕ) (la : a < n) (lb : b < n) (lc : c < n) (ld : d < n) where
    lasts-has : has (lasts rows prior a b c) d ≡ (R b d && not (R a d || R d a)) && not (R c d || R d c)
    unfolding lasts
    lasts-has =
        has-without (fourths rows prior a b) (related rows prior c) d
        ∙ ap₂ (λ (s t : Bool). s && not t) (fourths-has a b d la ld) (related-has c d lc ld)

    -- an N's goals are among the candidates
    n-first : N (ahead rows) (suc a) (suc b) (suc c) (suc d) → has lead a ≡ true
    n-first x = ap (λ (m : ℕ). has m a) led ∙ leading-has prior n a c lc (prior-has c a lc la ∙ x.ac)

    n_second : N (ahead rows) (suc a) (suc b) (suc c) (suc d) → has (seconds rows prior lead a) b ≡ true
    unfolding seconds
    n_second x =
        let leads : has lead b ≡ true = ap (λ (m : ℕ). has m b) led ∙ leading-has prior n b c lc (prior-has c b lc lb ∙ x.bc) in
        let apart : has (related rows prior a) b ≡ false = related-has a b la lb ∙ simp (x.ab, x.ba) in
        let unlike : has (single a) b ≡ false
        = has-single a b ∙ ne_eqb a b (λ e. true≢false (sym x.bd ∙ ap (λ (z : ℕ). R z d) (sym e) ∙ x.ad)) in
        has-without (without lead (related rows prior a)) (single a) b
        ∙ ap₂ (λ (s t : Bool). s && not t) (has-without lead (related rows prior a) b ∙ ap₂ (λ (s t : Bool). s && not t) leads apart) unlike

    n_third : N (ahead rows) (suc a) (suc b) (suc c) (suc d) → has (thirds rows prior a b) c ≡ true
    n_third x =
        let fourth : has (fourths rows prior a b) d ≡ true = fourths-has a b d la ld ∙ simp (x.bd, x.ad, x.da) in
        ap (λ (m : ℕ). has m c) (sym (thirds_some rows prior a b (λ e. true≢false (sym fourth ∙ ap (λ (m : ℕ). has m d) e ∙ has_empty d))))
        ∙ has_meet (get_or rows a 0) (get_or rows b 0) c ∙ ap₂ ◌&&◌ x.ac x.bc

    n-last : N (ahead rows) (suc a) (suc b) (suc c) (suc d) → has (lasts rows prior a b c) d ≡ true
    n-last x = lasts-has ∙ simp (x.bd, x.ad, x.da, x.cd, x.dc)

    -- and candidates make an N
    second_apart : has (seconds rows prior lead a) b ≡ true → (R a b ≡ false) × (R b a ≡ false)
    unfolding seconds
    second_apart h =
        let m = sym (has-without (without lead (related rows prior a)) (single a) b) ∙ h in
        let l = and_l (has (without lead (related rows prior a)) b) (not (has (single a) b)) m in
        let r = not-true (has (related rows prior a) b) (and_r (has lead b) (not (has (related rows prior a) b)) (sym (has-without lead (related rows prior a) b) ∙ l)) in
        or-false (R a b) (R b a) (sym (related-has a b la lb) ∙ r)

    third_after : has (thirds rows prior a b) c ≡ true → (R a c ≡ true) × (R b c ≡ true)
    unfolding thirds
    third_after h = go (eqb (fourths rows prior a b) 0) h
      where
        go : (t : Bool) → has (cond t 0 (meet (get_or rows a 0) (get_or rows b 0))) c ≡ true → (R a c ≡ true) × (R b c ≡ true)
        go true h = absurd (false≢true (sym (has_empty c) ∙ h))
        go false h = and-true (R a c) (R b c) (sym (has_meet (get_or rows a 0) (get_or rows b 0) c) ∙ h)

    make_n : has (seconds rows prior lead a) b ≡ true → has (thirds rows prior a b) c ≡ true → has (lasts rows prior a b c) d ≡ true
        → N (ahead rows) (suc a) (suc b) (suc c) (suc d)
    make_n f h g =
        let ab = second_apart f in
        let after = third_after h in
        let g₁ = and-true (R b d && not (R a d || R d a)) (not (R c d || R d c)) (sym lasts-has ∙ g) in
        let v = and-true (R b d) (not (R a d || R d a)) g₁.0 in
        let ad = or-false (R a d) (R d a) (not-true (R a d || R d a) v.1) in
        let cd = or-false (R c d) (R d c) (not-true (R c d || R d c) g₁.1) in
        record {
          ac = after.0;
          bc = after.1;
          bd = v.0;
          ab = ab.0;
          ba = ab.1;
          ad = ad.0;
          da = ad.1;
          cd = cd.0;
          dc = cd.1;
          ca = one_way a c la lc after.0;
          cb = one_way b c lb lc after.1;
          db = one_way b d lb ld v.0;
        }

    -- what the innermost loop finds where all four are candidates
    pub hit : has (seconds rows prior lead a) b ≡ true → has (thirds rows prior a b) c ≡ true → has (lasts rows prior a b c) d ≡ true
        → at_d (ahead rows) n (suc a) (suc b) (suc c) (suc d) ≡ some (record { a = a + 1; b = b + 1; c = c + 1; d = d + 1 })
    hit f h g =
        ap (λ (t : Bool). cond t (some (record { a = suc a; b = suc b; c = suc c; d = suc d })) none) (n_is (ahead rows) (make_n f h g))
        ∙ rw (add-one a, add-one b, add-one c, add-one d)

    -- nothing is found where a goal is no candidate
    past : (N (ahead rows) (suc a) (suc b) (suc c) (suc d) → ⊥) → at_d (ahead rows) n (suc a) (suc b) (suc c) (suc d) ≡ none
    past h =
        ap (λ (t : Bool). cond t (some (record { a = suc a; b = suc b; c = suc c; d = suc d })) none)
        (is_false (is_n (ahead rows) (suc a) (suc b) (suc c) (suc d)) (λ e. h (is_n_lem (ahead rows) e)))

    pub miss : has (lasts rows prior a b c) d ≡ false → at_d (ahead rows) n (suc a) (suc b) (suc c) (suc d) ≡ none
    miss h = past (λ x. true≢false (sym (n-last x) ∙ h))

    past_c : has (thirds rows prior a b) c ≡ false → at_d (ahead rows) n (suc a) (suc b) (suc c) (suc d) ≡ none
    past_c h = past (λ x. true≢false (sym (n_third x) ∙ h))

    past-b : has (seconds rows prior lead a) b ≡ false → at_d (ahead rows) n (suc a) (suc b) (suc c) (suc d) ≡ none
    past-b h = past (λ x. true≢false (sym (n_second x) ∙ h))

    past-a : has lead a ≡ false → at_d (ahead rows) n (suc a) (suc b) (suc c) (suc d) ≡ none
    past-a h = past (λ x. true≢false (sym (n-first x) ∙ h))

  -- what the loops over a, b and c begin with
  pub left-a : (set : ℕ) → set ≡ lead → Left w n (λ a. at_a (ahead rows) n a) lead set
  left-a set e =
      left_start w n (λ a. at_a (ahead rows) n a) most lead set lead_lt e
      (λ a la h.
      nowhere n (λ b. at_b (ahead rows) n (suc a) b)
      (λ b lb.
      nowhere n (λ c. at_c (ahead rows) n (suc a) (suc b) c)
      (λ c lc. nowhere n (λ d. at_d (ahead rows) n (suc a) (suc b) (suc c) d) (λ d ld. past-a a b c d la lb lc ld h))))

  pub left-b : (a set : ℕ) → a < n → set ≡ seconds rows prior lead a → Left w n (λ b. at_b (ahead rows) n (suc a) b) (seconds rows prior lead a) set
  left-b a set la e =
      left_start w n (λ b. at_b (ahead rows) n (suc a) b) most (seconds rows prior lead a) set (seconds_lt a) e
      (λ b lb h.
      nowhere n (λ c. at_c (ahead rows) n (suc a) (suc b) c)
      (λ c lc. nowhere n (λ d. at_d (ahead rows) n (suc a) (suc b) (suc c) d) (λ d ld. past-b a b c d la lb lc ld h)))

  pub left_c : (a b set : ℕ) → a < n → b < n → set ≡ thirds rows prior a b → Left w n (λ c. at_c (ahead rows) n (suc a) (suc b) c) (thirds rows prior a b) set
  left_c a b set la lb e =
      left_start w n (λ c. at_c (ahead rows) n (suc a) (suc b) c) most (thirds rows prior a b) set (thirds_lt a b) e
      (λ c lc h. nowhere n (λ d. at_d (ahead rows) n (suc a) (suc b) (suc c) d) (λ d ld. past_c a b c d la lb lc ld h))
