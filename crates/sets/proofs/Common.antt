-- How a loop over the members finds what is in the row of each member of a set, for any width.
use mathlib.Core.Path.{◌≡◌, refl, sym, ap, ap₂, ◌∙◌}
use mathlib.Core.Bool.{Bool, true, ◌&&◌, ◌||◌, false≢true, and-true, and_assoc}
use mathlib.Core.List.{List, [], ◌∷◌}
use Prim.Native.Nat.{ℕ, ◌^◌, ◌<◌}
use native.Mathlib.Omega.{arith}
use lib.ListN.{get_or}
use lib.Dec.{eqb}
use lib.Pow.{pow_pos}
use borrow.Author.Tests.{lt-ltb, eq-eqb, eqb-true}
use Rattle.logic.specs.Quantifiers.{every, implies}
use Rattle.logic.proofs.Bools.{iff, and_l, and_r, and_i, or_elim, or_l, or_r, implies_in, implies_out}
use Rattle.logic.proofs.Quantifiers.{every_in, every_out}
use Rattle.sets.specs.Sets.{has, meet, below, common, members}
use Rattle.sets.proofs.Membership.{has_meet, has-below, ext}
use Rattle.sets.proofs.Members.{step_in, step_has, step_none}
use Rattle.sets.proofs.Builder.{meet_lt, set_of_lt, has-set_of_in}

-- y is in row x
abbrev in_row : List ℕ → ℕ → ℕ → Bool
in_row rows x y = has (get_or rows x 0) y

module _ (rows : List ℕ) (w : ℕ) where
  -- y is in the row of each member of the set
  abbrev pub in_all : ℕ → ℕ → Bool
  in_all set y = every w (λ x. implies (has set x) (in_row rows x y))

  pub has-common : (set y : ℕ) → y < w → has (common rows w set) y ≡ in_all set y
  unfolding common
  has-common set y l = has-set_of_in w (in_all set) y l

  pub common_lt : (set : ℕ) → common rows w set < 2 ^ w
  unfolding common
  common_lt set = set_of_lt w (in_all set)

  pub below_lt : below w < 2 ^ w
  below_lt = omega (arith, pow_pos w)

  -- of no member
  pub common_end : (c m : ℕ) → members w m ≡ [] → c < 2 ^ w → meet c (common rows w m) ≡ c
  common_end c m e h =
      ext w (meet c (common rows w m)) c (meet_lt w c (common rows w m) h) h
      (λ y l. has_meet c (common rows w m) y ∙ ap (λ (t : Bool). has c y && t) (has-common m y l ∙ none y) ∙ and-true (has c y))
    where
      none : (y : ℕ) → in_all m y ≡ true
      none y =
          every_in w (λ x. implies (has m x) (in_row rows x y))
          (λ x l. implies_in (has m x) (in_row rows x y) (λ q. absurd (false≢true (sym (step_none w m e x l) ∙ q))))

  -- everything, before the first
  pub common_start : (set : ℕ) → meet (below w) (common rows w set) ≡ common rows w set
  common_start set =
      ext w (meet (below w) (common rows w set)) (common rows w set) (meet_lt w (below w) (common rows w set) below_lt) (common_lt set)
      (λ y l. has_meet (below w) (common rows w set) y ∙ ap (λ (t : Bool). t && has (common rows w set) y) (has-below w y ∙ lt-ltb y w l))

  -- a turn of the loop over the members
  module _ (m x n : ℕ) (e : members w m ≡ x ∷ members w n) where
    -- in the row of the first member, and in those of the others
    parts : (y : ℕ) → in_row rows x y && in_all n y ≡ in_all m y
    parts y = iff _ _ there back
      where
        there : in_row rows x y && in_all n y ≡ true → in_all m y ≡ true
        there t =
            every_in w (λ z. implies (has m z) (in_row rows z y))
            (λ z l.
            implies_in (has m z) (in_row rows z y)
            (λ q.
            or_elim (eqb x z) (has n z) (sym (step_has w m x n e z l) ∙ q)
            (λ i. ap (λ (k : ℕ). in_row rows k y) (sym (eqb-true x z i)) ∙ and_l (in_row rows x y) (in_all n y) t)
            (λ i.
            implies_out (has n z) (in_row rows z y)
            (every_out w (λ k. implies (has n k) (in_row rows k y)) (and_r (in_row rows x y) (in_all n y) t) z l) i)))

        back : in_all m y ≡ true → in_row rows x y && in_all n y ≡ true
        back t =
            let each : (z : ℕ) → z < w → eqb x z || has n z ≡ true → in_row rows z y ≡ true =
            λ z l i. implies_out (has m z) (in_row rows z y) (every_out w (λ k. implies (has m k) (in_row rows k y)) t z l) (step_has w m x n e z l ∙ i)
            in
            and_i (in_row rows x y) (in_all n y) (each x (step_in w m x n e) (or_l (eqb x x) (has n x) (eq-eqb x x refl)))
            (every_in w (λ z. implies (has n z) (in_row rows z y)) (λ z l. implies_in (has n z) (in_row rows z y) (λ q. each z l (or_r (eqb x z) (has n z) q))))

    turn : (c : ℕ) → c < 2 ^ w → meet (meet c (get_or rows x 0)) (common rows w n) ≡ meet c (common rows w m)
    turn c k =
        let row = get_or rows x 0 in
        ext w (meet (meet c row) (common rows w n)) (meet c (common rows w m)) (meet_lt w (meet c row) (common rows w n) (meet_lt w c row k))
        (meet_lt w c (common rows w m) k)
        (λ y l.
        has_meet (meet c row) (common rows w n) y
        ∙ ap₂ ◌&&◌ (has_meet c row y) (has-common n y l)
        ∙ and_assoc (has c y) (has row y) (in_all n y)
        ∙ ap (λ (t : Bool). has c y && t) (parts y ∙ sym (has-common m y l))
        ∙ sym (has_meet c (common rows w m) y))

  pub common_turn : (c m x n : ℕ) → members w m ≡ x ∷ members w n → c < 2 ^ w → meet (meet c (get_or rows x 0)) (common rows w n) ≡ meet c (common rows w m)
  common_turn c m x n e k = turn m x n e c k

  -- where nothing is left with the first member, nothing is with all
  pub common_none : (c m x n : ℕ) → members w m ≡ x ∷ members w n → c < 2 ^ w → meet c (get_or rows x 0) ≡ 0 → 0 ≡ meet c (common rows w m)
  common_none c m x n e k z = ap (λ (r : ℕ). meet r (common rows w n)) (sym z) ∙ turn m x n e c k
