-- The facts of a goal by the record's version, and goal after goal.
use mathlib.Core.Path.{◌≡◌, refl, sym, ap}
use mathlib.Core.Bool.{Bool, true, false, cond}
use mathlib.Core.List.{List}
use Prim.Native.Nat.{ℕ, zero, suc, ◌+◌, ◌≤◌}
use native.Mathlib.Numerals.{add-one}
use native.Mathlib.Omega.{arith}
use lib.Dec.{eqb}
use Rattle.sets.specs.Sets.{union}
use Rattle.record_fields.specs.Fields.{number, set, version, version_one, version_two, head_set, ground_set, own_facts, length_at, place_after}
use Rattle.record_fields.specs.Facts.{ground_place, ticks_place, ground_of, ticks_of, ground_before, met_before, ground_at, ticks_at}

module _ (b : List ℕ) where
  -- ---- the place of the length byte

  pub length_between : (at : ℕ) → (at + 8 ≤ length_at b at) × (length_at b at ≤ at + 18)
  unfolding length_at
  length_between at = go (own_facts b)
    where
      go : (own : Bool) → (at + 8 ≤ at + cond own 18 8) × (at + cond own 18 8 ≤ at + 18)
      go true = (omega arith, omega arith)
      go false = (omega arith, omega arith)

  pub length_own : (at : ℕ) → own_facts b ≡ true → length_at b at ≡ at + 18
  unfolding length_at
  length_own at w = ap (λ (own : Bool). at + cond own 18 8) w

  -- it moves with the goal
  pub length_moves : (at d : ℕ) → length_at b (at + d) ≡ length_at b at + d
  unfolding length_at
  length_moves at d = omega arith

  -- ---- by the version

  module _ (at : ℕ) where
    pub ground_plain : own_facts b ≡ false → ground_set b ≡ ground_of b at
    unfolding ground_of
    ground_plain w = sym (ap (λ (own : Bool). cond own (set b (ground_place at)) (ground_set b)) w)

    pub ticks_plain : own_facts b ≡ false → 1 ≡ ticks_of b at
    unfolding ticks_of
    ticks_plain w = sym (ap (λ (own : Bool). cond own (number b (ticks_place at) 2) 1) w)

  -- the goals of a version 1 record have no facts of their own
  pub one_plain : version b ≡ version_one → own_facts b ≡ false
  unfolding own_facts
  one_plain e = ap (λ (v : ℕ). eqb v version_two) e

  -- 02, 1: "Version 1 is still read: every goal has the header's ground set and 1 tick"
  pub version_1_facts : version b ≡ version_one → (g : ℕ) → (ground_at b g ≡ ground_set b) × (ticks_at b g ≡ 1)
  unfolding ground_at ticks_at
  version_1_facts e g = (sym (ground_plain _ (one_plain e)), sym (ticks_plain _ (one_plain e)))

  -- ---- goal after goal

  pub ground_zero : ground_set b ≡ ground_before b 0
  unfolding ground_before
  ground_zero = refl

  pub ground_more : (g at : ℕ) → at ≡ place_after b g → ground_of b at ≡ ground_before b (g + 1)
  unfolding ground_before
  ground_more g at e = rw (add-one, e)

  pub met_zero : head_set b ≡ met_before b 0
  unfolding met_before
  met_zero = refl

  pub met_more : (g at m s : ℕ) → at ≡ place_after b g → m ≡ met_before b g → s ≡ set b at → union m s ≡ met_before b (g + 1)
  unfolding met_before
  met_more g at m s e em es = rw (add-one, em, es, e)

  -- without facts of its own a goal has the header's ground set before it
  pub before_plain : own_facts b ≡ false → (g : ℕ) → ground_before b g ≡ ground_set b
  unfolding ground_before
  before_plain w zero = refl
  before_plain w (suc g) = sym (ground_plain (place_after b g) w)
