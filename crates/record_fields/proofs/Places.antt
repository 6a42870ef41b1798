-- Where the goals stand, one after the other.
use mathlib.Core.Path.{◌≡◌, refl}
use mathlib.Core.List.{List}
use Prim.Native.Nat.{ℕ, ◌+◌}
use native.Mathlib.Numerals.{add-one}
use Rattle.record_fields.specs.Fields.{header_size, place_after, goal_end}

module _ (b : List ℕ) where
  pub place_zero : header_size ≡ place_after b 0
  unfolding place_after
  place_zero = refl

  pub place_more : (g : ℕ) → place_after b (g + 1) ≡ goal_end b (place_after b g)
  unfolding place_after
  place_more g = rw add-one

  pub place_turn : (g at : ℕ) → at ≡ place_after b g → goal_end b at ≡ place_after b (g + 1)
  place_turn g at e = cc (place_more g)
