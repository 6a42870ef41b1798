-- The steps of checking a goal, as the code makes them.
use Rattle.std.specs.Prelude.{Ok, Err}
use mathlib.Core.Path.{◌≡◌, refl, ap, ◌∙◌}
use mathlib.Core.Bool.{Bool, true, false, ◌&&◌, and-true, and-false, and_assoc}
use mathlib.Core.List.{List}
use Prim.Native.Nat.{ℕ, ◌<◌, ◌≤◌}
use native.Mathlib.Omega.{arith}
use lib.Dec.{eqb, leb}
use lib.ListN.{length}
use borrow.Author.Tests.{le-leb, lt-leb}
use Rattle.record_fields.specs.Facts.{ground_of, ticks_of}
use Rattle.record_fields.specs.Fields.{var_count, set, text_at, text_length_at, goal_end}
use Rattle.sets.specs.Sets.{within, subset, below}
use Rattle.sets.proofs.Builder.{subset-below}
use Rattle.record_rules.specs.declared.Refusal.{Refusal}
use Rattle.record_rules.specs.Reading.{◌must◌else◌place◌, between, text_limit, tick_limit, grows, bad_text, goal}
use Rattle.record_rules.specs.Fine.{goal_fine}
use Rattle.record_rules.proofs.Fine.{fine_must}
use Rattle.record_goals.specs.Text.{clean}
use Rattle.record_goals.specs.Facts.{facts_fine}
use Rattle.record_goals.proofs.Text.{clean_test}

-- a goal whose fixed part is cut off
pub goal_short : (b : List ℕ) (at before met : ℕ) (r : Refusal) → (Ok tt must leb (text_at b at) (length b) else 7 place length b) ≡ Err r
    → Err r ≡ goal b at before met (Ok tt)
unfolding goal ◌must◌else◌place◌
goal_short b at before met r e = rw e refl

module _ (b : List ℕ) (at before met : ℕ) where
  -- ---- by plain tests

  goal_tests : goal_fine b at before met
      ≡ (((((leb (text_at b at) (length b) && within (var_count b) (set b at)) && grows before met (ground_of b at)) && between 1 tick_limit (ticks_of b at))
      && between 1 text_limit (text_length_at b at))
      && leb (goal_end b at) (length b))
      && eqb (bad_text b at) (goal_end b at)
  unfolding goal_fine goal
  goal_tests = rw (fine_must, fine_must, fine_must, fine_must, fine_must, fine_must, fine_must)

  middle : (p q f u r s t : Bool) → p ≡ true → s ≡ true → (((((p && q) && f) && u) && r) && s) && t ≡ ((q && (f && u)) && r) && t
  middle p q f u r s t ep es = rw (ep, es, and-true) (ap (λ (x : Bool). (x && r) && t) (and_assoc q f u))

  -- the text's end lies inside the record: then the fixed part does
  pub goal_whole : goal_end b at ≤ length b → goal_fine b at before met
      ≡ ((subset (set b at) (below (var_count b)) && facts_fine b at before met) && between 1 text_limit (text_length_at b at))
      && clean b (text_at b at) (text_length_at b at)
  unfolding facts_fine
  goal_whole h =
      rw (subset-below, clean_test)
      (goal_tests ∙ middle _ _ _ _ _ _ _ (le-leb (text_at b at) (length b) (omega arith)) (le-leb (goal_end b at) (length b) (omega arith)))

  pub goal_cut : length b < goal_end b at → goal_fine b at before met ≡ false
  goal_cut h = let cut = lt-leb (goal_end b at) (length b) (omega arith) in goal_tests ∙ rw (cut, and-false)
