-- The first bad byte of a text, as a loop looks for it.
use mathlib.Core.Path.{◌≡◌, refl, ap, ◌∙◌}
use mathlib.Core.Bool.{Bool, true, false, ◌&&◌, cond}
use mathlib.Core.List.{List}
use Prim.Native.Nat.{ℕ, suc, ◌+◌, ◌-◌, ◌<◌}
use native.Mathlib.Numerals.{add-one}
use native.Mathlib.Omega.{arith}
use lib.Dec.{eqb}
use borrow.Author.Tests.{eqb-true, eq-eqb}
use lib.ListN.{get_or, take, drop}
use lib.Seq.{get_or-take, get_or-drop}
use Rattle.record_fields.specs.Fields.{byte}
use Rattle.logic.specs.Quantifiers.{every}
use Rattle.logic.proofs.Quantifiers.{every_out, every_in}
use Rattle.logic.proofs.Bools.{iff}
use Rattle.record_rules.specs.Reading.{is_text_byte, first_bad}
use Rattle.record_rules.proofs.Text.{text_good, good_text}
use Rattle.record_goals.specs.Text.{clean}

module _ (b : List ℕ) where
  ahead : (at end : ℕ) → at < end → end - at ≡ suc (end - (at + 1))
  ahead at end h = omega arith

  pub bad_good : (at end : ℕ) → at < end → is_text_byte (byte b at) ≡ true → first_bad b at (end - at) ≡ first_bad b (at + 1) (end - (at + 1))
  unfolding first_bad
  bad_good at end h e = ap (λ (k : ℕ). first_bad b at k) (ahead at end h) ∙ ap (λ (t : Bool). cond t (first_bad b (suc at) (end - (at + 1))) at) e ∙ rw add-one

  pub bad_here : (at end : ℕ) → at < end → is_text_byte (byte b at) ≡ false → first_bad b at (end - at) ≡ at
  unfolding first_bad
  bad_here at end h e = ap (λ (k : ℕ). first_bad b at k) (ahead at end h) ∙ ap (λ (t : Bool). cond t (first_bad b (suc at) (end - (at + 1))) at) e

  pub bad_none : (at end : ℕ) → at ≡ end → first_bad b at (end - at) ≡ at
  unfolding first_bad
  bad_none at end e = let z : end - at ≡ 0 = omega arith in ap (λ (k : ℕ). first_bad b at k) z

  -- ---- a text has no bad byte exactly if it is clean

  pub clean_zero : (from : ℕ) → true ≡ clean b from 0
  unfolding clean every
  clean_zero from = refl

  pub clean_more : (from k : ℕ) → clean b from (k + 1) ≡ clean b from k && is_text_byte (byte b (from + k))
  unfolding clean every
  clean_more from k = rw add-one

  -- byte i of the part that is gone through
  pub clean_turn : (from k i : ℕ) (ok t : Bool) → i < from + k - from → ok ≡ clean b from i
      → t ≡ is_text_byte (get_or (take (from + k - from) (drop from b)) i 0) → ok && t ≡ clean b from (i + 1)
  clean_turn from k i ok t h eo et =
      let e = et ∙ ap is_text_byte (get_or-take (from + k - from) (drop from b) i 0 h ∙ get_or-drop from b i 0) in cc (clean_more from i)

  pub clean_test : (from k : ℕ) → clean b from k ≡ eqb (first_bad b from k) (from + k)
  unfolding clean
  clean_test from k =
      let good = λ (i : ℕ). is_text_byte (byte b (from + i)) in
      iff (every k good) (eqb (first_bad b from k) (from + k)) (λ e. eq-eqb _ _ (good_text b k from (every_out k good e)))
      (λ e. every_in k good (text_good b k from (eqb-true _ _ e)))
