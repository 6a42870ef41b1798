-- The fields of a line, as the loops find them.
use mathlib.Core.Path.{◌≡◌, refl, sym, ap, ◌∙◌}
use mathlib.Core.List.{List, [], ◌∷◌, ◌++◌}
use Prim.Native.Nat.{ℕ, suc, ◌+◌, ◌*◌, ◌%◌, ◌^◌, ◌≤◌, ◌<◌}
use native.Mathlib.Numerals.{add-one, one-add}
use native.Mathlib.Omega.{arith}
use lib.ListN.{length, get_or, take, drop, drop_of_length-le}
use lib.Seq.{drop-cons, drop-drop}
use lib.Dec.{eqb, ltb}
use Rattle.std.specs.List.{position}
use Rattle.std.specs.Prelude.{cond, Some, None}
use Rattle.std.specs.Option.{unwrap_or}
use Rattle.std.proofs.lemmas.Bool.Decides.{nat_tests}
use Rattle.std.proofs.lemmas.List.Sums.{prefix_len-le-length}
use Rattle.std.proofs.lemmas.List.Recursion.{is_position_or_len}
use Rattle.case_lines.specs.Line.{up_to, past, past_fields, field_of, value_of, nibble, bytes_of}

first_or_len : (k n : ℕ) → k ≤ n → unwrap_or (cond (ltb k n) (Some k) None) n ≡ k
first_or_len k n h = grind (arith, nat_tests)

-- the first place of `stop`, or the length
pub first_stop : (stop : ℕ) (l : List ℕ) → unwrap_or (position (λ b. eqb b stop) l) (length l) ≡ up_to stop l
unfolding up_to
first_stop stop l =
    first_or_len _ _ (prefix_len-le-length _ l) ∙ sym (is_position_or_len (up_to stop) (λ b. eqb b stop) refl (λ x xs. rw one-add) l)

pub past_is : (stop : ℕ) (s : List ℕ) (at : ℕ) → past stop (drop at s) ≡ drop (at + suc (up_to stop (drop at s))) s
unfolding past
past_is stop s at = drop-drop (suc (up_to stop (drop at s))) at s

pub fields_zero : (s : List ℕ) → drop 0 s ≡ past_fields 0 s
unfolding past_fields
fields_zero s = refl

pub fields_more : (s : List ℕ) (k : ℕ) → past_fields (k + 1) s ≡ past 32 (past_fields k s)
unfolding past_fields
fields_more s k = rw (add-one k)

pub field_is : (s : List ℕ) (k at : ℕ) → drop at s ≡ past_fields k s → take (up_to 32 (drop at s)) (drop at s) ≡ field_of k s
unfolding field_of
field_is s k at e = ap (λ (l : List ℕ). take (up_to 32 l) l) e

pub value_more : (s : List ℕ) (i v : ℕ) → i < length s → value_of v (drop i s) ≡ value_of ((v * 10 + get_or s i 0 % 16) % 2 ^ 32) (drop (i + 1) s)
unfolding value_of
value_more s i v h = rw (drop-cons s i 0 h, add-one i)

pub value-end : (s : List ℕ) (i v : ℕ) → length s ≤ i → value_of v (drop i s) ≡ v
unfolding value_of
value-end s i v h = rw (drop_of_length-le s h)

-- two digits and what follows them, and what is left at the end
pub bytes_more : (x s : List ℕ) → length x ≡ 2 → bytes_of (x ++ s) ≡ ((nibble (get_or x 0 0) * 16 + nibble (get_or x 1 0)) ∷ []) ++ bytes_of s
unfolding bytes_of
bytes_more [] s h = absurd (omega arith)
bytes_more (a ∷ []) s h = absurd (omega arith)
bytes_more (a ∷ b ∷ []) s h = refl
bytes_more (a ∷ b ∷ d ∷ x) s h = absurd (omega arith)

pub bytes-end : (s : List ℕ) → length s < 2 → bytes_of s ≡ []
unfolding bytes_of
bytes-end [] h = refl
bytes-end (a ∷ []) h = refl
bytes-end (a ∷ b ∷ s) h = absurd (omega arith)

-- the place after the first `stop`: one past it, or the end where there is none
pub past-hit : (stop : ℕ) (s : List ℕ) (from r : ℕ) → r ≡ from + up_to stop (drop from s) → drop (r + 1) s ≡ past stop (drop from s)
past-hit stop s from r e =
    let n : r + 1 ≡ from + suc (up_to stop (drop from s)) = omega arith in
    ap (λ (k : ℕ). drop k s) n ∙ sym (past_is stop s from)

pub past-none : (stop : ℕ) (s : List ℕ) (from r : ℕ) → r ≡ from + up_to stop (drop from s) → length s ≤ r → drop r s ≡ past stop (drop from s)
past-none stop s from r e h = drop_of_length-le s h ∙ sym (drop_of_length-le s {i = r + 1} (omega arith)) ∙ past-hit stop s from r e
