-- The words lose nothing: bits 56 to 63 of every word are its refusal's number, so those of an accepted answer are 0, and every value stands in its bits.
use mathlib.Core.Path.{◌≡◌}
use mathlib.Core.Option.{Option, none, some}
use Prim.Native.Nat.{ℕ, ◌/◌, ◌%◌, ◌^◌, ◌<◌}
use native.Mathlib.Omega.{arith}
use Rattle.record_rules.specs.Outcome.{Outcome, refused, accepted, values}
use Rattle.record_rules.proofs.Outcomes.{All}
use Rattle.expression.specs.Search.{Four}
use Rattle.expression_grammar.specs.Check.{differs}
use Rattle.lfj_words.specs.Words.{refusal_word, word, form_word, mel_word, span_word, check_word}

-- a refusal's word gives its number and its place back
pub word_number : (k p : ℕ) → refusal_word k p / 2 ^ 56 ≡ k
unfolding refusal_word
word_number k p = omega arith

pub word-place : (k p : ℕ) → p < 2 ^ 32 → refusal_word k p % 2 ^ 32 ≡ p
unfolding refusal_word
word-place k p h = omega arith

-- every word has its refusal's number at bits 56 to 63, 0 if accepted, where the value's word stays below them
pub number_says : {A : Type 0} (f : A → ℕ) (zero : A) (o : Outcome A) → All (λ k p. Unit {0}) (λ x. f x < 2 ^ 56) o → word f o / 2 ^ 56 ≡ (values zero o).number
number_says f zero (refused k p) h = word_number k p
number_says f zero (accepted x) h = omega arith

-- with 13's goals too
pub form-number : (o : Outcome ℕ) (s : Option Four) → form_word o s / 2 ^ 56 ≡ (values 0 o).number
unfolding form_word refusal_word
form-number (refused k p) none = omega arith
form-number (refused k p) (some q) = omega arith
form-number (accepted n) none = omega arith
form-number (accepted n) (some q) = omega arith

-- ---- the values of an accepted call
module _ (place size : ℕ) where
  pub text-start : place < 2 ^ 32 → span_word place size % 2 ^ 32 ≡ place
  text-start h = omega arith

  pub text_length_lem : size < 2 ^ 16 → span_word place size / 2 ^ 32 ≡ size
  text_length_lem h = omega arith

module _ (i j : ℕ) (hi : i < 2 ^ 8) (hj : j < 2 ^ 8) where
  pub check-i : check_word (accepted (differs i j)) % 2 ^ 8 ≡ i
  unfolding check_word
  check-i = omega arith

  pub check_j : check_word (accepted (differs i j)) / 2 ^ 8 ≡ j
  unfolding check_word
  check_j = omega arith

pub mel-length : (n : ℕ) → n < 2 ^ 32 → mel_word (accepted n) ≡ n
unfolding mel_word
mel-length n h = omega arith

pub form_length_lem : (n : ℕ) → n < 2 ^ 32 → form_word (accepted n) none ≡ n
unfolding form_word
form_length_lem n h = omega arith

-- 13's place and its four goals
module _ (q : Four) (ga : q.a < 2 ^ 6) (gb : q.b < 2 ^ 6) (gc : q.c < 2 ^ 6) (gd : q.d < 2 ^ 6) where
  abbrev thirteen : ℕ
  thirteen = form_word (refused 13 0) (some q)

  pub thirteen-place : thirteen % 2 ^ 32 ≡ 0
  unfolding form_word refusal_word
  thirteen-place = omega arith

  pub thirteen-a : thirteen / 2 ^ 32 % 2 ^ 6 ≡ q.a
  unfolding form_word refusal_word
  thirteen-a = omega arith

  pub thirteen-b : thirteen / 2 ^ 38 % 2 ^ 6 ≡ q.b
  unfolding form_word refusal_word
  thirteen-b = omega arith

  pub thirteen_c : thirteen / 2 ^ 44 % 2 ^ 6 ≡ q.c
  unfolding form_word refusal_word
  thirteen_c = omega arith

  pub thirteen_d : thirteen / 2 ^ 50 % 2 ^ 6 ≡ q.d
  unfolding form_word refusal_word
  thirteen_d = omega arith
