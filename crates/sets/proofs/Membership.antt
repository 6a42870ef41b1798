-- The laws of sets as masks, for any width. Everything follows from what `has` says of a half, of the three bit operations and of a power.
use mathlib.Core.Path.{◌≡◌, refl, sym, ap, ◌∙◌}
use Prim.Native.Nat.compare
use Prim.Native.Nat.{ℕ, zero, suc, ◌-◌, ◌*◌, ◌/◌, ◌%◌, ◌^◌, ◌≤◌, ◌<◌, zero-le, suc-le-suc}
use native.Mathlib.Nat.{lt_of_not-le, pow-suc, mul_comm, div-div-eq-div-mul, div-one, mod-lt, zero-div, div-eq_of_lt, le_of_suc-le-suc, not-suc-le-zero, zero-lt-suc, le-div_iff_mul-le, lt_of_lt_of_le, add-zero, zero-min}
use native.Mathlib.Omega.{arith}
use mathlib.Core.Bool.{Bool, true, false, not, ◌&&◌, ◌||◌, xor, true≢false, false≢true}
use native.Mathlib.Decide.{dec_lt}
use lib.Dec.{eqb, ltb, is_le, compare_is_eq}
use lib.Arith.{bin_ind}
use lib.Bits.{bit_and, bit_or, bit_xor, and_shr, or_shr, xor_shr, and_mod, or_mod, xor_mod, and_zero_r, and_self, and_step, xor_step, xor_zero_r}
use lib.Pow.{pow_pos, pow_mono}
use lib.Count.{count_trailing_zeros, under}
use borrow.Author.Tests.{lt-ltb, le-ltb, ltb-true, eq-eqb, ne_eqb, eqb-true, eqb-false}
use Rattle.logic.proofs.Bools.{and-not, and-not-i}
use Rattle.sets.specs.Sets.{has, union, meet, without, single, below, within, subset, first}

two_pos : 0 < 2
two_pos = zero-lt-suc 1

-- ---- the digit at a place

pub digit : ℕ → ℕ → ℕ
digit m i = m / 2 ^ i % 2

digit_lt : (m i : ℕ) → m / 2 ^ i % 2 < 2
digit_lt m i = mod-lt (m / 2 ^ i) two_pos

-- the lowest digit, and the others as those of the half
pub has-zero : (m : ℕ) → has m 0 ≡ eqb (m % 2) 1
unfolding has
has-zero m = ap (λ (x : ℕ). eqb (x % 2) 1) (div-one m)

pub has-suc : (m i : ℕ) → has m (suc i) ≡ has (m / 2) i
unfolding has
has-suc m i =
    ap (λ (x : ℕ). eqb (x % 2) 1)
    (ap (λ (x : ℕ). m / x) (pow-suc 2 i ∙ mul_comm (2 ^ i) 2) ∙ sym (div-div-eq-div-mul m 2 (2 ^ i)))

-- ---- the operations, digit by digit

two_digits : (P : ℕ → ℕ → Type 0) → P 0 0 → P 0 1 → P 1 0 → P 1 1 → (x y : ℕ) → x < 2 → y < 2 → P x y
two_digits P a b c d zero zero hx hy = a
two_digits P a b c d zero (suc zero) hx hy = b
two_digits P a b c d (suc zero) zero hx hy = c
two_digits P a b c d (suc zero) (suc zero) hx hy = d
two_digits P a b c d (suc (suc x)) y hx hy = absurd (not-suc-le-zero (le_of_suc-le-suc (le_of_suc-le-suc hx)))
two_digits P a b c d zero (suc (suc y)) hx hy = absurd (not-suc-le-zero (le_of_suc-le-suc (le_of_suc-le-suc hy)))
two_digits P a b c d (suc zero) (suc (suc y)) hx hy = absurd (not-suc-le-zero (le_of_suc-le-suc (le_of_suc-le-suc hy)))

module _ (op : ℕ → ℕ → ℕ) (f : Bool → Bool → Bool)
    (shr : (a b k : ℕ) → op a b / 2 ^ k ≡ op (a / 2 ^ k) (b / 2 ^ k))
    (low : (a b k : ℕ) → op a b % 2 ^ k ≡ op (a % 2 ^ k) (b % 2 ^ k))
    (at : (x y : ℕ) → x < 2 → y < 2 → eqb (op x y) 1 ≡ f (eqb x 1) (eqb y 1)) where
  has_op : (a b i : ℕ) → has (op a b) i ≡ f (has a i) (has b i)
  unfolding has
  has_op a b i =
      ap (λ (x : ℕ). eqb (x % 2) 1) (shr a b i) ∙ ap (λ (x : ℕ). eqb x 1) (low (a / 2 ^ i) (b / 2 ^ i) 1)
      ∙ at (a / 2 ^ i % 2) (b / 2 ^ i % 2) (digit_lt a i) (digit_lt b i)

pub has-union : (a b i : ℕ) → has (union a b) i ≡ has a i || has b i
has-union =
    has_op bit_or ◌||◌ or_shr or_mod
    (two_digits (λ x y. eqb (bit_or x y) 1 ≡ (eqb x 1 || eqb y 1)) refl refl refl refl)

pub has_meet : (a b i : ℕ) → has (meet a b) i ≡ has a i && has b i
has_meet =
    has_op bit_and ◌&&◌ and_shr and_mod
    (two_digits (λ x y. eqb (bit_and x y) 1 ≡ (eqb x 1 && eqb y 1)) refl refl refl refl)

has_xor : (a b i : ℕ) → has (bit_xor a b) i ≡ xor (has a i) (has b i)
has_xor =
    has_op bit_xor xor xor_shr xor_mod
    (unfold xor in two_digits (λ x y. eqb (bit_xor x y) 1 ≡ xor (eqb x 1) (eqb y 1)) refl refl refl refl)

xor_and : (p q : Bool) → xor p (p && q) ≡ p && not q
unfolding xor
xor_and true true = refl
xor_and true false = refl
xor_and false q = refl

pub has-without : (a b i : ℕ) → has (without a b) i ≡ has a i && not (has b i)
has-without a b i = has_xor a (meet a b) i ∙ ap (xor (has a i)) (has_meet a b i) ∙ xor_and (has a i) (has b i)

pub has_empty : (i : ℕ) → has 0 i ≡ false
unfolding has
has_empty i = ap (λ (x : ℕ). eqb (x % 2) 1) (zero-div (2 ^ i))

-- ---- bounds: a set below 2 ^ v has no member at or above v

pub has_above : (v m i : ℕ) → m < 2 ^ v → v ≤ i → has m i ≡ false
unfolding has
has_above v m i h l = ap (λ (x : ℕ). eqb (x % 2) 1) (div-eq_of_lt (lt_of_lt_of_le h (pow_mono l)))

pub member_below : (v m i : ℕ) → m < 2 ^ v → has m i ≡ true → i < v
member_below v m i h e = lt_of_not-le (λ (l : v ≤ i). true≢false (sym e ∙ has_above v m i h l))

low_zero : (m : ℕ) → has m 0 ≡ false → m % 2 ≡ 0
low_zero m e =
    let n : m % 2 ≡ 1 → ⊥ = eqb-false (m % 2) 1 (sym (has-zero m) ∙ e) in
    omega (arith, mod-lt m two_pos)

-- a set with no member is the empty one
pub none_empty : (m : ℕ) → ((i : ℕ) → has m i ≡ false) → m ≡ 0
none_empty =
    bin_ind (λ (m : ℕ). ((i : ℕ) → has m i ≡ false) → m ≡ 0) (λ h. refl)
    (λ m ih h.
    let half : m / 2 ≡ 0 = ih (λ i. sym (has-suc m i) ∙ h (suc i)) in
    let low : m % 2 ≡ 0 = low_zero m (h 0) in
    omega arith)

-- the converse of `has_above`
pub below_of : (v m : ℕ) → ((i : ℕ) → v ≤ i → has m i ≡ false) → m < 2 ^ v
below_of zero m h = omega (arith, none_empty m (λ i. h i zero-le))
below_of (suc v) m h =
    let half : m / 2 < 2 ^ v = below_of v (m / 2) (λ i l. sym (has-suc m i) ∙ h (suc i) (suc-le-suc l)) in
    omega arith

same_digit : (x y : ℕ) → x < 2 → y < 2 → eqb x 1 ≡ eqb y 1 → x ≡ y
same_digit =
    two_digits (λ x y. eqb x 1 ≡ eqb y 1 → x ≡ y) (λ e. refl) (λ e. absurd (false≢true e)) (λ e. absurd (true≢false e)) (λ e. refl)

-- two sets with the same members are equal
pub ext : (w a b : ℕ) → a < 2 ^ w → b < 2 ^ w → ((i : ℕ) → i < w → has a i ≡ has b i) → a ≡ b
ext zero a b ha hb h = omega arith
ext (suc w) a b ha hb h =
    let half : a / 2 ≡ b / 2 = ext w (a / 2) (b / 2) (omega arith) (omega arith) (λ i l. sym (has-suc a i) ∙ h (suc i) (suc-le-suc l) ∙ has-suc b i) in
    let low : a % 2 ≡ b % 2 = same_digit (a % 2) (b % 2) (mod-lt a two_pos) (mod-lt b two_pos) (sym (has-zero a) ∙ h 0 (zero-lt-suc w) ∙ has-zero b) in
    omega arith

-- ---- one member; all below v

eqb-suc : (i j : ℕ) → eqb (suc i) (suc j) ≡ eqb i j
eqb-suc i j = ap compare_is_eq (compare.suc-suc i j)

pub has-single : (i j : ℕ) → has (single i) j ≡ eqb i j
unfolding has
has-single zero zero = refl
has-single zero (suc j) = has-suc 1 j ∙ has_empty j ∙ sym (ne_eqb 0 (suc j) (λ e. omega arith))
has-single (suc i) zero = has-zero (2 ^ suc i) ∙ ne_eqb (2 ^ suc i % 2) 1 (λ e. omega arith) ∙ sym (ne_eqb (suc i) 0 (λ e. omega arith))
has-single (suc i) (suc j) =
    let half : 2 ^ suc i / 2 ≡ 2 ^ i = omega arith in
    has-suc (2 ^ suc i) j ∙ ap (λ (x : ℕ). has x j) half ∙ has-single i j ∙ sym (eqb-suc i j)

pub has-below : (v i : ℕ) → has (below v) i ≡ ltb i v
has-below zero i = has_empty i ∙ sym (le-ltb i 0 zero-le)
has-below (suc v) zero =
    let p : 0 < 2 ^ v = pow_pos v in
    has-zero (2 ^ suc v - 1) ∙ eq-eqb ((2 ^ suc v - 1) % 2) 1 (omega arith) ∙ sym (lt-ltb 0 (suc v) (zero-lt-suc v))
has-below (suc v) (suc i) =
    let p : 0 < 2 ^ v = pow_pos v in
    let half : (2 ^ suc v - 1) / 2 ≡ 2 ^ v - 1 = omega arith in
    has-suc (2 ^ suc v - 1) i ∙ ap (λ (x : ℕ). has x i) half ∙ has-below v i ∙ sym (ap is_le (compare.suc-suc (suc i) v))

-- ---- subsets

pub subset-has : (a b : ℕ) → subset a b ≡ true → (i : ℕ) → has a i ≡ true → has b i ≡ true
unfolding subset
subset-has a b e i =
    and-not (has a i) (has b i)
    (sym (has-without a b i) ∙ ap (λ (x : ℕ). has x i) (eqb-true (without a b) 0 e) ∙ has_empty i)

pub has-subset : (a b : ℕ) → ((i : ℕ) → has a i ≡ true → has b i ≡ true) → subset a b ≡ true
unfolding subset
has-subset a b h =
    eq-eqb (without a b) 0 (none_empty (without a b) (λ i. has-without a b i ∙ and-not-i (has a i) (has b i) (h i)))

-- ---- the first member

pub first_least : (w m i : ℕ) → i < first w m → has m i ≡ false
unfolding count_trailing_zeros
first_least zero m i h = absurd (not-suc-le-zero h)
first_least (suc w) m i h = go (m % 2) refl i (λ j. first_least w (m / 2) j) h
  where
    go : (d : ℕ) → m % 2 ≡ d → (i : ℕ) → ((j : ℕ) → j < count_trailing_zeros w (m / 2) → has (m / 2) j ≡ false) → i < under d (count_trailing_zeros w (m / 2)) → has m i ≡ false
    go zero e zero ih l = has-zero m ∙ ap (λ (x : ℕ). eqb x 1) e
    go zero e (suc i) ih l = has-suc m i ∙ ih i (le_of_suc-le-suc l)
    go (suc d) e i ih l = absurd (not-suc-le-zero l)

pub first_member : (w m : ℕ) → first w m < w → has m (first w m) ≡ true
unfolding count_trailing_zeros
first_member zero m h = absurd (not-suc-le-zero h)
first_member (suc w) m h = go (m % 2) refl (first_member w (m / 2)) h
  where
    go : (d : ℕ) → m % 2 ≡ d → (count_trailing_zeros w (m / 2) < w → has (m / 2) (count_trailing_zeros w (m / 2)) ≡ true) → under d (count_trailing_zeros w (m / 2)) < suc w → has m (under d (count_trailing_zeros w (m / 2))) ≡ true
    go zero e ih l = has-suc m (count_trailing_zeros w (m / 2)) ∙ ih (le_of_suc-le-suc l)
    go (suc d) e ih l = has-zero m ∙ eq-eqb (m % 2) 1 (omega (arith, mod-lt m two_pos))

-- ---- without the first member, as the machine takes it off

-- one step of the digits of `without` for sets of even numbers
even_without : (a b : ℕ) → a % 2 ≡ 0 → without a (b * 2) ≡ without (a / 2) b * 2
even_without a b e =
    let h : b * 2 / 2 ≡ b = omega arith in
    let z : b * 2 % 2 ≡ 0 = omega arith in
    let m : bit_and a (b * 2) ≡ bit_and (a / 2) b * 2 = and_step a (b * 2) ∙ rw (h, z, e) (add-zero _) in
    let n : bit_and (a / 2) b * 2 / 2 ≡ bit_and (a / 2) b = omega arith in
    let o : bit_and (a / 2) b * 2 % 2 ≡ 0 = omega arith in
    ap (bit_xor a) m ∙ xor_step a (bit_and (a / 2) b * 2) ∙ rw (n, o, e) (add-zero _)

pub first_off : (w a : ℕ) → 0 < a → a < 2 ^ w → bit_and a (a - 1) ≡ without a (single (first w a))
unfolding count_trailing_zeros
first_off zero a h l = absurd (omega arith)
first_off (suc w) a h l = go (a % 2) refl (λ k. first_off w (a / 2) k (omega arith))
  where
    go : (d : ℕ) → a % 2 ≡ d → (0 < a / 2 → bit_and (a / 2) (a / 2 - 1) ≡ without (a / 2) (single (count_trailing_zeros w (a / 2))))
        → bit_and a (a - 1) ≡ without a (single (under d (count_trailing_zeros w (a / 2))))
    go zero e ih =
        let half : (a - 1) / 2 ≡ a / 2 - 1 = omega arith in
        and_step a (a - 1)
        ∙ rw (half, e, zero-min ((a - 1) % 2)) (add-zero _ ∙ ap (λ (x : ℕ). x * 2) (ih (omega arith)) ∙ sym (even_without a (single (count_trailing_zeros w (a / 2))) e) ∙ ap (without a) (sym (pow-suc 2 (count_trailing_zeros w (a / 2)))))
    go (suc d) e ih =
        let half : (a - 1) / 2 ≡ a / 2 = omega (arith, mod-lt a two_pos) in
        let low : (a - 1) % 2 ≡ 0 = omega (arith, mod-lt a two_pos) in
        let one : a % 2 ≡ 1 = omega (arith, mod-lt a two_pos) in
        let m : bit_and a 1 ≡ 1 = and_step a 1 ∙ rw (one, and_zero_r (a / 2)) in
        and_step a (a - 1) ∙ rw (half, low, one, and_self (a / 2)) (sym (ap (bit_xor a) m ∙ xor_step a 1 ∙ rw (one, xor_zero_r (a / 2))))

-- ---- the machine's forms, at a word of w bits

le_of_not_lt : {a b : ℕ} → (a < b → ⊥) → b ≤ a
le_of_not_lt h = le_of_suc-le-suc (lt_of_not-le (λ l. h l))

pub within_lt : (v m : ℕ) → within v m ≡ true → m < 2 ^ v
unfolding within
within_lt v m e = ltb-true m (2 ^ v) e

pub lt_within : (v m : ℕ) → m < 2 ^ v → within v m ≡ true
unfolding within
lt_within v m h = lt-ltb m (2 ^ v) h

pub shr_within : (v m : ℕ) → eqb (m / 2 ^ v) 0 ≡ within v m
unfolding within
shr_within v m = go (dec_lt m (2 ^ v))
  where
    go : Dec (m < 2 ^ v) → eqb (m / 2 ^ v) 0 ≡ within v m
    go (yes h) = eq-eqb (m / 2 ^ v) 0 (div-eq_of_lt h) ∙ sym (lt-ltb m (2 ^ v) h)
    go (no h) =
        let l : 2 ^ v ≤ m = le_of_not_lt h in
        let one : 1 ≤ m / 2 ^ v = (le-div_iff_mul-le (pow_pos v)).1 (omega arith) in
        ne_eqb (m / 2 ^ v) 0 (λ e. omega arith) ∙ sym (le-ltb m (2 ^ v) l)
