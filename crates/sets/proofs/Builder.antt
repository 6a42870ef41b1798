-- The set of the numbers below w of which a test holds; and bounds of the operations.
use mathlib.Core.Path.{◌≡◌, refl, sym, ap, ◌∙◌}
use mathlib.Core.Logic.{⊎_elim}
use mathlib.Core.Bool.{Bool, true, false, not, ◌&&◌, ◌||◌, cond, or-true, or-false}
use Prim.Native.Nat.{ℕ, zero, suc, ◌^◌, ◌<◌}
use native.Mathlib.Nat.{eq-or-lt_of_le, le_of_suc-le-suc, le_step}
use native.Mathlib.Omega.{arith}
use lib.Bits.{bit_xor, xor_zero_l, xor_zero_r, xor_self, xor_assoc}
use lib.Dec.{eqb, ltb}
use lib.Pow.{pow-lt}
use borrow.Author.Tests.{lt-ltb, le-ltb, ltb-true, eq-eqb, eqb-true}
use Rattle.logic.proofs.Bools.{iff, and_l, and_r, and_i, or_elim, is_false}
use Rattle.sets.specs.Sets.{has, union, meet, without, single, below, within, subset, set_of}
use Rattle.sets.proofs.Membership.{has-union, has_meet, has-without, has-single, has_empty, has-below, subset-has, has-subset, within_lt, lt_within, member_below, below_of, ext}

-- ---- bounds

pub single_lt : (w i : ℕ) → i < w → single i < 2 ^ w
single_lt w i h = pow-lt h

-- a set whose members are all below w
pub members_lt : (w m : ℕ) → ((i : ℕ) → has m i ≡ true → i < w) → m < 2 ^ w
members_lt w m h = below_of w m (λ i l. is_false (has m i) (λ e. absurd (omega (arith, h i e))))

-- what a set has in common with one that it is inside of is the set itself
pub meet_self : (a b : ℕ) → eqb (meet a b) a ≡ subset a b
unfolding subset
meet_self a b = iff (eqb (meet a b) a) (subset a b) there back
  where
    there : eqb (meet a b) a ≡ true → subset a b ≡ true
    there e = has-subset a b (λ i h. and_r (has a i) (has b i) (sym (has_meet a b i) ∙ ap (λ (x : ℕ). has x i) (eqb-true (meet a b) a e) ∙ h))

    back : subset a b ≡ true → eqb (meet a b) a ≡ true
    back e =
        eq-eqb (meet a b) a
        (sym (xor_zero_l (meet a b)) ∙ ap (λ (x : ℕ). bit_xor x (meet a b)) (sym (xor_self a)) ∙ xor_assoc a a (meet a b)
        ∙ ap (bit_xor a) (eqb-true (without a b) 0 e) ∙ xor_zero_r a)

-- one number is inside of a set that has it
pub single_in : (m i : ℕ) → subset (single i) m ≡ has m i
single_in m i =
    iff (subset (single i) m) (has m i) (λ e. subset-has (single i) m e i (has-single i i ∙ eq-eqb i i refl))
    (λ e. has-subset (single i) m (λ j h. ap (has m) (sym (eqb-true i j (sym (has-single i j) ∙ h))) ∙ e))

-- inside the set of the numbers below v
pub subset-below : (v m : ℕ) → subset m (below v) ≡ within v m
subset-below v m =
    iff (subset m (below v)) (within v m)
    (λ e. lt_within v m (members_lt v m (λ i h. ltb-true i v (sym (has-below v i) ∙ subset-has m (below v) e i h))))
    (λ e. has-subset m (below v) (λ i h. has-below v i ∙ lt-ltb i v (member_below v m i (within_lt v m e) h)))

pub union_lt : (w a b : ℕ) → a < 2 ^ w → b < 2 ^ w → union a b < 2 ^ w
union_lt w a b ha hb =
    members_lt w (union a b) (λ i e. or_elim (has a i) (has b i) (sym (has-union a b i) ∙ e) (member_below w a i ha) (member_below w b i hb))

pub meet_lt : (w a b : ℕ) → a < 2 ^ w → meet a b < 2 ^ w
meet_lt w a b ha = members_lt w (meet a b) (λ i e. member_below w a i ha (and_l (has a i) (has b i) (sym (has_meet a b i) ∙ e)))

pub without_lt : (w a b : ℕ) → a < 2 ^ w → without a b < 2 ^ w
without_lt w a b ha = members_lt w (without a b) (λ i e. member_below w a i ha (and_l (has a i) (not (has b i)) (sym (has-without a b i) ∙ e)))

-- ---- the set of those of which f holds

step : (m w : ℕ) (p : Bool) (i : ℕ) → has (cond p (union m (single w)) m) i ≡ has m i || (p && eqb w i)
step m w true i = has-union m (single w) i ∙ ap (λ (t : Bool). has m i || t) (has-single w i)
step m w false i = sym (or-false (has m i))

pub has-set_of : (w : ℕ) (f : ℕ → Bool) (i : ℕ) → has (set_of w f) i ≡ ltb i w && f i
unfolding set_of
has-set_of zero f i = has_empty i ∙ sym (ap (λ (t : Bool). t && f i) (le-ltb i 0 (omega arith)))
has-set_of (suc w) f i =
    step (set_of w f) w (f w) i ∙ ap (λ (t : Bool). t || (f w && eqb w i)) (has-set_of w f i) ∙ iff _ _ there back
  where
    there : (ltb i w && f i) || (f w && eqb w i) ≡ true → ltb i (suc w) && f i ≡ true
    there h =
        or_elim (ltb i w && f i) (f w && eqb w i) h
        (λ e. and_i (ltb i (suc w)) (f i) (lt-ltb i (suc w) (le_step (ltb-true i w (and_l (ltb i w) (f i) e)))) (and_r (ltb i w) (f i) e))
        (λ e.
        let s : w ≡ i = eqb-true w i (and_r (f w) (eqb w i) e) in
        and_i (ltb i (suc w)) (f i) (lt-ltb i (suc w) (omega arith)) (ap f (sym s) ∙ and_l (f w) (eqb w i) e))

    back : ltb i (suc w) && f i ≡ true → (ltb i w && f i) || (f w && eqb w i) ≡ true
    back h =
        let l = ltb-true i (suc w) (and_l (ltb i (suc w)) (f i) h) in
        let e = and_r (ltb i (suc w)) (f i) h in
        ⊎_elim
        (λ s. ap (λ (t : Bool). (ltb i w && f i) || t) (and_i (f w) (eqb w i) (ap f (sym s) ∙ e) (eq-eqb w i (sym s))) ∙ or-true (ltb i w && f i))
        (λ k. ap (λ (t : Bool). t || (f w && eqb w i)) (and_i (ltb i w) (f i) (lt-ltb i w k) e))
        (eq-or-lt_of_le (le_of_suc-le-suc l))

pub set_of_lt : (w : ℕ) (f : ℕ → Bool) → set_of w f < 2 ^ w
set_of_lt w f = members_lt w (set_of w f) (λ i e. ltb-true i w (and_l (ltb i w) (f i) (sym (has-set_of w f i) ∙ e)))

pub has-set_of_in : (w : ℕ) (f : ℕ → Bool) (i : ℕ) → i < w → has (set_of w f) i ≡ f i
has-set_of_in w f i h = has-set_of w f i ∙ ap (λ (t : Bool). t && f i) (lt-ltb i w h)

-- a set with these members
pub set_of_ext : (w m : ℕ) (f : ℕ → Bool) → m < 2 ^ w → ((i : ℕ) → i < w → has m i ≡ f i) → m ≡ set_of w f
set_of_ext w m f h e = ext w m (set_of w f) h (set_of_lt w f) (λ i l. e i l ∙ sym (has-set_of_in w f i l))

pub set_of_cong : (w : ℕ) (f g : ℕ → Bool) → ((i : ℕ) → i < w → f i ≡ g i) → set_of w f ≡ set_of w g
set_of_cong w f g h = set_of_ext w (set_of w f) g (set_of_lt w f) (λ i l. has-set_of_in w f i l ∙ h i l)

-- a loop puts the next one in, or not
pub set_of_more : (w : ℕ) (f : ℕ → Bool) → set_of (suc w) f ≡ cond (f w) (union (set_of w f) (single w)) (set_of w f)
unfolding set_of
set_of_more w f = refl
