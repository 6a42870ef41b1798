-- How many members of a set are among the k numbers from i on.
use mathlib.Core.Path.{◌≡◌, ap₂, ◌∙◌}
use mathlib.Core.Logic.{⊎_elim}
use mathlib.Core.Bool.{Bool, true, false, not, ◌&&◌, cond}
use Prim.Native.Nat.{ℕ, zero, suc, ◌+◌, ◌≤◌, ◌<◌, zero-le}
use native.Mathlib.Nat.{eq-or-lt_of_le}
use native.Mathlib.Omega.{arith}
use lib.ListN.{length}
use Rattle.logic.proofs.Bools.{and_i, not-i, cond_mono}
use Rattle.sets.specs.Sets.{has, meet, without, members_from}
use Rattle.sets.proofs.Membership.{has_meet, has-without}
use Rattle.sets.proofs.Members.{size_step}

abbrev pub size : ℕ → ℕ → ℕ → ℕ
size k i m = length (members_from k i m)

pub size_in_lem : (k i m : ℕ) → has m i ≡ true → size (suc k) i m ≡ suc (size k (suc i) m)
size_in_lem k i m e = omega (arith, rw e at (size_step k i m))

pub size_out : (k i m : ℕ) → has m i ≡ false → size (suc k) i m ≡ size k (suc i) m
size_out k i m e = omega (arith, rw e at (size_step k i m))

-- a set without members below j has all of them from j on
pub size_top : (n i k j m : ℕ) → i ≤ j → i + n ≡ j + k → ((x : ℕ) → x < j → has m x ≡ false) → size n i m ≤ size k j m
unfolding members_from
size_top zero i k j m l e none = zero-le
size_top (suc n) i k j m l e none =
    ⊎_elim
    (λ s. let c : suc n ≡ k = omega arith in omega (arith, ap₂ (λ (a b : ℕ). size a b m) c s))
    (λ g. omega (arith, size_out n i m (none i g), size_top n (suc i) k j m g (omega arith) none))
    (eq-or-lt_of_le l)

-- the members of a that are in b, and those that are not
pub size_split : (k i a b : ℕ) → size k i (meet a b) + size k i (without a b) ≡ size k i a
unfolding members_from
size_split zero i a b = omega arith
size_split (suc k) i a b =
    omega (
      arith,
      size_step k i (meet a b),
      size_step k i (without a b),
      size_step k i a,
      ap₂ (λ (s t : Bool). cond s 1 0 + cond t 1 0) (has_meet a b i) (has-without a b i) ∙ parts (has a i) (has b i),
      size_split k (suc i) a b,
    )
  where
    parts : (s t : Bool) → cond (s && t) 1 0 + cond (s && not t) 1 0 ≡ cond s 1 0
    parts true true = omega arith
    parts true false = omega arith
    parts false t = omega arith

-- ---- sets compared

pub size_mono : (k i a b : ℕ) → ((x : ℕ) → i ≤ x → x < i + k → has a x ≡ true → has b x ≡ true) → size k i a ≤ size k i b
unfolding members_from
size_mono zero i a b h = zero-le
size_mono (suc k) i a b h =
    omega (
      arith,
      size_step k i a,
      size_step k i b,
      cond_mono (has a i) (has b i) (h i (omega arith) (omega arith)),
      size_mono k (suc i) a b (λ x l u. h x (omega arith) (omega arith)),
    )

-- two sets without a common member, in a third
pub size-apart : (k i a b m : ℕ) → ((x : ℕ) → i ≤ x → x < i + k → has a x ≡ true → has m x ≡ true) → ((x : ℕ) → i ≤ x → x < i + k → has b x ≡ true → has m x ≡ true)
    → ((x : ℕ) → has a x ≡ true → has b x ≡ true → ⊥) → size k i a + size k i b ≤ size k i m
size-apart k i a b m ha hb apart =
    omega (
      arith,
      size_split k i m a,
      size_mono k i a (meet m a) (λ x l u e. has_meet m a x ∙ and_i (has m x) (has a x) (ha x l u e) e),
      size_mono k i b (without m a) (λ x l u e. has-without m a x ∙ and_i (has m x) (not (has a x)) (hb x l u e) (not-i (has a x) (λ t. apart x t e))),
    )
