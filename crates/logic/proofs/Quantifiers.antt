-- What the bounded quantifiers say.
use mathlib.Core.Path.{◌≡◌, refl, sym, ap, ap₂, ◌∙◌}
use mathlib.Core.Logic.{⊎_elim}
use mathlib.Core.Bool.{Bool, true, false, ◌&&◌, ◌||◌, true≢false, false≢true}
use Prim.Native.Nat.{ℕ, zero, suc, ◌<◌}
use native.Mathlib.Nat.{eq-or-lt_of_le, le_of_suc-le-suc, not-suc-le-zero, le_step, lt-suc_self}
use native.Mathlib.Omega.{arith}
use Rattle.logic.specs.Quantifiers.{every, some_below}
use Rattle.logic.proofs.Bools.{and_l, and_r, and_i, and-false, or_elim, or_l, or_r}

pub every_out : (w : ℕ) (f : ℕ → Bool) → every w f ≡ true → (x : ℕ) → x < w → f x ≡ true
unfolding every
every_out zero f h x l = absurd (not-suc-le-zero l)
every_out (suc w) f h x l =
    ⊎_elim (λ e. ap f e ∙ and_r (every w f) (f w) h) (λ k. every_out w f (and_l (every w f) (f w) h) x k) (eq-or-lt_of_le (le_of_suc-le-suc l))

pub every_in : (w : ℕ) (f : ℕ → Bool) → ((x : ℕ) → x < w → f x ≡ true) → every w f ≡ true
unfolding every
every_in zero f h = refl
every_in (suc w) f h = and_i (every w f) (f w) (every_in w f (λ x l. h x (le_step l))) (h w (lt-suc_self w))

-- where it does not hold of every number, it fails for one
pub every-not : (w : ℕ) (f : ℕ → Bool) → every w f ≡ false → (x : ℕ) × (x < w) × (f x ≡ false)
unfolding every
every-not zero f h = absurd (true≢false h)
every-not (suc w) f h =
    ⊎_elim (λ u. let r = every-not w f u in (r.0, le_step r.1, r.2)) (λ u. (w, lt-suc_self w, u)) (and-false (every w f) (f w) h)

pub every_cong : (w : ℕ) (f g : ℕ → Bool) → ((x : ℕ) → x < w → f x ≡ g x) → every w f ≡ every w g
unfolding every
every_cong zero f g h = refl
every_cong (suc w) f g h = ap₂ ◌&&◌ (every_cong w f g (λ x l. h x (le_step l))) (h w (lt-suc_self w))

-- a number below w of which f holds
pub record Below (w : ℕ) (f : ℕ → Bool) : Type 0 where
  pub x : ℕ
  pub under : x < w
  pub so : f x ≡ true

pub below_out : (w : ℕ) (f : ℕ → Bool) → some_below w f ≡ true → Below w f
unfolding some_below
below_out zero f h = absurd (false≢true h)
below_out (suc w) f h =
    or_elim (some_below w f) (f w) h (λ e. let r = below_out w f e in record { x = r.x; under = le_step r.under; so = r.so })
    (λ e. record { x = w; under = lt-suc_self w; so = e })

pub below_in : (w : ℕ) (f : ℕ → Bool) (x : ℕ) → x < w → f x ≡ true → some_below w f ≡ true
unfolding some_below
below_in zero f x l e = absurd (omega arith)
below_in (suc w) f x l e =
    ⊎_elim (λ s. or_r (some_below w f) (f w) (ap f (sym s) ∙ e)) (λ k. or_l (some_below w f) (f w) (below_in w f x k e)) (eq-or-lt_of_le (le_of_suc-le-suc l))

pub some_cong : (w : ℕ) (f g : ℕ → Bool) → ((x : ℕ) → x < w → f x ≡ g x) → some_below w f ≡ some_below w g
unfolding some_below
some_cong zero f g h = refl
some_cong (suc w) f g h = ap₂ ◌||◌ (some_cong w f g (λ x l. h x (le_step l))) (h w (lt-suc_self w))
