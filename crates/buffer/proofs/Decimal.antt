-- Laws of decimal numbers: one digit, two, and a last digit after the others.
use mathlib.Core.Path.{◌≡◌, sym, ap, ◌∙◌}
use mathlib.Core.List.{List, [], ◌∷◌, ◌++◌}
use Prim.Native.Nat.{ℕ, zero, suc, ◌+◌, ◌/◌, ◌%◌, ◌^◌, ◌≤◌, ◌<◌}
use native.Mathlib.Nat.{mod-eq_of_lt, le_refl, pow-suc}
use native.Mathlib.Decide.{dec_lt}
use mathlib.Core.Logic.{dite}
use native.Mathlib.Omega.{arith}
use lib.ListN.{length, length-append}
use borrow.Author.Tests.{lt-ltb, le-ltb}
use Rattle.buffer.specs.Decimal.{decimal_to, decimal}

to_small : (k n : ℕ) → n < 10 → decimal_to k n ≡ (48 + n) ∷ []
unfolding decimal_to
to_small zero n h = rw (mod-eq_of_lt h)
to_small (suc k) n h = rw (lt-ltb n 10 h)

to_more : (k n : ℕ) → 10 ≤ n → decimal_to (suc k) n ≡ decimal_to k (n / 10) ++ ((48 + n % 10) ∷ [])
unfolding decimal_to
to_more k n h = rw (le-ltb n 10 h)

-- more room for digits changes nothing
to_any : (k l n : ℕ) → n ≤ k → n ≤ l → decimal_to k n ≡ decimal_to l n
to_any zero l n h g = to_small zero n (omega arith) ∙ sym (to_small l n (omega arith))
to_any (suc k) zero n h g = to_small (suc k) n (omega arith) ∙ sym (to_small zero n (omega arith))
to_any (suc k) (suc l) n h g =
    dite (dec_lt n 10) (λ t. to_small (suc k) n t ∙ sym (to_small (suc l) n t))
    (λ t.
    to_more k n (omega arith) ∙ ap (λ (f : List ℕ). f ++ ((48 + n % 10) ∷ [])) (to_any k l (n / 10) (omega arith) (omega arith))
    ∙ sym (to_more l n (omega arith)))

pub one_digit : (x : ℕ) → x < 10 → (48 + x) ∷ [] ≡ decimal x
unfolding decimal
one_digit x h = sym (to_small x x h)

pub last_digit : (n : ℕ) → 10 ≤ n → decimal (n / 10) ++ ((48 + n % 10) ∷ []) ≡ decimal n
unfolding decimal
last_digit zero h = absurd (omega arith)
last_digit (suc n) h =
    ap (λ (f : List ℕ). f ++ ((48 + suc n % 10) ∷ [])) (to_any (suc n / 10) n (suc n / 10) (le_refl (suc n / 10)) (omega arith)) ∙ sym (to_more n (suc n) h)

pub two_digits : (x : ℕ) → 10 ≤ x → x < 100 → ((48 + x / 10) ∷ []) ++ ((48 + x % 10) ∷ []) ≡ decimal x
two_digits x h l = ap (λ (f : List ℕ). f ++ ((48 + x % 10) ∷ [])) (one_digit (x / 10) (omega arith)) ∙ last_digit x h

-- no longer than the number of its digits allows
pub decimal-length : (d n : ℕ) → n < 10 ^ suc d → length (decimal n) ≤ suc d
decimal-length zero n h = omega (arith, ap length (one_digit n (omega arith)))
decimal-length (suc d) n h =
    dite (dec_lt n 10) (λ t. omega (arith, ap length (one_digit n t)))
    (λ t. omega (arith, simp length-append at (ap length (last_digit n (omega arith))), decimal-length d (n / 10) (omega (arith, pow-suc 10 (suc d)))))
