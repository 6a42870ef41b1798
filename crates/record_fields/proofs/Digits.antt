-- Numbers of several bytes.
use mathlib.Core.Path.{◌≡◌, refl}
use Prim.Native.Nat.{ℕ, ◌+◌, ◌*◌, ◌^◌, ◌≤◌, ◌<◌}
use native.Mathlib.Nat.{pow-le-pow_right, zero-lt-suc}
use native.Mathlib.Numerals.{add-one}
use native.Mathlib.Omega.{arith}
use mathlib.Core.List.{List}
use Rattle.record_fields.specs.Fields.{number, byte}

module _ (r x i : ℕ) (hr : r < 256 ^ i) (hx : x < 256) where
  pub step_fits : i < 8 → r * 256 + x < 2 ^ 64
  step_fits h = let p : 256 ^ i ≤ 256 ^ 7 = pow-le-pow_right (zero-lt-suc 255) {j = 7} (omega arith) in omega arith

  pub step_lt : r * 256 + x < 256 ^ (i + 1)
  step_lt = rw add-one (omega arith)

module _ (b : List ℕ) (at : ℕ) where
  pub number_zero : 0 ≡ number b at 0
  unfolding number
  number_zero = refl

  pub number_more : (k : ℕ) → number b at (k + 1) ≡ number b at k * 256 + byte b (at + k)
  unfolding number
  number_more k = rw add-one

  pub number_two : number b at 2 ≡ byte b at * 256 + byte b (at + 1)
  unfolding number
  number_two = let e : at + 0 ≡ at = omega arith in rw e (omega arith)

  pub number_eight : number b at 8
      ≡ byte b at * 0x100000000000000 + byte b (at + 1) * 0x1000000000000 + byte b (at + 2) * 0x10000000000 + byte b (at + 3) * 0x100000000
      + byte b (at + 4) * 0x1000000 + byte b (at + 5) * 0x10000 + byte b (at + 6) * 0x100 + byte b (at + 7)
  unfolding number
  number_eight = let e : at + 0 ≡ at = omega arith in rw e (omega arith)
