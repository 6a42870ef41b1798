-- The smallest goal of an expression.
use mathlib.Core.Path.{◌≡◌, refl, sym, subst}
use mathlib.Core.Logic.{◌⊎◌, inl, inr, ⊎_elim}
use Prim.Native.Nat.{ℕ, ◌≤◌, min}
use native.Mathlib.Decide.{dec_le}
use native.Mathlib.Omega.{arith}
use Rattle.expression.specs.Expr.{Expr, goal, join, Members, one, more, least, least_m}
use Rattle.expression.proofs.Fits.{In, InM}

min_is : (a b : ℕ) → (min a b ≡ a) ⊎ (min a b ≡ b)
min_is a b = go (dec_le a b)
  where
    go : Dec (a ≤ b) → (min a b ≡ a) ⊎ (min a b ≡ b)
    go (yes h) = inl (omega arith)
    go (no h) = inr (omega arith)

either : (a b : ℕ) (P Q : ℕ → Type 0) → P a → Q b → P (min a b) ⊎ Q (min a b)
either a b P Q p q = ⊎_elim (λ h. inl (subst P (sym h) p)) (λ h. inr (subst Q (sym h) q)) (min_is a b)

mutual
  pub least_in : (e : Expr) → In (least e) e
  least_in (goal g) = refl
  least_in (join k e ms) = either (least e) (least_m ms) (λ i. In i e) (λ i. InM i ms) (least_in e) (least_m_in ms)

  pub least_m_in : (ms : Members) → InM (least_m ms) ms
  least_m_in (one e) = least_in e
  least_m_in (more e ms) = either (least e) (least_m ms) (λ i. In i e) (λ i. InM i ms) (least_in e) (least_m_in ms)

mutual
  pub least_le : (e : Expr) (i : ℕ) → In i e → least e ≤ i
  least_le (goal g) i p = omega arith
  least_le (join k e ms) i (inl p) = omega (arith, least_le e i p)
  least_le (join k e ms) i (inr p) = omega (arith, least_m_le ms i p)

  pub least_m_le : (ms : Members) (i : ℕ) → InM i ms → least_m ms ≤ i
  least_m_le (one e) i p = least_le e i p
  least_m_le (more e ms) i (inl p) = omega (arith, least_le e i p)
  least_m_le (more e ms) i (inr p) = omega (arith, least_m_le ms i p)
