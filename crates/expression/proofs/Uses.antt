-- Expressions that use each of the goals 1 to n once, and forms over all of these goals.
use mathlib.Core.Path.{◌≡◌, refl, sym, ap, ◌∙◌, subst}
use mathlib.Core.Bool.{Bool, true, false, ◌&&◌, cond, false≢true}
use mathlib.Core.Logic.{⊎_elim, ◌↔◌}
use Prim.Native.Nat.{ℕ, ◌≤◌}
use native.Mathlib.Omega.{arith}
use lib.Dec.{leb}
use borrow.Author.Tests.{leb-true, le-leb}
use Rattle.expression.specs.Expr.{Expr, times, Once, UsesOnce, Goals, Matches, HouseForm}
use Rattle.expression.proofs.Fits.{In, Fits}
use Rattle.logic.proofs.Bools.{test, and-true, cond_le}
use Rattle.expression.proofs.Exists.{Form, form-set}
use Rattle.expression.proofs.Spec.{in_times, times_in, fits-once, fits-before, before-fits}

-- ---- the numbers from 1 to n
pub in_range : (n i : ℕ) → Goals n i → (leb 1 i && leb i n) ≡ true
in_range n i (h, g) = subst (λ b. (b && leb i n) ≡ true) (sym (le-leb 1 i h)) (le-leb i n g)

of_range : (n i : ℕ) → (leb 1 i && leb i n) ≡ true → Goals n i
of_range n i h = let t = and-true (leb 1 i) (leb i n) h in (leb-true 1 i t.0, leb-true i n t.1)

module _ (n : ℕ) (e : Expr) where
  pub uses_once : UsesOnce n e → Once e
  uses_once u i = omega (arith, u i, cond_le (leb 1 i && leb i n))

  pub uses_in : UsesOnce n e → (i : ℕ) → In i e → Goals n i
  uses_in u i p =
      ⊎_elim (λ t. of_range n i t) (λ t. absurd (omega (arith, in_times e i p, u i ∙ ap (λ b. cond b 1 0) t)))
      (test (leb 1 i && leb i n))

  pub in_uses : UsesOnce n e → (i : ℕ) → Goals n i → In i e
  in_uses u i h = times_in e i (omega (arith, u i ∙ ap (λ b. cond b 1 0) (in_range n i h)))

  -- the other way
  pub of_in : Once e → ((i : ℕ) → In i e ↔ Goals n i) → UsesOnce n e
  of_in o c i = ⊎_elim inside outside (test (leb 1 i && leb i n))
    where
      inside : (leb 1 i && leb i n) ≡ true → times e i ≡ cond (leb 1 i && leb i n) 1 0
      inside t =
          let h : times e i ≡ 1 = omega (arith, o i, in_times e i ((c i).1 (of_range n i t))) in
          h ∙ ap (λ b. cond b 1 0) (sym t)

      outside : (leb 1 i && leb i n) ≡ false → times e i ≡ cond (leb 1 i && leb i n) 1 0
      outside t =
          let k : (1 ≤ times e i) → ⊥
          = λ h. false≢true (sym t ∙ in_range n i ((c i).0 (times_in e i h))) in
          let h : times e i ≡ 0 = omega arith in
          h ∙ ap (λ b. cond b 1 0) (sym t)

-- an expression that uses 1 to n once and has the order R fits R
pub order-fits : (R : ℕ → ℕ → Bool) (n : ℕ) (e : Expr) → UsesOnce n e → Matches R n e → Fits R e
order-fits R n e u h = before-fits R e (uses_once n e u) (λ i j p q. h i j (uses_in n e u i p) (uses_in n e u j q))

-- a house form of the order R is a form over all goals, and the other way round
module _ (R : ℕ → ℕ → Bool) (n : ℕ) (e : Expr) where
  pub house_form : HouseForm R n e → Form R (Goals n) e
  house_form f =
      record {
        covers = λ i. (uses_in n e f.uses i, in_uses n e f.uses i);
        fits = order-fits R n e f.uses f.order;
        house = f.house;
      }

  pub form_house : Form R (Goals n) e → HouseForm R n e
  form_house f =
      record {
        uses = of_in n e (fits-once R e f.fits) f.covers;
        order = λ i j p q. fits-before R e f.fits i j ((f.covers i).1 p) ((f.covers j).1 q);
        house = f.house;
      }

  -- the test that all goals pass
  pub all_pass : Form R (λ i. Goals n i × (true ≡ true)) e → Form R (Goals n) e
  all_pass f = form-set (λ i. (λ p. p.0, λ p. (p, refl))) f
