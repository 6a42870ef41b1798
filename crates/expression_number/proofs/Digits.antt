-- A number of one digit or two: what its node tells, and one law for each way out of reading it.
use mathlib.Core.Path.{◌≡◌, refl, sym, ap, ◌∙◌, subst}
use mathlib.Core.Bool.{Bool, true, false, cond, or-false}
use mathlib.Core.List.{List}
use mathlib.Core.Option.{some}
use mathlib.Core.Logic.{◌⊎◌, inl, inr, ⊎_elim}
use Prim.Native.Nat.{ℕ, zero, suc, ◌+◌, ◌-◌, ◌*◌, ◌<◌, ◌≤◌}
use native.Mathlib.Omega.{arith}
use lib.Dec.{eqb, leb}
use lib.ListN.{length, get_or}
use borrow.Author.Tests.{eq-eqb, ne_eqb, eqb-true, eqb-false, leb-false}
use Rattle.std.specs.Prelude.{Ok}
use Rattle.logic.proofs.Bools.{test, by_test}
use Rattle.sets.specs.Sets.{has, single}
use Rattle.sets.proofs.Membership.{has_empty, has-single}
use Rattle.graph.specs.Graph.{behind, Words}
use Rattle.expression.specs.Expr.{goal, times, stands}
use Rattle.expression_grammar.specs.Reader.{Sign, digit, joiner, opener, closer, other, sign, Front, Level, due, begun, done, state, goes, starts, grows}
use Rattle.expression_grammar.proofs.Signs.{Is, sign_is, sign_digit}
use Rattle.expression_grammar.proofs.Places.{byte_inside}
use Rattle.expression_number.specs.declared.Kind.TheVariants.{Goal}
use Rattle.expression_number.specs.Nodes.{mask_of, extra_of, found, bit, Told, Comes, Numbered}
use Rattle.expression_number.proofs.Runs.{takes, alike}

-- ---- what its node tells
told_goal : (w v : ℕ) (rows : List ℕ) → 1 ≤ v → Words w rows → Told w (goal v) rows Goal (mask_of w v) (extra_of w v) rows
told_goal w v rows lo ws =
    record {
      kinds = refl;
      stand = λ i h. by_test (λ m. has m i ≡ stands (goal v) (suc i)) (leb v w) (λ t. small i) (λ t. large i h (leb-false v w t));
      once = λ z u. once (test (leb v w)) z u;
      order = λ i j h k. sym (or-false (behind rows (suc i) (suc j)));
      words = ws;
    }
  where
    none-one : (b : Bool) → b ≡ leb 1 (cond b 1 0)
    none-one true = refl
    none-one false = refl

    same : (i : ℕ) → eqb (v - 1) i ≡ eqb (suc i) v
    same i = ⊎_elim
        (λ t. eq-eqb (v - 1) i (omega (arith, eqb-true (suc i) v t)) ∙ sym t)
        (λ t. ne_eqb (v - 1) i (λ e. eqb-false (suc i) v t (omega arith)) ∙ sym t)
        (test (eqb (suc i) v))

    small : (i : ℕ) → has (single (v - 1)) i ≡ stands (goal v) (suc i)
    small i = has-single (v - 1) i ∙ same i ∙ none-one (eqb (suc i) v)

    once : (leb v w ≡ true) ⊎ (leb v w ≡ false) → extra_of w v ≡ 0 → (u : ℕ) → times (goal v) u ≤ bit (mask_of w v) u
    once (inr t) z u = let one-zero : ◌≡◌ {A = ℕ} 1 0 = sym (ap (λ b. cond {A = ℕ} b 0 1) t) ∙ z in absurd (omega arith)
    once (inl t) z zero = let e : cond {A = ℕ} (eqb 0 v) 1 0 ≡ 0 = ap (λ b. cond {A = ℕ} b 1 0) (ne_eqb 0 v (λ q. omega arith)) in omega arith
    once (inl t) z (suc i) =
        let m : mask_of w v ≡ single (v - 1) = ap (λ b. cond {A = ℕ} b (single (v - 1)) 0) t in
        let e : cond {A = ℕ} (has (mask_of w v) i) 1 0 ≡ cond (eqb (suc i) v) 1 0 = ap (λ b. cond {A = ℕ} b 1 0) (ap (λ z. has z i) m ∙ has-single (v - 1) i ∙ same i) in
        omega arith

    large : (i : ℕ) → i < w → w < v → has 0 i ≡ stands (goal v) (suc i)
    large i h lt = has_empty i ∙ sym (ne_eqb (suc i) v (λ e. omega arith)) ∙ none-one (eqb (suc i) v)

-- ---- the way over its digits
starts_digit : (d : ℕ) (os : List Level) (g f : Front) (v : ℕ) → 1 ≤ v → starts d os g f (digit v) ≡ some (state d os g f (begun v))
starts_digit d os g f zero lo = absurd (omega arith)
starts_digit d os g f (suc v) lo = refl

ends-number : (d : ℕ) (os : List Level) (g f : Front) (v b : ℕ) (c : Sign) → Is c b → (b < 48) ⊎ (57 < b) → grows d os g f v c ≡ goes d os g f (goal v) c
ends-number d os g f v b (digit w) i r = absurd (⊎_elim (λ h. omega (arith, i.0)) (λ h. omega (arith, i.0)) r)
ends-number d os g f v b (joiner true) i r = refl
ends-number d os g f v b (joiner false) i r = refl
ends-number d os g f v b opener i r = refl
ends-number d os g f v b closer i r = refl
ends-number d os g f v b other i r = refl

module _ (w : ℕ) (s : List ℕ) (a : ℕ) where
  begins : (v : ℕ) → 1 ≤ v → v < 10 → get_or s a 0 ≡ 48 + v → (d : ℕ) (os : List Level) (g f : Front) → Comes s a (state d os g f due) (a + 1) (state d os g f (begun v))
  begins v lo hi b d os g f =
      takes s a (48 + v) (state d os g f due) (state d os g f (begun v)) (omega arith) b (ap (λ c. starts d os g f c) (sign_digit v hi) ∙ starts_digit d os g f v lo)

  -- one digit
  pub num_one : (v : ℕ) → 1 ≤ v → v < 10 → get_or s a 0 ≡ 48 + v → (get_or s (a + 1) 0 < 48) ⊎ (57 < get_or s (a + 1) 0) → Numbered w s a (Ok (found w v (a + 1)))
  num_one v lo hi b n depth rows ws =
      let lt : a < length s = byte_inside s a (48 + v) (omega arith) b in (
        goal v,
        omega arith,
        omega arith,
        tt,
        told_goal w v rows lo ws,
        λ d os g f p. begins v lo hi b d os g f
            ∙ alike s (a + 1) (state d os g f (begun v)) (state d os g f (done (goal v)))
            (ends-number d os g f v (get_or s (a + 1) 0) (sign (get_or s (a + 1) 0)) (sign_is (get_or s (a + 1) 0)) n) refl,
      )

  -- two digits
  pub num_two : (v u : ℕ) → 1 ≤ v → v < 10 → u < 10 → get_or s a 0 ≡ 48 + v → get_or s (a + 1) 0 ≡ 48 + u → Numbered w s a (Ok (found w (10 * v + u) (a + 2)))
  num_two v u lo hi hu b c depth rows ws =
      let lt : a + 1 < length s = byte_inside s (a + 1) (48 + u) (omega arith) c in
      let two : a + 1 + 1 ≡ a + 2 = omega arith in (
        goal (10 * v + u),
        omega arith,
        omega arith,
        tt,
        told_goal w (10 * v + u) rows (omega arith) ws,
        λ d os g f p. begins v lo hi b d os g f
            ∙ subst (λ z. Comes s (a + 1) (state d os g f (begun v)) z (state d os g f (done (goal (10 * v + u))))) two
            (takes s (a + 1) (48 + u) (state d os g f (begun v)) (state d os g f (done (goal (10 * v + u)))) (omega arith) c (ap (λ z. grows d os g f v z) (sign_digit u hu))),
      )
