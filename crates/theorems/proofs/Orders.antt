-- The two orders that the check compares, in words.
--     just_one_is   the tests of the two orders differ exactly if just one of the orders has i before j
--     first_is      the first difference that `first_differ` of `expression_grammar` finds is the first in words
--     order_is      to have the record's order, by the tests and in words
use mathlib.Core.Path.{◌≡◌, refl, sym, ap, ◌∙◌}
use mathlib.Core.Bool.{true, false, true≢false}
use mathlib.Core.List.{List}
use mathlib.Core.Option.{Option, none, some}
use mathlib.Core.Logic.{◌⊎◌, inl, inr, ⊎_elim, dite, ◌↔◌}
use Prim.Native.Nat.{ℕ, ◌<◌, ◌≤◌}
use native.Mathlib.Decide.{dec_lt}
use native.Mathlib.Omega.{arith}
use Rattle.logic.proofs.Bools.{test}
use Rattle.record_fields.specs.Fields.{goal_count}
use Rattle.expression.specs.Expr as E
use Rattle.expression.specs.Expr.{Expr, UsesOnce}
use Rattle.expression.specs.Induced as I
use Rattle.expression.proofs.Theorems.{before_is, has-order_is, uses_once}
use Rattle.order.specs.Order as O
use Rattle.order.proofs.Theorems as O'
use Rattle.form.specs.Demand.{HasOrder}
use Rattle.expression_grammar.specs.Check.{first_differ}
use Rattle.expression_grammar.proofs.Differences as D
use Rattle.theorems.specs.Check.{JustOne, FirstDifference}

-- two first pairs are one
same_first : {i j p q : ℕ} → (i < p) ⊎ ((i ≡ p) × (j ≤ q)) → (p < i) ⊎ ((p ≡ i) × (q ≤ j)) → (i ≡ p) × (j ≡ q)
same_first (inl a) (inl b) = absurd (omega arith)
same_first (inl a) (inr b) = absurd (omega (arith, b.0))
same_first (inr a) (inl b) = absurd (omega (arith, a.0))
same_first (inr a) (inr b) = (a.0, omega (arith, a.1, b.1))

module _ (b : List ℕ) (e : Expr) (u : UsesOnce (goal_count b) e) where
  abbrev n : ℕ
  n = goal_count b

  induced : (i j : ℕ) → (E.before e i j ≡ true) ↔ I.Before e i j
  induced i j = before_is e (uses_once n e u) i j

  -- a test against what it says
  says_not : (i j : ℕ) → E.before e i j ≡ false → I.Before e i j → ⊥
  says_not i j f x = true≢false (sym ((induced i j).1 x) ∙ f)

  waits-not : (i j : ℕ) → O.before b i j ≡ false → O.Before b i j → ⊥
  waits-not i j f x = true≢false (sym ((O'.before_is b i j).1 x) ∙ f)

  pub just_one_is : (i j : ℕ) → (O.before b i j ≡ E.before e i j → ⊥) ↔ JustOne b e i j
  just_one_is i j = (
    λ h. ⊎_elim
        (λ r. ⊎_elim (λ s. absurd (h (r ∙ sym s))) (λ s. inr (says_not i j s, (O'.before_is b i j).0 r)) (test (E.before e i j)))
        (λ r. ⊎_elim (λ s. inl ((induced i j).0 s, waits-not i j r)) (λ s. absurd (h (r ∙ sym s))) (test (E.before e i j)))
        (test (O.before b i j)),
    λ x q. ⊎_elim (λ a. a.1 ((O'.before_is b i j).0 (q ∙ (induced i j).1 a.0))) (λ a. a.0 ((induced i j).0 (sym q ∙ (O'.before_is b i j).1 a.1))) x,
  )

  to_first : (i j : ℕ) → first_differ n (O.before b) (E.before e) ≡ some (i, j) → FirstDifference b e i j
  to_first i j h =
      let f = D.first_difference n (O.before b) (E.before e) i j h in
      record {
        goals = (f.in_i, f.in_j);
        just_one = (just_one_is i j).0 f.here;
        first = λ p q gp gq x.
            let differ = (just_one_is p q).1 x in
            dite (dec_lt i p) inl λ a.
            dite (dec_lt p i) (λ l. absurd (differ (f.rows_before p q gp.0 l gq))) λ c.
            let same : i ≡ p = omega arith in
            dite (dec_lt q j)
            (λ l. absurd (differ (ap (λ z. O.before b z q) (sym same) ∙ f.before-in_row q gq.0 l ∙ ap (λ z. E.before e z q) same)))
            (λ l. inr (same, omega arith));
      }

  pub first_is : (i j : ℕ) → (first_differ n (O.before b) (E.before e) ≡ some (i, j)) ↔ FirstDifference b e i j
  first_is i j = (to_first i j, λ f. go f (first_differ n (O.before b) (E.before e)) refl)
    where
      go : FirstDifference b e i j → (o : Option (ℕ × ℕ)) → first_differ n (O.before b) (E.before e) ≡ o → first_differ n (O.before b) (E.before e) ≡ some (i, j)
      go f none h =
          absurd ((just_one_is i j).1 f.just_one (sym ((D.same-order n (O.before b) (E.before e)).0 h i j f.goals.0 f.goals.1)))
      go f (some (p, q)) h =
          let g = to_first p q h in
          let same = same_first (g.first i j f.goals.0 f.goals.1 f.just_one) (f.first p q g.goals.0 g.goals.1 g.just_one) in
          let x = same.0 in
          let y = same.1 in
          h ∙ cc

  pub order_is : E.Matches (O.before b) n e ↔ HasOrder b e
  order_is =
      let h = has-order_is (O.before b) n e u in (
        λ a i j p q. (λ x. (O'.before_is b i j).0 ((h.0 a i j p q).0 x), λ x. (h.0 a i j p q).1 ((O'.before_is b i j).1 x)),
        λ a. h.1 (λ i j p q. (λ x. (O'.before_is b i j).1 ((a i j p q).0 x), λ x. (a i j p q).1 ((O'.before_is b i j).0 x))),
      )
