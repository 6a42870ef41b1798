-- What the comparison of two orders says.
--     same-order           there is no first difference exactly if the orders agree on the goals 1 to n
--     first_difference     the first difference in words
--     differ_cong          orders that agree on the goals 1 to n differ alike
use mathlib.Core.Path.{◌≡◌, refl, sym, ap, ap₂, ◌∙◌, subst}
use mathlib.Core.Bool.{Bool, true, false, cond, beq, true≢false}
use mathlib.Core.Option.{Option, none, some}
use mathlib.Core.Logic.{⊎_elim, ◌↔◌}
use Prim.Native.Nat.{ℕ, ◌≤◌, ◌<◌}
use native.Mathlib.Omega.{arith}
use Rattle.expression.specs.Expr.{Goals}
use Rattle.expression.specs.Search.{first_in}
use Rattle.logic.proofs.Bools.{test, beq_true, beq_same}
use Rattle.expression.proofs.Search.{never, first-none, none_first, first_some, first_cong}
use Rattle.expression_grammar.specs.Check.{differ, first_differ}

-- ---- two orders that do not differ
differ-none : (R S : ℕ → ℕ → Bool) (i j : ℕ) → differ R S i j ≡ none → R i j ≡ S i j
differ-none R S i j h = ⊎_elim (λ t. beq_true (R i j) (S i j) t) (λ t. absurd (never (sym h ∙ ap (λ b. cond b none (some (i, j))) t))) (test (beq (R i j) (S i j)))

pub same-order : (n : ℕ) (R S : ℕ → ℕ → Bool) → (first_differ n R S ≡ none) ↔ ((i j : ℕ) → Goals n i → Goals n j → S i j ≡ R i j)
unfolding first_differ
same-order n R S = (
  λ h i j gi gj. sym (differ-none R S i j (first-none (λ j. differ R S i j) n 1 (first-none (λ i. first_in (λ j. differ R S i j) 1 n) n 1 h i gi.0 (omega arith)) j gj.0 (omega arith))),
  λ h. none_first (λ i. first_in (λ j. differ R S i j) 1 n) n 1 (λ i lo hi. none_first (λ j. differ R S i j) n 1 (λ j lo' hi'.
      ap (λ b. cond b none (some (i, j))) (beq_same (R i j) (S i j) (sym (h i j (lo, omega arith) (lo', omega arith)))))),
)

pub record FirstDifference (n : ℕ) (R S : ℕ → ℕ → Bool) (i j : ℕ) : Type 0 where
  pub in_i : Goals n i
  pub in_j : Goals n j
  pub here : R i j ≡ S i j → ⊥
  pub rows_before : (p q : ℕ) → 1 ≤ p → p < i → Goals n q → R p q ≡ S p q
  pub before-in_row : (q : ℕ) → 1 ≤ q → q < j → R i q ≡ S i q

differ_some : (R S : ℕ → ℕ → Bool) (a b i j : ℕ) → differ R S a b ≡ some (i, j) → (a ≡ i) × (b ≡ j) × (R a b ≡ S a b → ⊥)
differ_some R S a b i j h = go (beq (R a b) (S a b)) refl h
  where
    go : (c : Bool) → beq (R a b) (S a b) ≡ c → cond {A = Option (ℕ × ℕ)} c none (some (a, b)) ≡ some (i, j) → (a ≡ i) × (b ≡ j) × (R a b ≡ S a b → ⊥)
    go true t k = let z : ◌≡◌ {A = ℕ} 0 1 = cc in absurd (omega arith)
    go false t k =
        let pair : ◌≡◌ {A = ℕ × ℕ} (a, b) (i, j) = cc in
        (ap (λ z. z.0) pair, ap (λ z. z.1) pair, λ e. absurd (true≢false (sym (beq_same (R a b) (S a b) e) ∙ t)))

pub first_difference : (n : ℕ) (R S : ℕ → ℕ → Bool) (i j : ℕ) → first_differ n R S ≡ some (i, j) → FirstDifference n R S i j
unfolding first_differ
first_difference n R S i j h =
    let o = first_some (λ i. first_in (λ j. differ R S i j) 1 n) n 1 h in
    let u = first_some (λ b. differ R S o.0 b) n 1 o.3 in
    let d = differ_some R S o.0 u.0 i j u.3 in
    let ei = d.0 in
    let ej = d.1 in
    record {
      in_i = (omega (arith, o.1), omega (arith, o.2));
      in_j = (omega (arith, u.1), omega (arith, u.2));
      here = λ e. d.2 (subst (λ z. R z u.0 ≡ S z u.0) (sym ei) (subst (λ z. R i z ≡ S i z) (sym ej) e));
      rows_before = λ p q lo lt g. differ-none R S p q (first-none (λ b. differ R S p b) n 1 (o.4 p lo (omega arith)) q g.0 (omega (arith, g.1)));
      before-in_row = λ q lo lt. subst (λ z. R z q ≡ S z q) ei (differ-none R S o.0 q (u.4 q lo (omega arith)));
    }

-- ---- orders that agree
pub differ_cong : (n : ℕ) (R R' S S' : ℕ → ℕ → Bool) → ((i j : ℕ) → Goals n i → Goals n j → R i j ≡ R' i j) → ((i j : ℕ) → Goals n i → Goals n j → S i j ≡ S' i j)
    → first_differ n R S ≡ first_differ n R' S'
unfolding first_differ
differ_cong n R R' S S' r s =
    first_cong (λ i. first_in (λ j. differ R S i j) 1 n) (λ i. first_in (λ j. differ R' S' i j) 1 n) 1 n (λ i lo hi.
    first_cong (λ j. differ R S i j) (λ j. differ R' S' i j) 1 n (λ j lo' hi'.
    ap₂ (λ a b. cond {A = Option (ℕ × ℕ)} (beq a b) none (some (i, j))) (r i j (lo, omega arith) (lo', omega arith)) (s i j (lo, omega arith) (lo', omega arith))))
