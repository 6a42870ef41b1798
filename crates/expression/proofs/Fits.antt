-- How an expression lies to a relation R on its goals, said by recursion on the expression. The theorems are proved about `Fits`; `Spec.antt` ties it to `times` and `before`.
use mathlib.Core.Path.{◌≡◌, refl, sym, ap₂, ◌∙◌, subst}
use mathlib.Core.Bool.{Bool, false, not, ◌||◌, or-false}
use mathlib.Core.Logic.{◌⊎◌, inl, inr, ◌≢◌}
use Prim.Native.Nat.{ℕ}
use Rattle.expression.specs.Expr.{Expr, goal, join, Members, one, more, NoJoin}
use Rattle.expression.specs.Split.{tie}
use Rattle.logic.proofs.Bools.{not_self}

-- i stands in e
abbrev mutual
  pub In : ℕ → Expr → Type 0
  In i (goal g) = i ≡ g
  In i (join k e ms) = In i e ⊎ InM i ms

  pub InM : ℕ → Members → Type 0
  InM i (one e) = In i e
  InM i (more e ms) = In i e ⊎ InM i ms

-- what R says of i and j that stand in two members of a join of the kind k, i in the earlier
pub record Apart (R : ℕ → ℕ → Bool) (k : Bool) (i j : ℕ) : Type 0 where
  pub differ : i ≢ j
  pub forth : R i j ≡ k
  pub back : R j i ≡ false

abbrev pub Cross : (ℕ → ℕ → Bool) → Bool → (ℕ → Type 0) → (ℕ → Type 0) → Type 0
Cross R k P Q = (i j : ℕ) → P i → Q j → Apart R k i j

-- no goal stands in e twice, and e induces R on its goals
abbrev mutual
  pub Fits : (ℕ → ℕ → Bool) → Expr → Type 0
  Fits R (goal g) = R g g ≡ false
  Fits R (join k e ms) = Fits R e × FitsM R k ms × Cross R k (λ i. In i e) (λ j. InM j ms)

  pub FitsM : (ℕ → ℕ → Bool) → Bool → Members → Type 0
  FitsM R k (one e) = Fits R e
  FitsM R k (more e ms) = Fits R e × FitsM R k ms × Cross R k (λ i. In i e) (λ j. InM j ms)

-- every expression has a goal
abbrev mutual
  pub first : Expr → ℕ
  first (goal g) = g
  first (join k e ms) = first e

  pub first_m : Members → ℕ
  first_m (one e) = first e
  first_m (more e ms) = first e

mutual
  pub first_in_lem : (e : Expr) → In (first e) e
  first_in_lem (goal g) = refl
  first_in_lem (join k e ms) = inl (first_in_lem e)

  pub first_m_in : (ms : Members) → InM (first_m ms) ms
  first_m_in (one e) = first_in_lem e
  first_m_in (more e ms) = inl (first_in_lem e)

module _ {R : ℕ → ℕ → Bool} {k : Bool} {i j : ℕ} where
  pub tie_of : Apart R k i j → tie R i j ≡ k
  tie_of h = ap₂ ◌||◌ h.forth h.back ∙ or-false k

  pub tie_back : Apart R k i j → tie R j i ≡ k
  tie_back h = ap₂ ◌||◌ h.back h.forth

-- Of two goals that are not as members of a k join are, either both stand in the first member or both in the others
module _ (R : ℕ → ℕ → Bool) {k : Bool} {P Q : ℕ → Type 0} (x : Cross R k P Q) {i j : ℕ} (t : tie R i j ≡ not k) where
  pub stay_in : P i → P j ⊎ Q j → P j
  stay_in p (inl q) = q
  stay_in p (inr q) = absurd (not_self k (sym (tie_of (x i j p q)) ∙ t))

  pub stay_out : Q i → P j ⊎ Q j → Q j
  stay_out p (inl q) = absurd (not_self k (sym (tie_back (x j i q p)) ∙ t))
  stay_out p (inr q) = q

-- An expression that is no join of the kind k cannot be split the k way: what holds of one of its goals and goes over to each goal that is not
-- k apart from one that has it, holds of all
pub connected : (R : ℕ → ℕ → Bool) (k : Bool) (e : Expr) → Fits R e → NoJoin k e → (P : ℕ → Type 0)
    → ((i j : ℕ) → In i e → In j e → tie R i j ≡ not k → P i → P j) → (i j : ℕ) → In i e → In j e → P i → P j
connected R k (goal g) f n P step i j p q h = subst P (p ∙ sym q) h
connected R k (join l e ms) f n P step i j p q h = via p q
  where
    -- from a goal of the one part to one of the other, and back
    over : (i j : ℕ) → In i e → InM j ms → P i → P j
    over i j p q = step i j (inl p) (inr q) (tie_of (f.2 i j p q) ∙ n)

    back : (i j : ℕ) → InM i ms → In j e → P i → P j
    back i j p q = step i j (inr p) (inl q) (tie_back (f.2 j i q p) ∙ n)

    via : In i e ⊎ InM i ms → In j e ⊎ InM j ms → P j
    via (inl p) (inl q) = back (first_m ms) j (first_m_in ms) q (over i (first_m ms) p (first_m_in ms) h)
    via (inl p) (inr q) = over i j p q h
    via (inr p) (inl q) = back i j p q h
    via (inr p) (inr q) = over (first e) j (first_in_lem e) q (back i (first e) p (first_in_lem e) h)
