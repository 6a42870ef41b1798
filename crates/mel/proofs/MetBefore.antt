-- The variables met before a stage: those of the head and of the goals before it. Each stage has more of them than the stage before it, and its ground checks are of them.
use mathlib.Core.Path.{◌≡◌, sym, ap, ap₂, ◌∙◌}
use mathlib.Core.Logic.{⊎_elim}
use mathlib.Core.Bool.{Bool, true, false, ◌||◌}
use mathlib.Core.List.{List}
use Prim.Native.Nat.{ℕ, zero, suc, ◌≤◌, ◌<◌}
use native.Mathlib.Nat.{eq-or-lt_of_le, le_of_suc-le-suc, le_refl}
use native.Mathlib.Omega.{arith}
use Rattle.logic.proofs.Bools.{test, or_elim, or_l, or_r, or-false, is_false, clash}
use Rattle.sets.specs.Sets.{has, union}
use Rattle.sets.proofs.Members.{members_less}
use Rattle.sets.proofs.Membership.{has-union}
use Rattle.mel_stages.specs.Mel.{goal, occurs, start}
use Rattle.mel_stages.specs.Masks.{once}
use Rattle.mel_stages.specs.Plain.{Boundary, Twice}
use Rattle.mel_stages.proofs.Words.{occurs_out, occurs_in}
use Rattle.mel_stages.proofs.Masks.{has-once}
use Rattle.mel_stages.proofs.Stages.{start_is_largest}
use Rattle.mel.proofs.Sizes.{size}

module _ (head : ℕ) (sets : List ℕ) where
  abbrev pub before : ℕ → ℕ
  before p = union head (once sets 0 p)

  has-before : (p x : ℕ) → has (before p) x ≡ has head x || occurs sets 0 p x
  has-before p x = has-union head (once sets 0 p) x ∙ ap (λ (b : Bool). has head x || b) (has-once sets 0 p x)

  met-goal : (p x g : ℕ) → 0 < g → g ≤ p → has (goal sets g) x ≡ true → has (before p) x ≡ true
  met-goal p x g l u e = has-before p x ∙ or_r (has head x) (occurs sets 0 p x) (occurs_in sets 0 p x g l u e)

  unmet : (p x : ℕ) → has (before p) x ≡ false → (has head x ≡ false) × ((g : ℕ) → 0 < g → g ≤ p → has (goal sets g) x ≡ false)
  unmet p x e = (
    (or-false (has head x) (occurs sets 0 p x) (sym (has-before p x) ∙ e)).0,
    λ g l u. is_false (has (goal sets g) x) (λ t. clash (met-goal p x g l u t) e),
  )

  met_later : (r p x : ℕ) → r ≤ p → has (before r) x ≡ true → has (before p) x ≡ true
  met_later r p x h e =
      or_elim (has head x) (occurs sets 0 r x) (sym (has-before r x) ∙ e)
      (λ t. has-before p x ∙ or_l (has head x) (occurs sets 0 p x) t)
      (λ t. let s = occurs_out sets 0 r x t in met-goal p x s.g s.above (omega (arith, s.upto)) s.so)

  module _ (w : ℕ) where
    -- the variable of a boundary is met by goal p and not earlier
    pub met_more : (q p r : ℕ) → r < p → Boundary w head sets q p → size w 0 (before r) < size w 0 (before p)
    met_more q p r l k =
        let x = k.x in
        members_less w 0 (before r) (before p) x (λ j e. met_later r p j (omega arith) e) (omega arith) (omega (arith, k.under))
        (has-before r x
        ∙ ap₂ ◌||◌ k.outside (is_false (occurs sets 0 r x) (λ t. let s = occurs_out sets 0 r x t in clash s.so (k.first s.g s.above (omega (arith, s.upto))))))
        (met-goal p x p (omega arith) (le_refl p) k.here)

    -- A variable in two goals of a stage was met before it: else the stage would start after the first of them.
    module _ (q x : ℕ) (under : x < w) where
      none_to : (t : ℕ) → t ≤ q → has (goal sets t) x ≡ true → has (before (start w head sets q)) x ≡ false
          → (m : ℕ) → m < t → (g : ℕ) → 0 < g → g ≤ m → has (goal sets g) x ≡ false
      none_to t u et e zero l g a b = absurd (omega arith)
      none_to t u et e (suc m) l g a b =
          let none = none_to t u et e m (omega arith) in
          ⊎_elim
          (λ s.
          is_false (has (goal sets g) x) (λ here.
          let n =
          start_is_largest w head sets q g a
          (record {
            x = x;
            under = under;
            outside = (unmet (start w head sets q) x e).0;
            here = here;
            first = λ j i o. none j i (omega arith);
            again = t;
            after = omega arith;
            upto = u;
            there = et;
          })
          in
          clash here ((unmet (start w head sets q) x e).1 g a n)))
          (λ o. none g a (le_of_suc-le-suc o))
          (eq-or-lt_of_le b)

      pub shared-met : Twice sets (start w head sets q) q x → has (before (start w head sets q)) x ≡ true
      shared-met k =
          ⊎_elim (λ e. e)
          (λ e. clash k.in_s (none_to k.t k.upto k.in_t e k.s k.order k.s (omega (arith, k.above)) (le_refl k.s)))
          (test (has (before (start w head sets q)) x))
