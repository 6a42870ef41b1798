-- The goals that a head may have, as a set and by the rule.
use mathlib.Core.Path.{◌≡◌, refl, sym, ap, ap₂, ◌∙◌}
use mathlib.Core.Bool.{Bool, true, false, not, ◌&&◌, ◌||◌, cond, true≢false, and-true as and_yes, and-false as and_no}
use mathlib.Core.Logic.{⊎_elim}
use Prim.Native.Nat.{ℕ, zero, suc, ◌≤◌}
use native.Mathlib.Omega.{arith}
use lib.Dec.{eqb, leb}
use borrow.Author.Tests.{eq-eqb, ne_eqb, eqb-true, lt-ltb, le-leb}
use Rattle.logic.proofs.Bools.{iff, is_false, and_l}
use Rattle.sets.specs.Sets.{without, single}
use Rattle.sets.proofs.Membership.{has-single}
use Rattle.graph.specs.Graph.{has_goal}
use Rattle.graph.proofs.Goals.{goal-none, goal-without}
use Rattle.logic.specs.Quantifiers.{lowest}
use Rattle.schedule.specs.Range.{Goals}
use Rattle.logic.proofs.Lowest.{lowest_is, lowest_of, lowest-none}
use Rattle.dispatch_rule.specs.declared.Head.{Head}
use Rattle.dispatch_rule.specs.Rule.{ready, next, offer}
use Rattle.dispatch_steps.specs.declared.Board.{Board}
use Rattle.dispatch_steps.specs.declared.Plan.{Plan}
use Rattle.dispatch_steps.specs.Steps.{alone, of_goal, taking}

-- the set of one goal has it and nothing else
pub has-alone : (w x g : ℕ) → x ≤ w → has_goal (alone w x) g ≡ (eqb g x && leb 1 g)
has-alone w x zero u = sym (and_no (eqb 0 x))
has-alone w zero (suc j) u = goal-none (suc j) ∙ sym (ap (λ b. b && leb 1 (suc j)) (ne_eqb (suc j) 0 (λ e. omega arith)))
has-alone w (suc i) (suc j) u =
    ap (λ b. has_goal (cond b (single i) 0) (suc j)) (lt-ltb i w (omega arith))
    ∙ has-single i j
    ∙ iff (eqb i j) (eqb (suc j) (suc i)) (λ e. eq-eqb (suc j) (suc i) (ap suc (sym (eqb-true i j e)))) (λ e. eq-eqb i j (omega (arith, eqb-true (suc j) (suc i) e)))
    ∙ sym (ap (λ b. eqb (suc j) (suc i) && b) (le-leb 1 (suc j) (omega arith)) ∙ and_yes (eqb (suc j) (suc i)))

-- one more on a head
shift : (e b r x : Bool) → ((not e && not b) && r) && not x ≡ (not e && not (b || x)) && r
shift true b r x = refl
shift false true r x = refl
shift false false true true = refl
shift false false true false = refl
shift false false false true = refl
shift false false false false = refl

module _ {w : ℕ} (R : ℕ → ℕ → Bool) (n : ℕ) (t : ℕ → ℕ) (E : ℕ → Bool) (few : n ≤ w) where
  -- the goal can be taken, where B has the goals on a head
  abbrev pub can : (ℕ → Bool) → ℕ → Bool
  can B g = not (E g) && not (B g) && ready R n E g

  -- the set has the goals that can be taken
  pub record Free (B : ℕ → Bool) (set : ℕ) : Type 0 where
    pub inside : (g : ℕ) → has_goal set g ≡ true → Goals n g
    pub says : (g : ℕ) → Goals n g → has_goal set g ≡ can B g

  -- the plan has the ticks of the goals
  abbrev pub Planned : Plan → Type 0
  Planned p = (g : ℕ) → Goals n g → of_goal p.ticks g ≡ t g

  pub free_less : (B : ℕ → Bool) (set x : ℕ) → x ≤ w → Free B set → Free (λ g. B g || eqb g x) (without set (alone w x))
  free_less B set x u f =
      record {
        inside = λ g e. f.inside g (and_l (has_goal set g) (not (has_goal (alone w x) g)) (sym (goal-without set (alone w x) g) ∙ e));
        says =
            λ g a.
            goal-without set (alone w x) g
            ∙ ap₂ (λ y z. y && not z) (f.says g a) (has-alone w x g u ∙ (ap (λ y. eqb g x && y) (le-leb 1 g a.0) ∙ and_yes (eqb g x)))
            ∙ shift (E g) (B g) (ready R n E g) (eqb g x);
      }

  module _ (B : ℕ → Bool) (set : ℕ) (f : Free B set) where
    pub next_is : lowest (has_goal set) w ≡ next R n E B
    next_is =
        ⊎_elim
        (λ l.
        lowest_of (has_goal set) w (next R n E B) (l.inside.0, omega (arith, l.inside.1)) (f.says (next R n E B) l.inside ∙ l.passes)
        (λ i a b. f.says i (a, omega (arith, l.inside.1)) ∙ l.none_below i a b))
        (λ l.
        lowest-none (has_goal set) w
        (λ i a. is_false (has_goal set i) (λ h. let c = f.inside i h in true≢false (sym (sym (f.says i c) ∙ h) ∙ l.none i c)))
        ∙ sym l.zero_is)
        (lowest_is (can B) n)

    left_is : (p : Plan) → Planned p → of_goal p.ticks (next R n E B) ≡ cond (eqb (next R n E B) 0) 0 (t (next R n E B))
    left_is p q =
        ⊎_elim
        (λ l. q (next R n E B) l.inside ∙ sym (ap (λ b. cond b 0 (t (next R n E B))) (ne_eqb (next R n E B) 0 (λ e. omega (arith, l.inside.0)))))
        (λ l. ap (of_goal p.ticks) l.zero_is ∙ sym (ap (λ b. cond b 0 (t (next R n E B))) (eq-eqb (next R n E B) 0 l.zero_is)))
        (lowest_is (can B) n)

    -- an idle head takes what the rule offers
    pub taking_is : (h : Head) (b : Board) (p : Plan) → b.free ≡ set → Planned p → taking w h b p ≡ offer R n t E B h
    taking_is h b p e q =
        ap (λ (g : ℕ). cond (eqb h.goal 0) (record { goal = g; left = of_goal p.ticks g }) h) (ap (λ (m : ℕ). lowest (has_goal m) w) e ∙ next_is)
        ∙ ap (λ (l : ℕ). cond (eqb h.goal 0) (record { goal = next R n E B; left = l }) h) (left_is p q)
