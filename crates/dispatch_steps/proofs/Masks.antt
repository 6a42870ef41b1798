-- The functions of a head's turn, by their definitions.
use mathlib.Core.Path.{◌≡◌, sym, ap, ◌∙◌}
use Prim.Native.Nat.{ℕ, suc, ◌+◌, ◌^◌, ◌<◌}
use native.Mathlib.Omega.{arith}
use Rattle.logic.proofs.Bools.{is_false}
use Rattle.sets.specs.Sets.{goal_limit, first}
use Rattle.sets.proofs.Membership.{first_member}
use Rattle.sets.proofs.Members.{first_in_lem}
use Rattle.graph.specs.Graph.{has_goal}
use Rattle.graph.proofs.Goals.{goal-none, lowest_least}
use Rattle.logic.specs.Quantifiers.{lowest}
use Rattle.logic.proofs.Lowest.{lowest_of, lowest-none}
use Rattle.dispatch_rule.specs.declared.Head.{Head}
use Rattle.dispatch_rule.specs.Rule.{idle}
use Rattle.dispatch_steps.specs.declared.Phase.{Phase}
use Rattle.dispatch_steps.specs.declared.Phase.TheVariants.{Look, Go, Rest, Idle}
use Rattle.dispatch_steps.specs.declared.Board.{Board}
use Rattle.dispatch_steps.specs.declared.Plan.{Plan}
use Rattle.dispatch_steps.specs.Steps.{look_of, go_of, turn_of, step_of, next_phase, second_of}

-- ---- the lowest goal of a set
pub lowest_empty : (w m : ℕ) → m ≡ 0 → lowest (has_goal m) w ≡ 0
lowest_empty w m e = lowest-none (has_goal m) w (λ i a. ap (λ (x : ℕ). has_goal x i) e ∙ goal-none i)

pub lowest-first : (w m : ℕ) → m < 2 ^ w → (m ≡ 0 → ⊥) → first w m + 1 ≡ lowest (has_goal m) w
lowest-first w m l e =
    let x = first w m in
    let u = first_in_lem w m l e in
    let z : x + 1 ≡ suc x = omega arith in
    z ∙ sym (lowest_of (has_goal m) w (suc x) (omega arith, omega arith) (first_member w m u) (λ i a b. is_false (has_goal m i) (λ h. omega (arith, lowest_least w m i h))))

-- ---- which turn it is
module _ (h : Head) (b : Board) (p : Plan) where
  turn_lem : (f : Phase) → b.phase ≡ f → step_of h b p ≡ turn_of f h b p
  unfolding step_of
  turn_lem f e = ap (λ x. turn_of x h b p) e

  pub step-goes : b.phase ≡ Go → step_of h b p ≡ go_of goal_limit h b p
  step-goes e = turn_lem Go e

  pub step-looks : b.phase ≡ Look → step_of h b p ≡ record { head = h; board = look_of goal_limit h b p }
  step-looks e = turn_lem Look e

  pub step-rests : b.phase ≡ Rest → step_of h b p ≡ record { head = h; board = b }
  step-rests e = turn_lem Rest e

  pub step-idles : b.phase ≡ Idle → step_of h b p ≡ record { head = idle; board = b }
  step-idles e = turn_lem Idle e

-- ---- between the two times
module _ (b : Board) where
  abbrev onward : Phase → Board
  onward f = record { phase = f; free = b.free; done = b.done }

  next_lem : (f : Phase) → b.phase ≡ f → second_of b ≡ onward (next_phase f)
  unfolding second_of
  next_lem f e = ap (λ x. onward (next_phase x)) e

  pub second_goes : b.phase ≡ Look → ◌≡◌ {A = Board} (record { phase = Go; free = b.free; done = b.done }) (second_of b)
  second_goes e = sym (next_lem Look e)

  pub second-rests : b.phase ≡ Rest → b ≡ second_of b
  second-rests e = sym (next_lem Rest e ∙ ap onward (sym e))

  pub second-idles : b.phase ≡ Idle → b ≡ second_of b
  second-idles e = sym (next_lem Idle e ∙ ap onward (sym e))
