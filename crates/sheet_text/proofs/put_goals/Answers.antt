use mathlib.Core.Path.{ap, ◌∙◌}
use Prim.Native.Nat.{◌+◌, ◌≤◌, ◌<◌}
use native.Mathlib.Omega.{arith}
use lib.ListN.{length, length-append}
use Rattle.record.proofs.WellFormed.{fine_well_formed}
use Rattle.buffer.proofs.Writing.{then, recast}
use Rattle.record_fields.specs.Fields.{goal_count, goal_end}
use Rattle.record_fields.proofs.Places.{place_zero, place_turn}
use Rattle.sheet_text.proofs.Lines.{goals-none, goals-step, goals-length, goal-inside}
use Rattle.sheet_text.proofs.put_goals.Goals.{In-loop-g}
use Rattle.sheet_text.proofs.put_goals.Goals as goal

-- inside the loop: the goal's number is one of the record's
next-goal : (c : In-loop-g) → c.loop-g.g < goal_count c.args.given.bytes.now
next-goal c = omega (arith, c.goal_count-n.ensures.value, c.loop-g-test.true)

inside : (c : In-loop-g) → (goal_end c.args.given.bytes.now c.loop-g.place ≤ length c.args.given.bytes.now) × (c.loop-g.place ≤ 2048)
inside c = goal-inside _ (fine_well_formed _ c.args.given.accepted) c.loop-g.g _ c.loop-g.invariant.1 (next-goal c)

pub loop-g-init : goal.loop-g-init
loop-g-init c = (goals-none _ _ _, place_zero _)

pub text_at-start-requires : goal.text_at-start-requires
text_at-start-requires c = omega (arith, (inside (goal.at.text_at-start-requires c).In-loop-g).1)

pub goal_end-end-requires : goal.goal_end-end-requires
goal_end-end-requires c = omega (arith, (inside (goal.at.goal_end-end-requires c).In-loop-g).1)

pub slice_bounds-put_goal-end : goal.slice_bounds-put_goal-end
slice_bounds-put_goal-end c = omega (arith, (inside (goal.at.slice_bounds-put_goal-end c).In-loop-g).0, (rw c.of-layout.ensures at c.goal_end-end.ensures.value))

pub put_goal-o-requires : goal.put_goal-o-requires
put_goal-o-requires c =
    let b = c.args.given.bytes.now in
    omega (
      arith,
      simp length-append at (ap length (goals-step b c.loop-g.g _ _ _ c.loop-g.invariant.1 (rw c.of-layout.ensures at c.text_at-start.ensures.value) (rw c.of-layout.ensures at c.goal_end-end.ensures.value))),
      goals-length b (fine_well_formed _ c.args.given.accepted) (c.loop-g.g + 1) (omega (arith, next-goal (goal.at.put_goal-o-requires c).In-loop-g)),
      next-goal (goal.at.put_goal-o-requires c).In-loop-g,
      (fine_well_formed _ c.args.given.accepted).goals_to,
    )

pub loop-g-preserved : goal.loop-g-preserved
loop-g-preserved c =
    let b = c.args.given.bytes.now in
    let step = goals-step b c.loop-g.g _ _ _ c.loop-g.invariant.1 (rw c.of-layout.ensures at c.text_at-start.ensures.value) (rw c.of-layout.ensures at c.goal_end-end.ensures.value) in (
      recast step (then c.loop-g.invariant.0 c.put_goal-o.ensures),
      (rw c.of-layout.ensures at c.goal_end-end.ensures.value) ∙ place_turn b c.loop-g.g _ c.loop-g.invariant.1,
    )
