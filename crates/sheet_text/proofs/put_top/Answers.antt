use mathlib.Core.Path.{ap}
use Prim.Native.Nat.{ℕ, ◌≤◌, ◌<◌, ◌^◌}
use native.Mathlib.Omega.{arith}
use native.Mathlib.Nat.{le_refl}
use lib.ListN.{length}
use Rattle.record.proofs.WellFormed.{fine_well_formed}
use Rattle.buffer.proofs.Writing.{then, recast}
use Rattle.sheet_text.specs.Parts.{count_line}
use Rattle.sheet_text.proofs.Lines.{digits, count-length, goals-length}
use Rattle.sheet_text.proofs.Forms.{form_limit_lem}
use Rattle.sheet_text.proofs.Sheet.{top-parts}
use Rattle.sheet_text.proofs.put_top.Goals as goal

-- the first line has at most 27 bytes
first-line : (n : ℕ) → n < 2 ^ 64 → length (count_line n) ≤ 27
first-line n h = omega (arith, count-length n, digits n h)

pub put_count-o-requires : goal.put_count-o-requires
put_count-o-requires c = omega (arith, first-line c.goal_count-goals.result (omega (arith, c.goal_count-goals.ensures.upper_bound)))

pub put_goals-o-requires : goal.put_goals-o-requires
put_goals-o-requires c =
    omega (arith, first-line c.goal_count-goals.result (omega (arith, c.goal_count-goals.ensures.upper_bound)), c.put_count-o.ensures.place)

pub put_form-o-requires : goal.put_form-o-requires
put_form-o-requires c =
    let w = fine_well_formed _ c.args.given.accepted in
    omega (
      arith,
      first-line c.goal_count-goals.result (omega (arith, c.goal_count-goals.ensures.upper_bound)),
      c.put_count-o.ensures.place,
      c.put_goals-o.ensures.place,
      goals-length _ w _ (le_refl _),
      w.goals_to,
    )

pub put_bytes-requires : goal.put_bytes-requires
put_bytes-requires c =
    let w = fine_well_formed _ c.args.given.accepted in
    omega (
      arith,
      first-line c.goal_count-goals.result (omega (arith, c.goal_count-goals.ensures.upper_bound)),
      c.put_count-o.ensures.place,
      c.put_goals-o.ensures.place,
      c.put_form-o.ensures.place,
      goals-length _ w _ (le_refl _),
      w.goals_to,
      form_limit_lem _ w,
    )

pub returns : goal.returns
returns c =
    let n = c.goal_count-goals.ensures.value in
    recast (top-parts _)
    (then (then (then (recast (ap count_line n) c.put_count-o.ensures) c.put_goals-o.ensures) c.put_form-o.ensures) c.put_bytes.ensures)
