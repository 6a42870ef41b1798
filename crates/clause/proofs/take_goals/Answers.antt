use mathlib.Core.List.{List}
use Prim.Native.Nat.{ℕ, ◌+◌}
use mathlib.Core.Path.{◌≡◌, ap, ◌∙◌}
use native.Mathlib.Omega.{arith}
use Rattle.sets.specs.Sets.{goal_limit}
use Rattle.record_fields.specs.Fields as F
use Rattle.record_fields.specs.Facts.{ground_of, ticks_of, ground_at, ticks_at}
use Rattle.record_fields.proofs.Places.{place_turn}
use Rattle.record_fields.proofs.Facts.{length_between, length_moves}
use Rattle.record.proofs.Limits.{goal_there}
use Rattle.record.proofs.WellFormed.{fine_well_formed}
use Rattle.clause.proofs.GoalFacts as G
use Rattle.clause.proofs.take_goals.Goals as goal

pub whole_set-requires : goal.whole_set-requires
whole_set-requires c =
    let l = c.loop-g in
    let b = c.args.given.bytes.now in
    omega (arith, goal_there b (fine_well_formed b c.args.given.accepted) l.g (omega arith), length_between b (F.place_after b l.g))

pub loop-g-preserved : goal.loop-g-preserved
loop-g-preserved c =
    let l = c.loop-g in
    let b = c.args.given.bytes.now in
    let at = l.fixed + l.texts in
    let few = (fine_well_formed b c.args.given.accepted).goals_to in
    let i = l.invariant in
    let same = c.of-layout.ensures in
    let ground : c.whole_ground.result ≡ ground_of b at = c.whole_ground.ensures ∙ ap (λ (x : List ℕ). ground_of x at) same in
    let time : c.ticks_of.result ≡ ticks_of b at = c.ticks_of.ensures ∙ ap (λ (x : List ℕ). ticks_of x at) same in
    let text = c.from-length.ensures ∙ ap (F.byte b) (c.length_at.ensures.value ∙ ap (λ (x : List ℕ). F.length_at x at) same) in
    let start = c.text_at-fixed.ensures.value ∙ ap (λ (x : List ℕ). F.text_at x l.fixed) same in
    let end : c.text_at-fixed.result + (l.texts + c.from-length.result) ≡ F.goal_end b at = omega (arith, start, text, length_moves b l.fixed l.texts) in
    record {
      place = end ∙ place_turn b l.g at i.place;
      sets_are = G.facts_more goal_limit (F.goal_set b) l.g l.sets _ (omega arith) i.sets_are (c.whole_set.ensures ∙ G.set_here b l.g at i.place);
      grounds_are = G.facts_more goal_limit (ground_at b) l.g l.grounds _ (omega arith) i.grounds_are (ground ∙ G.ground_here b l.g at i.place);
      ticks_are = G.facts_more goal_limit (ticks_at b) l.g l.ticks _ (omega arith) i.ticks_are (time ∙ G.ticks_here b l.g at i.place);
    }
