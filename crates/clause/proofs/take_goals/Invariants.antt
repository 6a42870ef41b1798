use Prim.Native.Nat.{◌+◌}
use mathlib.Core.Path.{◌≡◌}
use Rattle.sets.specs.Sets.{goal_limit}
use Rattle.record_fields.specs.Fields as F
use Rattle.record_fields.specs.Facts.{ground_at, ticks_at}
use Rattle.clause.proofs.GoalFacts as G
use Rattle.clause.proofs.take_goals.Given as goal

abbrev pub invariant-loop-g : goal.invariant-loop-g
invariant-loop-g l =
    record {
      place : l.fixed + l.texts ≡ F.place_after l.given.bytes.now l.g;
      sets_are : l.sets ≡ G.facts_after goal_limit (F.goal_set l.given.bytes.now) l.g;
      grounds_are : l.grounds ≡ G.facts_after goal_limit (ground_at l.given.bytes.now) l.g;
      ticks_are : l.ticks ≡ G.facts_after goal_limit (ticks_at l.given.bytes.now) l.g;
    }
