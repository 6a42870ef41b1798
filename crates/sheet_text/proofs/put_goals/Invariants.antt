use mathlib.Core.Path.{◌≡◌}
use Rattle.buffer.specs.Text.{Wrote}
use Rattle.record_fields.specs.Fields.{place_after}
use Rattle.sheet_text.specs.Sheet.{goal_lines, goal_text}
use Rattle.sheet_text.proofs.put_goals.Given as goal

-- the lines of the first g goals are written, which end at `place` in the record
abbrev pub invariant-loop-g : goal.invariant-loop-g
invariant-loop-g l = Wrote (goal_lines (goal_text l.bytes) l.g) l.at l.initial.out l.o l.out × (l.place ≡ place_after l.bytes l.g)
