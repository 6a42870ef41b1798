use Prim.Native.Nat.{◌+◌, ◌-◌, ◌*◌}
use mathlib.Core.Bool.{true, false}
use lib.ListN.{length}
use Rattle.expression_parser.proofs.Joins.{Looped}
use Rattle.expression_parser.proofs.+group_primary_sequence.Given as goal

-- What falls from call to call: three for each byte left, and a sequence asks a group, a group a primary at the same place.
abbrev pub decreases-group : goal.decreases-group
decreases-group l = (length l.text.now - l.start) * 3 + 1

abbrev pub decreases-primary : goal.decreases-primary
decreases-primary l = (length l.text.now - l.at) * 3

abbrev pub decreases-sequence : goal.decreases-sequence
decreases-sequence l = (length l.text.now - l.start) * 3 + 2

abbrev pub invariant-group-members : goal.invariant-group-members
invariant-group-members l = Looped 32 false l.text l.depth l.start l.at l.fn.rows l.set l.extra l.rows

abbrev pub decreases-group-members : goal.decreases-group-members
decreases-group-members l = length l.text - l.at

abbrev pub invariant-sequence-members : goal.invariant-sequence-members
invariant-sequence-members l = Looped 32 true l.text l.depth l.start l.at l.fn.rows l.set l.extra l.rows

abbrev pub decreases-sequence-members : goal.decreases-sequence-members
decreases-sequence-members l = length l.text - l.at
