use mathlib.Core.Path.{◌≡◌}
use Rattle.logic.specs.Table.{table}
use Rattle.graph_transpose.specs.Adding.{row_added}
use Rattle.graph_transpose.proofs.add.Given as goal

abbrev pub invariant-loop-j : goal.invariant-loop-j
invariant-loop-j l = l.next ≡ table 32 l.j (row_added l.to l.one l.row-items)
