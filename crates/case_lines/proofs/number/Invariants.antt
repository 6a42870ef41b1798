use Rattle.std.proofs.Common.{◌≡◌, ◌<◌, ◌^◌, drop}
use Rattle.case_lines.specs.Line.{value_of}
use Rattle.case_lines.proofs.number.Given as goal

abbrev pub invariant-loop-b : goal.invariant-loop-b
invariant-loop-b l = (l.v < 2 ^ 32) × (value_of l.v (drop l.b-index l.s) ≡ value_of 0 l.s)
