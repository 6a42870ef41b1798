use Rattle.std.proofs.Common.{◌≡◌, ◌≤◌, length, drop}
use Rattle.case_lines.specs.Line.{past_fields}
use Rattle.case_lines.proofs.field_start.Given as goal

abbrev pub invariant-loop : goal.invariant-loop
invariant-loop l = (l.at ≤ length l.s) × (drop l.at l.s ≡ past_fields l.counter l.s)
