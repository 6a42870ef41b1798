-- The answer of the search for the first N.
use Rattle.std.specs.Prelude.{Option, Some, None}
use Rattle.std.proofs.Math.Option as O
use Rattle.std.proofs.Math.Option.{none, some}
use Rattle.expression.specs.Search.{Four}
use Rattle.form_first_n.specs.declared.Four.{Four as Goals}

-- four goals
abbrev pub four : Goals → Four
four q = record { a = q.a; b = q.b; c = q.c; d = q.d }

-- the answer
abbrev pub found : Option Goals → O.Option Four
found None = none
found (Some q) = some (four q)
