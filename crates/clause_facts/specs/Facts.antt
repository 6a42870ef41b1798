-- What is lent to be filled whole with a fact of the clause.
use Rattle.std.specs.Prelude.{List, ℕ}
use Rattle.record_rules.specs.Outcome.{accepted, read_then, values}

-- afterwards it is x; with a refusal of reading, which is the only kind here, it is as it was
unfoldable pub filled : {A : Type 0} → List ℕ → A → A → A
filled b x was = (values was (read_then b (accepted x))).value
