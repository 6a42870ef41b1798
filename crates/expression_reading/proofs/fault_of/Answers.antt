use mathlib.Core.Path.{◌∙◌}
use Rattle.expression_reading.proofs.Texts.{fault-none}
use Rattle.expression_reading.proofs.fault_of.Goals as goal

pub returns-then-set-below : goal.returns-then-set-below
returns-then-set-below c = fault-none 32 c.args.n c.requires.0 c.args.text.now _ _ c.requires.1 c.if-extra-eq0.true (c.if-set-below.true ∙ c.below.ensures)
