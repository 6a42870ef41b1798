use mathlib.Core.Path.{◌∙◌}
use Rattle.form.proofs.Theorems.{length_is}
use Rattle.form.proofs.length.Goals as goal

pub returns : goal.returns
returns c = let r = c.put.ensures in record { outcome = r.outcome ∙ length_is _; goals = r.goals }
