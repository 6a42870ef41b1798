use mathlib.Core.Path.{sym, ◌∙◌}
use Rattle.record_rules.proofs.Fine.{header_stop}
use Rattle.record_header.proofs.HeaderSteps.{header_short}
use Rattle.record.proofs.read.Goals as goal
use Rattle.record.proofs.read.Goals.{then-size_fine+else-header_fine, else-size_fine}

pub returns : goal.returns
returns c =
    let b = c.args.b.now in
    c.header.ensures
    ∙ header_stop b (elim c.if-size_fine.branch [ then-size_fine+else-header_fine w ↦ sym w.header_fine.ensures ∙ w.if-header_fine.false | else-size_fine w ↦ sym (header_short b (sym c.size_fine.ensures ∙ w.if-size_fine.false)) ])
