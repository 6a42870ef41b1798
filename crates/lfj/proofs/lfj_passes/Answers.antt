use mathlib.Core.Path.{◌∙◌}
use Rattle.lfj.proofs.After.{was_accepted, passes-refused, passes-fine}
use Rattle.lfj.proofs.lfj_passes.Goals as goal

pub returns-in-Err : goal.returns-in-Err
returns-in-Err c = passes-refused _ _ c.order-answer.ensures.reading_value c.in-Err.is c.refused.ensures

pub returns-in-Ok : goal.returns-in-Ok
returns-in-Ok c =
    let e = c.order-answer.ensures in
    c.from.ensures ∙ passes-fine _ (was_accepted _ e.reading_value c.in-Ok.is).0 e.passes_value
