use mathlib.Core.Path.{ap, ◌∙◌}
use Rattle.sets.specs.Sets.{without, common}
use Rattle.independence.specs.ByRows as J
use Rattle.independence.proofs.apart.Goals as goal

pub returns : goal.returns
unfolding J.apart
returns c =
    let a = c.args in
    c.common.ensures ∙ ap (common a.listed.now 64) (c.without.ensures ∙ ap (without a.set) c.union-loose.ensures)
