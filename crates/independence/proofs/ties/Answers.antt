use mathlib.Core.Path.{ap, ap₂, ◌∙◌}
use Prim.Native.Nat.{ℕ}
use Rattle.sets.specs.Sets.{union, without}
use Rattle.independence.proofs.Tied.{ties_masks}
use Rattle.independence.proofs.ties.Goals as goal

pub returns : goal.returns
returns c =
    let a = c.args in
    let loose = c.union.ensures ∙ ap (union a.free) c.apart-apart.ensures in
    let clear = c.union-clear.ensures ∙ ap (union a.grounded) (c.without.ensures ∙ ap (λ (m : ℕ). without m a.set) loose) in
    c.without-2.ensures ∙ ap₂ without c.below.ensures clear
    ∙ ties_masks a.grounded a.free a.listed.now 64 a.set c.ranges.grounded.fits c.ranges.free.fits
