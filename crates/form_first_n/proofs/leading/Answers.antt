use native.Mathlib.Omega.{arith}
use mathlib.Core.Path.{ap₂, ◌∙◌}
use Prim.Native.Nat.{◌<◌}
use lib.Seq.{length-take-le}
use Rattle.std.proofs.lemmas.List.{get_or-take}
use Rattle.sets.specs.Sets.{union}
use Rattle.form_first_n.proofs.Candidates.{leading-none, leading_more}
use Rattle.form_first_n.proofs.leading.Goals as goal

pub loop-before-init : goal.loop-before-init
loop-before-init c = leading-none _

pub loop-before-preserved : goal.loop-before-preserved
loop-before-preserved c =
    let l = c.loop-before in
    let p = c.args.prior.now in
    let below : l.before-index < c.args.n = omega (arith, length-take-le c.args.n p) in
    c.union-set.ensures ∙ ap₂ union l.invariant (get_or-take c.args.n p l.before-index 0 below) ∙ leading_more _ _
