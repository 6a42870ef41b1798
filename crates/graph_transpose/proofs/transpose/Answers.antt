use native.Mathlib.Omega.{arith}
use mathlib.Core.Path.{◌≡◌, ap, ◌∙◌, subst}
use Prim.Native.Nat.{ℕ, ◌<◌}
use lib.Seq.{length-take-le}
use Rattle.std.proofs.lemmas.List.{get_or-take}
use Rattle.graph_transpose.specs.Adding.{added}
use Rattle.graph_transpose.proofs.Turning.{Turned, turned_none, turned_more, turned-all}
use Rattle.graph_transpose.proofs.transpose.Goals as goal

pub loop-i-init : goal.loop-i-init
loop-i-init c = turned_none 32 c.args.rows.now

pub loop-i-preserved : goal.loop-i-preserved
loop-i-preserved c =
    let l = c.loop-i in
    let rows = c.args.rows.now in
    let below : l.i < c.args.n = omega (arith, length-take-le c.args.n rows) in
    let row = get_or-take c.args.n rows l.i 0 below in
    turned_more 32 rows l.i l.turned _ _ l.invariant c.single-one.ensures
    (c.add.ensures ∙ ap (λ (to : ℕ). added 32 to c.single-one.result l.turned) row)

pub returns : goal.returns
returns c =
    let l = c.loop-i in
    let rows = c.args.rows.now in
    let end : l.i ≡ c.args.n = omega (arith, length-take-le c.args.n rows) in
    turned-all 32 rows c.args.n l.turned c.requires.0 c.requires.1
    (subst (λ (k : ℕ). Turned 32 rows k l.turned) end l.invariant)
