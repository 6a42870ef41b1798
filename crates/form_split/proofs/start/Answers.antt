use borrow.Author.Rules.{rules}
use native.Mathlib.Omega.{arith}
use Prim.Native.Nat.{◌^◌, ◌<◌}
use Rattle.sets.specs.Sets.{count}
use Rattle.graph.proofs.Goals.{lowest_in}
use Rattle.form_split.proofs.Starting.{Tried, try_begin, try_step, step-under, tried}
use Rattle.form_split.proofs.start.Goals as goal

facts : (c : goal.After-earlier-before-in-loop-before) →
    let a = c.args in
    Tried a.prior.now a.k a.rest 32 c.first-x-in-loop-before.result c.earlier-before-in-loop-before.result × (count c.earlier-before-in-loop-before.result < count c.loop-before.before)
facts c =
    let l : c.args.rest < 2 ^ 32 = search rules in
    try_step _ _ _ 32 l c.requires.0 c.loop-before.invariant c.loop-before-test.true c.first-x-in-loop-before.ensures c.earlier-before-in-loop-before.ensures

pub earlier-before-requires : goal.earlier-before-requires
earlier-before-requires c =
    let l : c.args.rest < 2 ^ 32 = search rules in
    omega (arith, c.first-x.ensures, lowest_in 32 _ l c.requires.1.0 c.requires.1.1)

pub loop-before-init : goal.loop-before-init
loop-before-init c =
    let l : c.args.rest < 2 ^ 32 = search rules in
    try_begin _ _ _ 32 l c.requires.1 c.first-x.ensures c.earlier-before.ensures

pub earlier-before-requires-in-loop-before : goal.earlier-before-requires-in-loop-before
earlier-before-requires-in-loop-before c =
    let l : c.args.rest < 2 ^ 32 = search rules in
    omega (arith, c.first-x-in-loop-before.ensures, step-under _ _ _ 32 l c.requires.0 c.loop-before.invariant c.loop-before-test.true)

pub loop-before-smaller : goal.loop-before-smaller
loop-before-smaller c = (facts c).1

pub loop-before-preserved : goal.loop-before-preserved
loop-before-preserved c = (facts c).0

pub returns : goal.returns
returns c =
    let l : c.args.rest < 2 ^ 32 = search rules in
    let w = c.loop-before.invariant in
    (w.under, w.there, tried _ _ _ 32 l w c.loop-before-test.false)
