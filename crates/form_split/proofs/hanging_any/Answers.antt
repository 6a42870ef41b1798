use borrow.Author.Rules.{rules}
use native.Mathlib.Omega.{arith}
use mathlib.Core.Path.{sym, subst}
use mathlib.Core.Logic.{inl}
use mathlib.Core.Path.{refl}
use Prim.Native.Nat.{◌^◌, ◌<◌}
use Rattle.sets.proofs.Members.{In, in_members}
use Rattle.form_split.proofs.Grow.{find_all, find_more, find_end}
use Rattle.form_split.proofs.hanging_any.Goals as goal

pub loop-i-init : goal.loop-i-init
loop-i-init c =
    let left : c.args.left < 2 ^ 32 = search rules in
    find_all left _ (rw c.into_iter-i-iterator.ensures.into_iter_gives c.members-i-items.ensures)

pub hanging-requires : goal.hanging-requires
hanging-requires c =
    let m = in_members 32 0 c.loop-i.i-iterator.rest c.in-Some.i (subst (In c.in-Some.i) (sym c.in-Some.ensures.steps) (inl refl)) in
    omega (arith, m.1)

pub loop-i-preserved : goal.loop-i-preserved
loop-i-preserved c = find_more c.loop-i.invariant c.in-Some.ensures.steps c.hanging.ensures c.union-all.ensures c.union-all.type_inv

pub returns : goal.returns
returns c = find_end c.loop-i.invariant c.in-None.ensures.steps.0
