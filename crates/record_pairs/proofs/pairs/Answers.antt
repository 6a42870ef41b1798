use Prim.Native.Nat.{◌≤◌, ◌+◌, ◌*◌}
use mathlib.Core.Path.{refl, sym, ◌∙◌}
use native.Mathlib.Omega.{arith}
use lib.ListN.{length}
use borrow.Author.Tests.{leb-true}
use Rattle.record_rules.proofs.Must.{must_holds}
use Rattle.record_pairs.proofs.PairTurns.{short, go, stop, last_turn}
use Rattle.record_pairs.proofs.pairs.Goals.{In_ok-ensure}
use Rattle.record_pairs.proofs.pairs.Goals as goal

whole : (c : In_ok-ensure) → c.args.from + 2 * c.loop-k.k + 2 ≤ length c.args.b.now
whole c = leb-true _ _ (must_holds _ _ 7 _ (sym c.ensure.ensures ∙ c.in_ok-ensure.was))

pub returns-in_err-ensure : goal.returns-in_err-ensure
returns-in_err-ensure c = let l = c.loop-k in
    let a = c.args in
    let e = short a.b.now a.from l.k c.requires.3 l.invariant.fine a.p _ c.loop-k-test.true (sym c.ensure.ensures ∙ c.in_err-ensure.was) in
    grind (arith, e)

pub bounds-b-at : goal.bounds-b-at
bounds-b-at c = let w = whole (goal.at.bounds-b-at c).In_ok-ensure in omega arith

pub bounds-b-at-in-loop-k : goal.bounds-b-at-in-loop-k
bounds-b-at-in-loop-k c = let w = whole (goal.at.bounds-b-at-in-loop-k c).In_ok-ensure in omega arith

pub returns-in_err-ensure-2 : goal.returns-in_err-ensure-2
returns-in_err-ensure-2 c = let l = c.loop-k in
    let a = c.args in
    let whole = sym c.ensure.ensures ∙ c.in_ok-ensure.was in
    let bad = sym c.ensure-in-loop-k.ensures ∙ c.in_err-ensure-2.was in
    let pair = simp (c.from.ensures, c.from-in-loop-k.ensures, c.from-in-loop-k-2.ensures, c.from-in-loop-k-3.ensures) at c.pair_fine-fine.ensures in
    let e = stop a.b.now a.from l.k c.requires.3 l.invariant.fine a.v _ _ l.last _ c.requires.2 refl refl c.from_be_bytes-key.ensures l.invariant.last_is whole _ pair a.p _ c.loop-k-test.true bad in
    grind (arith, e)

pub loop-k-preserved : goal.loop-k-preserved
loop-k-preserved c = let l = c.loop-k in
    let a = c.args in
    let whole = sym c.ensure.ensures ∙ c.in_ok-ensure.was in
    let good = sym c.ensure-in-loop-k.ensures ∙ c.in_ok-ensure-2.was in
    let pair = simp (c.from.ensures, c.from-in-loop-k.ensures, c.from-in-loop-k-2.ensures, c.from-in-loop-k-3.ensures) at c.pair_fine-fine.ensures in
    record {
      fine = go a.b.now a.from l.k c.requires.3 l.invariant.fine a.v _ _ l.last _ c.requires.2 refl refl c.from_be_bytes-key.ensures l.invariant.last_is whole _ pair good;
      last_is = c.from_be_bytes-key.ensures ∙ last_turn a.b.now a.from _ _ l.k c.requires.3 refl refl;
    }
