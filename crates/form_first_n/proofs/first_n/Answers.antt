use native.Mathlib.Omega.{arith}
use mathlib.Core.Path.{◌≡◌, refl, sym, ap, ◌∙◌}
use mathlib.Core.Bool.{false}
use mathlib.Core.Option.{none}
use Prim.Native.Nat.{ℕ, suc, ◌<◌}
use Rattle.graph.specs.Graph.{ahead}
use Rattle.sets.specs.Sets.{has}
use Rattle.sets.proofs.Membership.{first_least}
use Rattle.form_first_n.specs.FirstN.{found}
use Rattle.form_first_n.specs.Candidates.{lasts}
use Rattle.form_first_n.proofs.Scan.{passed_more, passed_hit, passed_all, passed_skip, left-none, left_in, left-has, left-hit, left_more}
use Rattle.form_first_n.proofs.Loops.{at_d}
use Rattle.form_first_n.proofs.Candidates.{left-a, left-b, left_c, miss, hit}
use Rattle.form_first_n.proofs.first_n.Goals as goal
use Rattle.form_first_n.proofs.first_n.Goals.{In-Some, In-Some-b, In-Some-c, Then-has}

-- the goals that the loops are at
a_in : (c : In-Some) → c.in-Some.a < c.args.n
a_in c = left_in _ _ _ c.found.invariant.1 c.in-Some.ensures.steps

b-in : (c : In-Some-b) → c.in-Some-b.b < c.args.n
b-in c = left_in _ _ _ c.loop-b.invariant.1 c.in-Some-b.ensures.steps

c-in : (c : In-Some-c) → c.in-Some-c.c < c.args.n
c-in c = left_in _ _ _ c.loop-c.invariant.1 c.in-Some-c.ensures.steps

-- at a goal that is not d nothing is found
missed : (c : In-Some-c) → c.in-Some.a < c.args.n → c.in-Some-b.b < c.args.n →
    let s = c.args in
    (d : ℕ) → d < s.n → has (lasts s.order.after.now s.order.prior.now c.in-Some.a c.in-Some-b.b c.in-Some-c.c) d ≡ false
    → at_d (ahead s.order.after.now) s.n (suc c.in-Some.a) (suc c.in-Some-b.b) (suc c.in-Some-c.c) (suc d) ≡ none
missed c a b d l h = miss 32 _ _ _ c.requires _ c.leading-lead.ensures _ _ _ d a b (c-in c) l h

pub found-init : goal.found-init
found-init c = (
  refl,
  left-a 32 _ _ _ c.requires _ c.leading-lead.ensures _ (rw c.into_iter-a-iterator.ensures.into_iter_gives c.members-a-items.ensures),
)

pub seconds-requires : goal.seconds-requires
seconds-requires c = omega (arith, a_in (goal.at.seconds-requires c).In-Some, c.requires.0)

pub loop-b-init : goal.loop-b-init
loop-b-init c = (
  c.found.invariant.0,
  left-b 32 _ _ _ c.requires _ c.leading-lead.ensures _ _ (a_in (goal.at.loop-b-init c).In-Some)
      (rw c.into_iter-b-iterator.ensures.into_iter_gives (c.members-b-items.ensures ∙ c.seconds.ensures)),
)

pub found-preserved : goal.found-preserved
found-preserved c = (
  c.loop-b.invariant.0,
  left_more _ _ _ c.found.invariant.1 c.in-Some.ensures.steps refl (left-none _ _ _ c.loop-b.invariant.1 c.in-None-b.ensures.steps.0),
)

pub thirds-requires : goal.thirds-requires
thirds-requires c =
    let p = goal.at.thirds-requires c in
    (omega (arith, a_in p.In-Some, c.requires.0), omega (arith, b-in p.In-Some-b, c.requires.0))

pub loop-c-init : goal.loop-c-init
loop-c-init c =
    let p = goal.at.loop-c-init c in (
      c.loop-b.invariant.0,
      left_c 32 _ _ _ c.requires _ c.leading-lead.ensures _ _ _ (a_in p.In-Some) (b-in p.In-Some-b)
          (rw c.into_iter-c-iterator.ensures.into_iter_gives (c.members-c-items.ensures ∙ c.thirds.ensures)),
    )

pub loop-b-preserved : goal.loop-b-preserved
loop-b-preserved c = (
  c.loop-c.invariant.0,
  left_more _ _ _ c.loop-b.invariant.1 c.in-Some-b.ensures.steps refl (left-none _ _ _ c.loop-c.invariant.1 c.in-None-c.ensures.steps.0),
)

pub lasts-ds-requires : goal.lasts-ds-requires
lasts-ds-requires c =
    let p = goal.at.lasts-ds-requires c in
    (omega (arith, a_in p.In-Some, c.requires.0), omega (arith, b-in p.In-Some-b, c.requires.0), omega (arith, c-in p.In-Some-c, c.requires.0))

pub loop-d-init : goal.loop-d-init
loop-d-init c =
    let p = goal.at.loop-d-init c in (
      c.loop-c.invariant.0,
      passed_skip _ _ _
          (λ i l m.
          missed p.In-Some-c (a_in p.In-Some) (b-in p.In-Some-b) i m
          (ap (λ (m : ℕ). has m i) (sym c.lasts-ds.ensures) ∙ first_least 32 _ i (omega (arith, c.first-d.ensures)))),
    )

pub loop-c-preserved : goal.loop-c-preserved
loop-c-preserved c = (
  c.loop-d.invariant.0,
  left_more _ _ _ c.loop-c.invariant.1 c.in-Some-c.ensures.steps refl (passed_all _ _ _ c.loop-d-test.false c.loop-d.invariant.1),
)

pub loop-d-preserved : goal.loop-d-preserved
loop-d-preserved c =
    let p = goal.at.loop-d-preserved c in (
      c.loop-d.invariant.0,
      passed_more _ _ _ c.loop-d-test.true
          (missed p.In-Some-c (a_in p.In-Some) (b-in p.In-Some-b) _ c.loop-d-test.true
          (ap (λ (m : ℕ). has m c.loop-d.d) (sym c.lasts-ds.ensures) ∙ sym c.has.ensures ∙ c.if-has.false))
          c.loop-d.invariant.1,
    )

pub overflow_add-answer : goal.overflow_add-answer
overflow_add-answer c = omega (arith, a_in (goal.at.overflow_add-answer c).In-Some, c.requires.0)

pub overflow_add-answer-then-has : goal.overflow_add-answer-then-has
overflow_add-answer-then-has c = omega (arith, b-in (goal.at.overflow_add-answer-then-has c).In-Some-b, c.requires.0)

pub overflow_add-answer-then-has-2 : goal.overflow_add-answer-then-has-2
overflow_add-answer-then-has-2 c = omega (arith, c-in (goal.at.overflow_add-answer-then-has-2 c).In-Some-c, c.requires.0)

pub returns-in-None : goal.returns-in-None
returns-in-None c = ap found c.found.invariant.0 ∙ sym (left-none _ _ _ c.found.invariant.1 c.in-None.ensures.steps.0)

pub returns-then-has : goal.returns-then-has
returns-then-has c =
    let p = goal.at.returns-then-has c in
    let fc = p.In-Some-c in
    let fb = p.In-Some-b in
    let fa = p.In-Some in
    let ld = c.loop-d-test.true in
    let b-has = left-has _ _ _ fb.loop-b.invariant.1 fb.in-Some-b.ensures.steps in
    let c-has = left-has _ _ _ fc.loop-c.invariant.1 fc.in-Some-c.ensures.steps in
    let last = ap (λ (m : ℕ). has m c.loop-d.d) (sym c.lasts-ds.ensures) ∙ sym c.has.ensures ∙ c.if-has.true in
    let there = hit 32 _ _ _ c.requires _ c.leading-lead.ensures _ _ _ _ (a_in fa) (b-in fb) (c-in fc) ld b-has c-has last in
    sym
    (left-hit _ _ _ fa.found.invariant.1 fa.in-Some.ensures.steps _
    (left-hit _ _ _ fb.loop-b.invariant.1 fb.in-Some-b.ensures.steps _
    (left-hit _ _ _ fc.loop-c.invariant.1 fc.in-Some-c.ensures.steps _
    (passed_hit _ _ _ _ ld there c.loop-d.invariant.1))))
