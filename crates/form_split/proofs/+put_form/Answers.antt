use borrow.Author.Rules.{rules}
use native.Mathlib.Omega.{arith}
use mathlib.Core.Path.{◌≡◌, refl, sym, ap, ◌∙◌, subst}
use Prim.Native.Nat.{ℕ, suc, ◌+◌, ◌^◌, ◌<◌}
use lib.Dec.{eqb}
use mathlib.Core.Bool.{false, not}
use lib.ListN.{length, length-append}
use Rattle.sets.specs.Sets.{count, first, single}
use Rattle.buffer.specs.Text.{only}
use Rattle.buffer.specs.Decimal.{decimal}
use Rattle.buffer.proofs.Writing.{then, recast}
use Rattle.expression.specs.Expr.{Expr, goal as goal_of, Members, join}
use Rattle.expression.specs.Split.{Component}
use Rattle.graph.specs.Graph.{has_goal, ahead}
use Rattle.graph.proofs.Goals.{part_lt, lowest_in, lowest-has}
use Rattle.form_split.specs.Split.{Has, Ordered, form_of, form_text}
use Rattle.form_split.proofs.Grow.{alone}
use Rattle.form_split.proofs.Forms.{ordered_part, ordered-behind, form_of_lem, form-goal, form_join}
use Rattle.form_split.proofs.Writing.{body, text-goal, text_join, go_start, go_end, Step, step, fits, some_goal_lem}
use Rattle.form_split.proofs.+put_form.Goals as goal
use Rattle.form_split.proofs.+put_form.Goals.{After-first-x, Then-single-set, After-component-found, After-put_if-o, In-loop-rest, After-member-m}

-- the lowest goal, less one
under : (t : ℕ) (c : After-first-x t) → c.first-x.result < 32
under t c =
    let l : c.args.set < 2 ^ 32 = search rules in
    omega (arith, c.first-x.ensures, lowest_in 32 _ l c.requires.0.some.0 c.requires.0.some.1)

low-has : (t : ℕ) (c : After-first-x t) → Has c.args.set (suc c.first-x.result)
low-has t c =
    let l : c.args.set < 2 ^ 32 = search rules in
    ap (λ (z : ℕ). has_goal c.args.set (suc z)) c.first-x.ensures ∙ lowest-has 32 _ l c.requires.0.some.0 c.requires.0.some.1

-- the form is a join
joins : (t : ℕ) (c : After-component-found t) →
    let a = c.args in
    (b : Expr) × (ms : Members) × (form_of 32 a.order.after.now a.set ≡ join (eqb c.component-found.result a.set) b ms)
joins t c =
    let a = c.args in
    let l : a.set < 2 ^ 32 = search rules in
    let fi = c.first-x.ensures in
    form_join a.order.after.now a.order.prior.now 32 a.set l c.requires.0
    (λ z. c.if-single-set.false (alone _ c.single.ensures ∙ ap single fi ∙ z)) c.component-found.result
    (subst (λ (z : ℕ). Component (ahead a.order.after.now) false (Has a.set) (suc z) (Has c.component-found.result)) fi c.component-found.ensures)

-- where the members' texts end
bound : (t : ℕ) (c : After-put_if-o t) → ((b : Expr) × (ms : Members) × (form_of 32 c.args.order.after.now c.args.set ≡ join (eqb c.component-found.result c.args.set) b ms)) →
    let a = c.args in
    c.put_if-o.result + length (body 32 a.order.after.now a.set a.nested) < 2 ^ 63
bound t c j =
    let a = c.args in
    omega (
      arith,
      c.requires.1,
      c.put_if-o.ensures.place,
      ap length (text_join 32 a.order.after.now a.set a.nested _ j.0 j.1 j.2),
      length-append (only a.nested 40) (body 32 a.order.after.now a.set a.nested),
    )

-- what is left has a goal, and is in order
rest_some : (t : ℕ) (c : In-loop-rest t) → (g : ℕ) × Has c.loop-rest.rest g
rest_some t c =
    let l : c.args.set < 2 ^ 32 = search rules in
    some_goal_lem 32 _ (part_lt 32 _ _ c.loop-rest.invariant.part l) c.loop-rest-test.true

rest-ordered : (t : ℕ) (c : In-loop-rest t) → Ordered c.args.order.after.now c.args.order.prior.now c.loop-rest.rest
rest-ordered t c = let g = rest_some t c in ordered_part _ _ c.loop-rest.invariant.part g.0 g.1 c.requires.0

-- one turn
a-step : (t : ℕ) (c : After-member-m t) → ((b : Expr) × (ms : Members) × (form_of 32 c.args.order.after.now c.args.set ≡ join (eqb c.component-found.result c.args.set) b ms)) →
    let a = c.args in
    let l = c.loop-rest in
    Step 32 a.order.after.now a.order.prior.now (eqb c.component-found.result a.set) a.nested a.set c.put_if-o.result c.put_if-o.new.out
    l.rest l.o l.out c.member-m.result.goals
a-step t c j =
    let l : c.args.set < 2 ^ 32 = search rules in
    let r = part_lt 32 _ _ c.loop-rest.invariant.part l in
    let f = c.member-m.ensures in
    step 32 _ _ _ _ _ l r c.requires.0 j.0 j.1 j.2 c.loop-rest.invariant _ _ f.start_lt_goal_limit.1 f.starts f.component

pub single-requires : goal.single-requires
single-requires t c = let u : c.first-x.result < 32 = under t (goal.at.single-requires t c).After-first-x in search rules

-- the text of one goal
one-goal : (t : ℕ) (c : Then-single-set t) →
    let a = c.args in
    decimal (c.first-x.result + 1) ≡ form_text 32 a.nested a.order.after.now a.set
one-goal t c =
    let a = c.args in
    let l : a.set < 2 ^ 32 = search rules in
    let fi = c.first-x.ensures in
    let f = form-goal a.order.after.now a.order.prior.now 32 a.set l c.requires.0 (ap single (sym fi) ∙ sym (alone _ c.single.ensures) ∙ c.if-single-set.true) in
    let e : suc (first 32 a.set) ≡ c.first-x.result + 1 = omega (arith, fi) in
    text-goal 32 a.order.after.now a.set a.nested _ (f ∙ ap goal_of e)

pub put_number-requires : goal.put_number-requires
put_number-requires t c = omega (arith, c.requires.1, ap length (one-goal t (goal.at.put_number-requires t c).Then-single-set))

pub returns-then-single-set : goal.returns-then-single-set
returns-then-single-set t c =
    recast (one-goal t (goal.at.returns-then-single-set t c).Then-single-set) c.put_number.ensures

pub component-found-requires : goal.component-found-requires
component-found-requires t c =
    let x = (goal.at.component-found-requires t c).After-first-x in
    (under t x, low-has t x, c.requires.0.turned)

pub loop-rest-init : goal.loop-rest-init
loop-rest-init t c =
    let a = c.args in
    let l : a.set < 2 ^ 32 = search rules in
    let j = joins t (goal.at.loop-rest-init t c).After-component-found in
    go_start 32 _ a.order.prior.now _ _ _ j.0 j.1 j.2 (form_of_lem _ a.order.prior.now 32 _ l c.requires.0) _ _

pub member-m-requires : goal.member-m-requires
member-m-requires t c =
    let i = (goal.at.member-m-requires t c).In-loop-rest in
    (ordered-behind _ _ (rest-ordered t i), (rest-ordered t i).turned, rest_some t i)

pub put_form-o-requires : goal.put_form-o-requires
put_form-o-requires t c =
    let p = goal.at.put_form-o-requires t c in
    let w = a-step t p.After-member-m (joins t p.After-component-found) in
    (omega (arith, w.fewer), (w.ordered, fits w (bound t p.After-put_if-o (joins t p.After-component-found)) _ refl))

pub put_if-o-requires-in-loop-rest : goal.put_if-o-requires-in-loop-rest
put_if-o-requires-in-loop-rest t c =
    let p = goal.at.put_if-o-requires-in-loop-rest t c in
    let u = fits (a-step t p.After-member-m (joins t p.After-component-found)) (bound t p.After-put_if-o (joins t p.After-component-found)) _ c.put_form-o.ensures.place in
    omega (arith, u)

pub loop-rest-smaller : goal.loop-rest-smaller
loop-rest-smaller t c =
    let p = goal.at.loop-rest-smaller t c in
    subst (λ (z : ℕ). count z < count c.loop-rest.rest) (sym c.without-rest.ensures) (a-step t p.After-member-m (joins t p.After-component-found)).less

pub loop-rest-preserved : goal.loop-rest-preserved
loop-rest-preserved t c =
    let p = goal.at.loop-rest-preserved t c in
    let w = a-step t p.After-member-m (joins t p.After-component-found) in
    let m = c.mark-sep.ensures in
    w.on c.put_form-o.ensures _ c.without-rest.ensures (recast (ap (only (not (eqb c.without-rest.result 0))) m) c.put_if-o-in-loop-rest.ensures)

pub put_if-requires : goal.put_if-requires
put_if-requires t c =
    let p = goal.at.put_if-requires t c in
    omega (arith, c.loop-rest.invariant.wrote.place, bound t p.After-put_if-o (joins t p.After-component-found))

pub returns : goal.returns
returns t c =
    let a = c.args in
    let j = joins t (goal.at.returns t c).After-component-found in
    recast (text_join 32 _ _ _ _ j.0 j.1 j.2)
    (then c.put_if-o.ensures (go_end 32 _ a.order.prior.now _ _ _ c.loop-rest.invariant c.loop-rest-test.false c.put_if.ensures))
