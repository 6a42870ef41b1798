use borrow.Author.Rules.{rules}
use Prim.Native.Nat.{◌^◌, ◌<◌}
use Rattle.sets.specs.Sets.{union, count}
use Rattle.form_split.proofs.Grow.{alone, Growing, grow_alone, grow_begin, grow_step, grow_done}
use Rattle.form_split.proofs.component.Goals as goal

facts : (c : goal.After-pending-todo-in-loop-todo) →
    let a = c.args in
    let l = c.loop-todo in
    Growing a.order.after.now a.k a.set a.x c.without-left-in-loop-todo.result c.pending-todo-in-loop-todo.result
    × (count (union c.without-left-in-loop-todo.result c.pending-todo-in-loop-todo.result) < count (union l.left l.todo))
facts c =
    let l : c.args.set < 2 ^ 32 = search rules in
    grow_step _ _ _ _ c.requires.2 _ 32 l c.loop-todo.invariant c.loop-todo-test.true c.hanging_any-fresh.ensures c.without-left-in-loop-todo.ensures c.pending-todo-in-loop-todo.ensures

pub returns-then-first-eq0 : goal.returns-then-first-eq0
returns-then-first-eq0 c =
    grow_alone _ _ _ _ c.requires.2 _ c.requires.1 (alone _ c.single-start.ensures) c.without-rest.ensures c.hanging-first.ensures c.if-first-eq0.true

pub loop-todo-init : goal.loop-todo-init
loop-todo-init c =
    grow_begin _ _ _ _ c.requires.2 _ c.requires.1 (alone _ c.single-start.ensures) c.without-rest.ensures c.hanging-first.ensures c.without-left.ensures c.pending-todo.ensures

pub loop-todo-smaller : goal.loop-todo-smaller
loop-todo-smaller c = (facts c).1

pub loop-todo-preserved : goal.loop-todo-preserved
loop-todo-preserved c = (facts c).0

pub returns : goal.returns
returns c =
    grow_done _ _ _ _ c.requires.2 _ c.requires.1 c.loop-todo.invariant c.loop-todo-test.false c.without.ensures
