use mathlib.Core.Path.{sym, ap, ◌∙◌}
use Rattle.sets.specs.Sets.{union, first}
use Rattle.order_compare.proofs.Rows.{marks_start, marks_more, compare_end, compare_hit}
use Rattle.order_compare.proofs.compare.Goals as goal
use Rattle.order_compare.proofs.compare.Goals.{then-odd-ne0, else-odd-ne0}

pub loop-k-init : goal.loop-k-init
loop-k-init c = marks_start c.args.n c.args.a.now c.args.b.now

pub loop-k-preserved : goal.loop-k-preserved
loop-k-preserved c =
    let l = c.loop-k in
    let more = marks_more c.args.n c.args.a.now c.args.b.now _ c.below-goals.ensures l.uneven l.k l.invariant in
    elim c.if-odd-ne0.branch [ then-odd-ne0 w ↦ w.uneven-is ∙ ap (λ z. union l.uneven z) w.single-uneven.ensures ∙ more.0 (λ z. w.if-odd-ne0.true (c.odd.ensures ∙ z)) | else-odd-ne0 w ↦ w.uneven-is ∙ more.1 (sym c.odd.ensures ∙ w.if-odd-ne0.false) ]

pub returns-then-uneven-eq0 : goal.returns-then-uneven-eq0
returns-then-uneven-eq0 c = compare_end c.args.n c.args.a.now c.args.b.now c.requires _ c.loop-k.k c.loop-k-test.false c.loop-k.auto.k-end c.loop-k.invariant c.if-uneven-eq0.true

pub returns : goal.returns
returns c =
    compare_hit c.args.n c.args.a.now c.args.b.now c.requires _ c.loop-k.k c.loop-k-test.false c.loop-k.auto.k-end c.loop-k.invariant c.if-uneven-eq0.false _ c.first-row.ensures _ c.below-goals.ensures _ (c.first-goal.ensures ∙ ap (first 32) c.odd-2.ensures)
