use mathlib.Core.Path.{sym, ap, ◌∙◌}
use borrow.Author.Rules.{rules}
use Rattle.sets.specs.Sets.{subset}
use Rattle.expression_reading.specs.TextReading.{text_answer}
use Rattle.expression_reading.proofs.Texts.{text_short, text_long, text_bad, text-fault, text_lacks, text-within, text_done}
use Rattle.expression_reading.proofs.read_text.Goals as goal
use Rattle.expression_reading.proofs.read_text.Goals.{then-len-lt1-via-then-len-lt1, then-len-lt1-via-else-len-lt1+then-len-gt-LONGEST}

pub returns-then-len-lt1 : goal.returns-then-len-lt1
returns-then-len-lt1 c =
    elim c.then-len-lt1.branch [ then-len-lt1-via-then-len-lt1 w ↦ ap (text_answer c.args.n) (text_short _ _ w.if-len-lt1.true) | then-len-lt1-via-else-len-lt1+then-len-gt-LONGEST w ↦ ap (text_answer c.args.n) (text_long _ _ w.if-len-gt-LONGEST.true) ]

pub returns-in-Err : goal.returns-in-Err
returns-in-Err c = ap (text_answer c.args.n) (text_bad c.args.n c.args.text.now c.if-len-lt1.false c.if-len-gt-LONGEST.false _ c.empty-graph.ensures c.parse.new.rows c.in-Err.place c.in-Err.ensures)

pub returns-in-Some : goal.returns-in-Some
returns-in-Some c = ap (text_answer c.args.n) (text-fault c.args.n c.args.text.now c.if-len-lt1.false c.if-len-gt-LONGEST.false _ c.empty-graph.ensures c.parse.new.rows c.in-Ok.node c.in-Ok.ensures c.in-Some.place c.in-Some.ensures)

pub returns-then-not-subset : goal.returns-then-not-subset
returns-then-not-subset c =
    ap (text_answer c.args.n) (text_lacks c.args.n c.args.text.now c.if-len-lt1.false c.if-len-gt-LONGEST.false _ c.empty-graph.ensures c.parse.new.rows c.in-Ok.node c.in-Ok.ensures c.requires c.in_default.ensures
    (ap (λ z. subset z c.in-Ok.node.set) (sym c.below.ensures) ∙ sym c.subset.ensures ∙ c.if-not-subset.true))

pub transpose-requires : goal.transpose-requires
transpose-requires c = (c.requires, text-within c.args.n c.args.text.now c.if-len-lt1.false c.if-len-gt-LONGEST.false _ c.empty-graph.ensures c.parse.new.rows c.in-Ok.node c.in-Ok.ensures c.requires c.in_default.ensures (search rules))

pub returns : goal.returns
returns c =
    text_done c.args.n c.args.text.now c.if-len-lt1.false c.if-len-gt-LONGEST.false _ c.empty-graph.ensures c.parse.new.rows c.in-Ok.node c.in-Ok.ensures c.requires c.in_default.ensures (search rules)
    (ap (λ z. subset z c.in-Ok.node.set) (sym c.below.ensures) ∙ sym c.subset.ensures ∙ c.if-not-subset.false) _ c.transpose.ensures
