use mathlib.Core.Path.{sym, ◌∙◌, subst}
use borrow.Author.Tests.{leb-false}
use Rattle.expression_number.specs.Nodes.{Primary}
use Rattle.expression_parser.specs.Readers.{Sequence}
use Rattle.expression_parser.proofs.Joins.{handed_on, sequence_bad, group_turn, sequence_turn, turn_more, turn_one, turn_end}
use Rattle.expression_parser.proofs.Primaries.{pri_bad, inner_shut, inner_left}
use Rattle.expression_parser.proofs.+group_primary_sequence.Goals as goal

-- ---- a group
pub group-members-preserved : goal.group-members-preserved
group-members-preserved t c = turn_more (group_turn c.members.invariant _ _ c.in_ok-node.ensures) (sym c.byte.ensures ∙ c.if-byte-eq38.true)

pub group-returns-else-at-start : goal.group-returns-else-at-start
group-returns-else-at-start t c =
    turn_end (group_turn c.members.invariant _ _ c.in_ok-node.ensures) c.if-at-start.false (λ e. c.if-byte-eq38.false (c.byte.ensures ∙ e))

-- ---- a primary
pub primary-returns-in_err-node : goal.primary-returns-in_err-node
primary-returns-in_err-node t c =
    subst (λ z. Primary 32 c.args.text.now c.args.at c.args.depth c.args.rows.now z c.sequence.new.rows) (sym (handed_on _ _ c.from_residual.ensures))
    (pri_bad 32 c.args.text.now c.args.at c.args.depth c.args.rows.now (sym c.byte.ensures ∙ c.if-byte-ne40.false) (leb-false 32 _ (sym c.full.ensures ∙ c.if-full.false)) _ c.sequence.new.rows c.in_err-node.ensures)

pub primary-returns-then-byte-eq41 : goal.primary-returns-then-byte-eq41
primary-returns-then-byte-eq41 t c =
    inner_shut (record { byte = sym c.byte.ensures ∙ c.if-byte-ne40.false; less = leb-false 32 _ (sym c.full.ensures ∙ c.if-full.false); part = c.in_ok-node.ensures })
    (sym c.byte-2.ensures ∙ c.if-byte-eq41.true)

pub primary-returns-else-byte-eq41 : goal.primary-returns-else-byte-eq41
primary-returns-else-byte-eq41 t c =
    inner_left (record { byte = sym c.byte.ensures ∙ c.if-byte-ne40.false; less = leb-false 32 _ (sym c.full.ensures ∙ c.if-full.false); part = c.in_ok-node.ensures })
    (λ e. c.if-byte-eq41.false (c.byte-2.ensures ∙ e))

-- ---- a sequence
pub sequence-returns-in_err-node : goal.sequence-returns-in_err-node
sequence-returns-in_err-node t c =
    subst (λ z. Sequence 32 c.args.text.now c.args.start c.args.depth c.args.rows.now z c.group.new.rows) (sym (handed_on _ _ c.from_residual.ensures))
    (sequence_bad c.members.invariant _ c.group.new.rows c.in_err-node.ensures)

pub sequence-members-preserved : goal.sequence-members-preserved
sequence-members-preserved t c = turn_more (sequence_turn c.members.invariant _ _ _ c.in_ok-node.ensures c.link.ensures) (sym c.byte.ensures ∙ c.if-byte-eq44.true)

pub sequence-returns-then-at-start : goal.sequence-returns-then-at-start
sequence-returns-then-at-start t c =
    turn_one (sequence_turn c.members.invariant _ _ _ c.in_ok-node.ensures c.link.ensures) c.if-at-start.true (λ e. c.if-byte-eq44.false (c.byte.ensures ∙ e))

pub sequence-returns-else-at-start : goal.sequence-returns-else-at-start
sequence-returns-else-at-start t c =
    turn_end (sequence_turn c.members.invariant _ _ _ c.in_ok-node.ensures c.link.ensures) c.if-at-start.false (λ e. c.if-byte-eq44.false (c.byte.ensures ∙ e))
