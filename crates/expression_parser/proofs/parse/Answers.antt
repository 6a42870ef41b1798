use Rattle.expression_parser.proofs.Primaries.{whole_bad, whole-left, whole_done}
use Rattle.expression_parser.proofs.parse.Goals as goal

pub returns-then-text-node : goal.returns-then-text-node
returns-then-text-node c = whole_done 32 c.args.text.now c.args.rows.now _ _ c.in-Ok.ensures c.if-text-node.true

pub returns-else-text-node : goal.returns-else-text-node
returns-else-text-node c = whole-left 32 c.args.text.now c.args.rows.now c.sequence.new.rows _ c.in-Ok.ensures c.if-text-node.false

pub returns-in-Err : goal.returns-in-Err
returns-in-Err c = whole_bad 32 c.args.text.now c.args.rows.now c.sequence.new.rows _ c.in-Err.ensures
