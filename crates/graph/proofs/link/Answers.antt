use borrow.Author.Rules.{rules}
use Rattle.graph.proofs.Linking.{linked_none, linking_turn, linking_end}
use Rattle.graph.proofs.link.Goals as goal

pub returns-then-later-eq0 : goal.returns-then-later-eq0
returns-then-later-eq0 c = linked_none 32 _ _ _ c.if-later-eq0.true (search rules)

pub loop-i-preserved : goal.loop-i-preserved
loop-i-preserved c =
    let l = c.loop-i in
    linking_turn 32 _ _ _ l.rows l.i-iterator.rest _ _ c.in-Some.ensures.steps (search rules) l.invariant

pub returns : goal.returns
returns c = linking_end 32 _ _ _ _ _ c.in-None.ensures.steps.0 c.loop-i.invariant
