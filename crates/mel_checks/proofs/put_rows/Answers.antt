use Rattle.std.proofs.Common.{◌≡◌, ◌++◌, ap, length, length-append, arith}
use Rattle.buffer.proofs.Writing.{start, onward, done}
use Rattle.mel_checks.specs.CheckTexts as X
use Rattle.mel_checks.proofs.Checks.{rows_step, rows_end}
use Rattle.mel_checks.proofs.put_rows.Goals as goal
use Rattle.mel_checks.proofs.put_rows.Goals.{After-partners-others}

-- what a turn writes, and what it leaves
turn : (c : After-partners-others) →
    let a = c.args in
    X.rows_text 64 a.own.now a.listed.now a.k c.loop-x.x-iterator.rest
    ≡ X.row_text 64 c.in-Some.x c.partners-others.result ++ X.rows_text 64 a.own.now a.listed.now a.k c.next.new.self.rest
turn c = rw c.partners-others.ensures (rows_step 64 _ _ _ _ _ _ c.in-Some.ensures.steps)

pub loop-x-init : goal.loop-x-init
loop-x-init c = rw (c.into_iter-x-iterator.ensures.into_iter_gives, c.members-x-items.ensures) (start _ _ _)

pub put_row-o-requires-clause-m_bound : goal.put_row-o-requires-clause-m_bound
put_row-o-requires-clause-m_bound c = omega (arith, simp length-append at (ap length (turn (goal.at.put_row-o-requires-clause-m_bound c).After-partners-others)))

pub loop-x-preserved : goal.loop-x-preserved
loop-x-preserved c = onward c.loop-x.invariant c.put_row-o.ensures (turn (goal.at.loop-x-preserved c).After-partners-others)

pub returns : goal.returns
returns c = done c.loop-x.invariant (rows_end 64 _ _ _ _ c.in-None.ensures.steps.0)
