use Rattle.std.proofs.Common.{ℕ, ◌≡◌, ◌++◌, ◌+◌, ap, arith}
use lib.Dec.{ltb}
use lib.ListN.{length, length-append}
use Rattle.buffer.specs.Text.{only}
use Rattle.buffer.specs.Decimal.{decimal}
use Rattle.buffer.proofs.Writing.{start, onward, done, then}
use Rattle.mel_text.proofs.Goals.{goals_left, goals-whole, goals-step, goals-end}
use Rattle.mel_text.proofs.put_goals.Goals as goal
use Rattle.mel_text.proofs.put_goals.Goals.{In-loop-g}

turn : (c : In-loop-g) →
    let l = c.loop-g in
    let p : ℕ = c.args.stage.after in
    let q : ℕ = c.args.stage.last in
    goals_left p l.g q ≡ only (ltb p l.g) 38 ++ decimal (l.g + 1) ++ goals_left p (l.g + 1) q
turn c = goals-step _ _ _ (omega arith) c.loop-g-test.true

pub loop-g-init : goal.loop-g-init
loop-g-init c = rw (goals-whole _ _) (start _ _ _)

pub put_number-o-requires : goal.put_number-o-requires
put_number-o-requires c = omega (arith, simp length-append at (ap length (turn (goal.at.put_number-o-requires c).In-loop-g)))

pub loop-g-preserved : goal.loop-g-preserved
loop-g-preserved c = onward c.loop-g.invariant (then c.put_if-o.ensures c.put_number-o.ensures) (turn (goal.at.loop-g-preserved c).In-loop-g)

pub returns : goal.returns
returns c = done c.loop-g.invariant (goals-end _ _ _ (omega arith))
