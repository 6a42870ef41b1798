use mathlib.Core.Path.{ap}
use native.Mathlib.Omega.{arith}
use lib.ListN.{length}
use Rattle.mel_checks.proofs.Checks.{pairs-none, own_rows}
use Rattle.buffer.proofs.Writing.{none, recast}
use Rattle.mel_checks.proofs.put_pairs.Goals as goal

pub returns-then-k-eq0 : goal.returns-then-k-eq0
returns-then-k-eq0 c = recast (pairs-none 64 _ _ _ _ _ c.if-k-eq0.true) (none _ _)

pub put_rows-requires : goal.put_rows-requires
put_rows-requires c = let a = c.args in omega (arith, ap length (own_rows 64 a.sets.now a.listed.now a.stage.after a.stage.last a.k _ c.own_goals.ensures))

pub returns : goal.returns
returns c = recast (own_rows 64 _ _ _ _ _ _ c.own_goals.ensures) c.put_rows.ensures
