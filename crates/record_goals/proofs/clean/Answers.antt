use Prim.Native.Nat.{ℕ}
use native.Mathlib.Omega.{arith}
use lib.ListN.{length-take}
use Rattle.record_goals.proofs.Text.{clean_turn}
use Rattle.record_goals.proofs.clean.Goals as goal

pub loop-x-preserved : goal.loop-x-preserved
loop-x-preserved c = let a = c.args in
    let l = c.loop-x in
    clean_turn a.b.now a.from a.k l.x-index l.ok _ (omega (arith, length-take {A = ℕ})) l.invariant c.text_byte-ok.ensures
