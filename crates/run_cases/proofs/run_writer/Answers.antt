use mathlib.Core.Path.{sym}
use Prim.Native.Nat.{◌≤◌}
use lib.Seq.{length-take-le}
use borrow.Author.Rules.{rules}
use Rattle.run_cases.proofs.run_writer.Goals as goal

pub slice_bounds-lent-end : goal.slice_bounds-lent-end
slice_bounds-lent-end g c =
    let e : c.min-n.result ≤ 196608 = search rules in
    sym (length-take-le _ _ e)
