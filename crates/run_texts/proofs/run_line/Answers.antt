use mathlib.Core.Path.{sym}
use Prim.Native.Nat.{◌≤◌}
use native.Mathlib.Omega.{arith}
use lib.Seq.{length-take-le}
use Rattle.buffer.proofs.Writing.{kept}
use borrow.Author.Rules.{rules}
use Rattle.run_texts.proofs.run_line.Goals as goal

-- src/main.rt:36:24
pub slice_bounds-print_text-end : goal.slice_bounds-print_text-end
slice_bounds-print_text-end g c =
    let b = c.bytes-len in
    let k = kept b.ensures in
    let f : b.result ≤ 1024 = search rules in
    sym (length-take-le _ _ (omega (arith, k)))
