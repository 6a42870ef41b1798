use mathlib.Core.Path.{ap, ◌∙◌}
use Prim.Native.Nat.{ℕ}
use native.Mathlib.Omega.{arith}
use Rattle.buffer.proofs.Writing.{then, recast}
use Rattle.sheet_text.specs.Sheet.{line, refused_text}
use Rattle.sheet_text.proofs.Lines.{refused-parts, refused-length, refused-short}
use Rattle.sheet_text.proofs.put_refused.Goals as goal

pub put_number-o-requires : goal.put_number-o-requires
put_number-o-requires c =
    let k = c.from.result in
    let p = c.args.r.place in
    omega (arith, refused-length k p, refused-short k p (omega (arith, c.from.ensures)) (omega arith))

pub put_spaced-o-requires : goal.put_spaced-o-requires
put_spaced-o-requires c =
    let k = c.from.result in
    let p = c.args.r.place in
    omega (arith, refused-length k p, refused-short k p (omega (arith, c.from.ensures)) (omega arith))

pub put_byte-requires : goal.put_byte-requires
put_byte-requires c =
    let k = c.from.result in
    let p = c.args.r.place in
    omega (arith, refused-length k p, refused-short k p (omega (arith, c.from.ensures)) (omega arith))

pub returns-clause-wrote : goal.returns-clause-wrote
returns-clause-wrote c =
    let p = c.args.r.place in
    recast (ap line (refused-parts _ _) ∙ ap (λ (k : ℕ). line (refused_text k p)) c.from.ensures)
    (then (then (then c.put_bytes-o.ensures c.put_number-o.ensures) c.put_spaced-o.ensures) c.put_byte.ensures)

pub returns-clause-upper_bound : goal.returns-clause-upper_bound
returns-clause-upper_bound c =
    let k = c.from.result in
    let p = c.args.r.place in
    omega (arith, refused-length k p, refused-short k p (omega (arith, c.from.ensures)) (omega arith))
