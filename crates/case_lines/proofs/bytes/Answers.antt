use Rattle.std.proofs.Common.{◌≡◌, length, arith, length-append, ◌∙◌, ap}
use Rattle.std.specs.Slice.Iter.{chunks_exact_rest}
use Rattle.buffer.proofs.Writing.{onward, done}
use Rattle.case_lines.specs.Line.{bytes_of}
use Rattle.case_lines.proofs.Fields.{bytes_more, bytes-end}
use Rattle.case_lines.proofs.bytes.Goals as goal

pub loop-pair-preserved : goal.loop-pair-preserved
loop-pair-preserved c =
    let s = c.in-Some.ensures.steps in
    let pair = c.in-Some.pair.now in
    let size : length pair ≡ 2 = omega arith in
    let more = ap bytes_of s.1.0 ∙ bytes_more pair (chunks_exact_rest c.next.new.self) size in (
      omega arith,
      omega (arith, ap length s.1.0, length-append pair (chunks_exact_rest c.next.new.self)),
      onward c.loop-pair.invariant.2 c.put_byte-o.ensures (rw (c.nibble.ensures.value, c.nibble-in-loop-pair.ensures.value) more),
    )

pub returns : goal.returns
returns c = done c.loop-pair.invariant.2 (bytes-end _ (omega (arith, c.in-None.ensures.steps)))
