use Rattle.std.proofs.Common.{◌≡◌, ◌≤◌, ◌+◌, length}
use Rattle.std.specs.Slice.Iter.{chunks_exact_rest, chunks_exact_size}
use Rattle.buffer.proofs.Writing.{Left}
use Rattle.case_lines.specs.Line.{bytes_of}
use Rattle.case_lines.proofs.bytes.Given as goal

abbrev pub invariant-loop-pair : goal.invariant-loop-pair
invariant-loop-pair l =
    (chunks_exact_size l.pair-iterator ≡ 2) × (l.o + length (chunks_exact_rest l.pair-iterator) ≤ length l.s)
    × Left (bytes_of (chunks_exact_rest l.pair-iterator)) (bytes_of l.s) 0 l.initial.out l.o l.out
