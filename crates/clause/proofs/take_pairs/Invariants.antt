use Prim.Native.Nat.{◌<◌}
use mathlib.Core.Path.{◌≡◌}
use lib.ListN.{get_or}
use Rattle.clause.proofs.PairRows.{rows_after}
use Rattle.clause.proofs.take_pairs.Given as goal

abbrev pub invariant-loop-k : goal.invariant-loop-k
invariant-loop-k l =
    record {
      rows : l.listed ≡ rows_after 64 l.given.bytes.now l.k;
      last_below : l.last < 64;
      row_is : l.row ≡ get_or l.listed l.last 0;
    }
