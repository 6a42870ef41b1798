use Prim.Native.Nat.{ℕ, ◌+◌, ◌*◌}
use mathlib.Core.Path.{◌≡◌, ap, ◌∙◌}
use native.Mathlib.Omega.{arith}
use Rattle.record_fields.specs.Fields as F
use Rattle.sets.specs.Sets.{union}
use Rattle.record.proofs.Limits.{lower_below, higher_below}
use Rattle.record.proofs.WellFormed.{fine_well_formed}
use Rattle.clause.proofs.PairRows.{rows_turn, row_kept}
use Rattle.clause.proofs.take_pairs.Goals as goal

pub loop-k-preserved : goal.loop-k-preserved
loop-k-preserved c =
    let l = c.loop-k in
    let b = c.args.given.bytes.now in
    let w = fine_well_formed b c.args.given.accepted in
    let place : c.args.from + 2 * l.k ≡ F.pair_at b l.k = ap (λ (x : ℕ). x + 2 * l.k) c.requires.place.0 in
    let low : c.from-i.result ≡ F.byte b (F.pair_at b l.k) = c.from-i.ensures ∙ ap (F.byte b) place in
    let high : c.from-j.result ≡ F.byte b (F.pair_at b l.k + 1) = c.from-j.ensures ∙ ap (λ (x : ℕ). F.byte b (x + 1)) place in
    let i = lower_below b w l.k (omega arith) in
    let j = higher_below b w l.k (omega arith) in
    let order = (w.pairs l.k (omega arith)).lower_first in
    let v = w.vars_to in
    record {
      rows = rows_turn 64 b l.k _ _ _ _ _ l.listed (omega arith) (omega arith) low high l.invariant.rows c.row_of.ensures (c.union-row.ensures ∙ ap (union c.row_of.result) c.single.ensures) (c.union.ensures ∙ ap (union _) c.single-in-loop-k.ensures);
      last_below = omega arith;
      row_is = row_kept 64 b l.k _ _ _ _ l.listed (omega arith) (omega arith) l.invariant.rows;
    }
