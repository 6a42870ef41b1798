use Prim.Native.Nat.{ℕ, ◌≤◌, ◌<◌, ◌+◌, ◌^◌}
use mathlib.Core.Path.{◌≡◌, ap, ◌∙◌}
use mathlib.Core.List.{List}
use native.Mathlib.Omega.{arith}
use lib.ListN.{length, get_or}
use Rattle.buffer.proofs.Writing.{recast}
use Rattle.mel_stages.specs.Masks as M
use Rattle.mel_stages.proofs.Masks.{upto_at}
use Rattle.mel_text.specs.StageTexts as X
use Rattle.mel.proofs.Length.{mel_text_lem}
use Rattle.mel.proofs.Bound.{text-fits, text_most}
use Rattle.record_rules.proofs.Outcomes.{size_fits, size_short, buffer_fits, buffer_short}
use Rattle.mel.proofs.write_clause.Goals as goal
use Rattle.mel.proofs.write_clause.Goals.{After-most, Joined-room-most, then-room-most+else-room-need, else-room-most}

-- the variables of the goals
vars : (sets v : List ℕ) → length sets ≤ 32 → v ≡ M.up_to 33 sets → get_or v (length sets) 0 ≡ M.once sets 0 (length sets)
vars sets v h e = ap (λ (l : List ℕ). get_or l (length sets) 0) e ∙ upto_at 33 _ _ (omega arith) (omega arith)

-- no text is longer than the bound
bound : (c : After-most) → length (X.mel_of c.args.clause.now) ≤ c.most.result
bound c =
    let a = c.args.clause.now in
    let m : get_or a.before (length a.sets.now) 0 < 2 ^ 64 = omega arith in
    rw (c.most.ensures, c.count-v.ensures) (text_most _ _ _ _ _ m (vars _ _ (omega arith) a.before_is) (omega arith))

-- what the writer of the stages asks
asks : (head : ℕ) (sets grounds listed : List ℕ) → length sets ≤ 32 → 0 + length (X.stages_text 64 head sets grounds listed (length sets)) < 2 ^ 63
asks head sets grounds listed h = omega (arith, text-fits 64 head sets grounds listed (length sets) (omega arith) (omega arith))

-- where the text is stored the buffer has room for it: it was counted, or the buffer has room for every text
fits : (c : Joined-room-most) →
    let t = X.mel_of c.args.clause.now in
    length t ≤ c.most.result → length t ≤ length c.args.out.now
fits c b =
    let a = c.args.clause.now in
    let e = ap length (mel_text_lem 64 a.head a.sets.now a.grounds.now a.listed.now) in
    elim c.if-room-most.branch [
      | then-room-most+else-room-need w ↦ omega (arith, w.put_stages-need.ensures.place, e, w.if-room-need.false)
      | else-room-most w ↦ omega (arith, b, w.if-room-most.false)
    ]

pub put_stages-need-requires-clause-text_fits : goal.put_stages-need-requires-clause-text_fits
put_stages-need-requires-clause-text_fits c = asks _ _ _ _ (omega arith)

pub returns-then-room-need : goal.returns-then-room-need
returns-then-room-need c =
    let a = c.args.clause.now in
    let need : c.put_stages-need.result ≡ length (X.mel_of a) =
    omega (arith, c.put_stages-need.ensures.place, ap length (mel_text_lem 64 a.head a.sets.now a.grounds.now a.listed.now))
    in
    record { result_value = size_short _ _ need (omega (arith, need, c.if-room-need.true)); out_after = buffer_short _ _ (omega (arith, need, c.if-room-need.true)) }

pub put_stages-end-requires-clause-text_fits : goal.put_stages-end-requires-clause-text_fits
put_stages-end-requires-clause-text_fits c = asks _ _ _ _ (omega arith)

pub returns : goal.returns
returns c =
    let a = c.args.clause.now in
    let w = recast (mel_text_lem 64 a.head a.sets.now a.grounds.now a.listed.now) c.put_stages-end.ensures in
    let room = fits (goal.at.returns c).Joined-room-most (bound (goal.at.returns c).After-most) in
    record { result_value = size_fits _ _ (omega (arith, w.place)) room; out_after = buffer_fits _ _ w room }
