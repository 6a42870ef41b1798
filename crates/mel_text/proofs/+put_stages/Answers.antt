use Rattle.std.proofs.Common.{ℕ, ◌≡◌, ◌<◌, [], ◌∷◌, ◌++◌, ap, ◌∙◌, sym, length, length-append, arith}
use Rattle.buffer.proofs.Writing.{then, recast}
use Rattle.mel_stages.specs.declared.Staged.{Staged}
use Rattle.mel_stages.specs.Mel.{start}
use Rattle.mel_text.specs.StageTexts as X
use Rattle.mel_text.proofs.Stages.{stages-one, stages_more}
use Rattle.mel_stages.proofs.Stages.{start_falls}
use Rattle.mel_text.proofs.+put_stages.Goals as goal

-- one stage, and several
module _ (s : Staged) (q p : ℕ) (h : 0 < q) (e : p ≡ start 64 s.head s.sets.now q) where
  one : p ≡ 0 → X.stage_of s p q ≡ X.stages_of s q
  one z = rw e (stages-one 64 _ _ _ _ _ h (sym e ∙ z))

  more : (p ≡ 0 → ⊥) → X.stages_of s p ++ (44 ∷ []) ++ X.stage_of s p q ≡ X.stages_of s q
  more n = rw e (stages_more 64 _ _ _ _ _ h (λ z. n (e ∙ z)))

  less : p < q
  less = rw e (start_falls _ _ _ _ h)

pub invariant_of-stage-2 : goal.invariant_of-stage-2
invariant_of-stage-2 t c = omega (arith, less c.args.clause.now c.args.q c.start_of-p.result (omega arith) c.start_of-p.ensures)

pub put_stage-requires : goal.put_stage-requires
put_stage-requires t c =
    record {
      last_in_bounds = (less c.args.clause.now c.args.q c.start_of-p.result (omega arith) c.start_of-p.ensures, omega arith);
      text_fits = omega (arith, ap length (one c.args.clause.now c.args.q c.start_of-p.result (omega arith) c.start_of-p.ensures c.if-p-eq0.true));
    }

pub returns-then-p-eq0 : goal.returns-then-p-eq0
returns-then-p-eq0 t c = recast (one c.args.clause.now c.args.q c.start_of-p.result (omega arith) c.start_of-p.ensures c.if-p-eq0.true) c.put_stage.ensures

pub put_stages-o-requires : goal.put_stages-o-requires
put_stages-o-requires t c =
    (omega (arith, less c.args.clause.now c.args.q c.start_of-p.result (omega arith) c.start_of-p.ensures), ((omega arith, omega (arith, less c.args.clause.now c.args.q c.start_of-p.result (omega arith) c.start_of-p.ensures)), omega (arith, simp length-append at (ap length (more c.args.clause.now c.args.q c.start_of-p.result (omega arith) c.start_of-p.ensures c.if-p-eq0.false)))))

pub put_byte-o-requires : goal.put_byte-o-requires
put_byte-o-requires t c = omega (arith, simp length-append at (ap length (more c.args.clause.now c.args.q c.start_of-p.result (omega arith) c.start_of-p.ensures c.if-p-eq0.false)))

pub put_stage-requires-2 : goal.put_stage-requires-2
put_stage-requires-2 t c =
    record {
      last_in_bounds = (less c.args.clause.now c.args.q c.start_of-p.result (omega arith) c.start_of-p.ensures, omega arith);
      text_fits = omega (arith, simp length-append at (ap length (more c.args.clause.now c.args.q c.start_of-p.result (omega arith) c.start_of-p.ensures c.if-p-eq0.false)));
    }

pub returns : goal.returns
returns t c = recast (more c.args.clause.now c.args.q c.start_of-p.result (omega arith) c.start_of-p.ensures c.if-p-eq0.false) (then (then c.put_stages-o.ensures c.put_byte-o.ensures) c.put_stage-2.ensures)
