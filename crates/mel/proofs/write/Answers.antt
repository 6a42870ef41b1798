use mathlib.Core.Path.{◌≡◌, ◌∙◌, ap}
use native.Mathlib.Omega.{arith}
use lib.ListN.{length}
use Rattle.std.proofs.lemmas.Result.{err_from_is_err_and}
use Rattle.record.proofs.WellFormed.{fine_well_formed}
use Rattle.record.specs.WellFormed.{WellFormed}
use Rattle.clause.specs.Clause.{decoded}
use Rattle.mel_text.specs.StageTexts as X
use Rattle.mel.specs.Annotation.{mel}
use Rattle.mel.proofs.Record.{clause-text, clause-length}
use Rattle.mel.proofs.Outcomes.{refused-answer, refused_buffer, fine-text}
use Rattle.mel.proofs.write.Goals as goal
use Rattle.mel.proofs.write.Goals.{In_ok-given, After-decode-c, After-new-clause}

-- the record was read
formed : (c : In_ok-given) → WellFormed c.args.b.now
formed c = fine_well_formed _ c.in_ok-given.ensures.0

-- its clause, and the text
is_decoded : (c : After-decode-c) → c.decode-c.result ≡ decoded c.args.b.now
is_decoded c = c.decode-c.ensures ∙ ap decoded c.in_ok-given.ensures.1

text : (c : After-new-clause) → WellFormed c.args.b.now → c.decode-c.result ≡ decoded c.args.b.now → X.mel_of c.new-clause.result ≡ mel c.args.b.now
text c w d =
    let s = c.new-clause.ensures in
    rw (s.head_is, s.sets_is, s.grounds_is, s.listed_is) (clause-text _ w _ d)

pub returns-in_err-given : goal.returns-in_err-given
returns-in_err-given c =
    let p = err_from_is_err_and c.from_residual.result c.from_residual.ensures.1 in
    let e = c.in_err-given.ensures in
    rw (p.1, p.2) (record { result_value = refused-answer _ _ _ e; out_after = refused_buffer _ _ _ e })

pub write_clause-requires : goal.write_clause-requires
write_clause-requires c =
    let w = formed (goal.at.write_clause-requires c).In_ok-given in
    omega (arith, ap length c.new-clause.ensures.sets_is, clause-length _ w _ (is_decoded (goal.at.write_clause-requires c).After-decode-c), w.goals_from)

pub returns : goal.returns
returns c =
    let w = c.write_clause.ensures in
    let i = (goal.at.returns c).In_ok-given in
    let t = text (goal.at.returns c).After-new-clause (formed i) (is_decoded (goal.at.returns c).After-decode-c) in
    let r = fine-text _ _ (w.result_value, w.out_after) t c.in_ok-given.ensures.0 in
    record { result_value = r.0; out_after = r.1 }
