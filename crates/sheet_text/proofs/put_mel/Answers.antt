use mathlib.Core.Path.{sym, ap, ◌∙◌}
use lib.ListN.{length}
use Rattle.record.proofs.WellFormed.{fine_well_formed}
use Rattle.buffer.proofs.Writing.{recast}
use Rattle.sheet_text.proofs.Mel.{mel_done, mel-refused, shown-fits, shown-past, rest-fits, rest-past}
use Rattle.sheet_text.proofs.put_mel.Goals as goal

pub returns-in-Ok-clause-mel_value : goal.returns-in-Ok-clause-mel_value
returns-in-Ok-clause-mel_value c =
    let d = mel_done _ (fine_well_formed _ c.args.given.accepted) _ c.requires.text_len c.in-Ok.n c.write.ensures.result_value c.in-Ok.is in
    d.1 ∙ sym (ap length (shown-fits _ d.0))

pub returns-in-Ok-clause-wrote : goal.returns-in-Ok-clause-wrote
returns-in-Ok-clause-wrote c =
    let d = mel_done _ (fine_well_formed _ c.args.given.accepted) _ c.requires.text_len c.in-Ok.n c.write.ensures.result_value c.in-Ok.is in
    recast (rest-fits _ d.0) c.put_byte-end.ensures

pub returns-in-Err-clause-mel_value : goal.returns-in-Err-clause-mel_value
returns-in-Err-clause-mel_value c =
    let d = mel-refused _ (fine_well_formed _ c.args.given.accepted) _ c.requires.text_len c.in-Err.r c.write.ensures.result_value c.in-Err.is in
    sym (ap length (shown-past _ d.0))

pub returns-in-Err-clause-wrote : goal.returns-in-Err-clause-wrote
returns-in-Err-clause-wrote c =
    let d = mel-refused _ (fine_well_formed _ c.args.given.accepted) _ c.requires.text_len c.in-Err.r c.write.ensures.result_value c.in-Err.is in
    recast (rest-past _ _ _ d.0 d.1 d.2) c.put_refused-end.ensures.wrote
