use Rattle.std.specs.Prelude.{Ok, Err}
use Rattle.record_rules.specs.Outcome.{outcome}
use Rattle.lfj_words.specs.Words.{mel_word}
use Rattle.lfj.proofs.Words.{said}
use Rattle.lfj.proofs.lfj_mel.Goals as goal

pub returns-in-Ok-clause-value : goal.returns-in-Ok-clause-value
unfolding mel_word
returns-in-Ok-clause-value c = said outcome mel_word (Ok _) c.mel.ensures.result_value c.in-Ok.is c.low.ensures

pub returns-in-Err-clause-value : goal.returns-in-Err-clause-value
unfolding mel_word
returns-in-Err-clause-value c = said outcome mel_word (Err _) c.mel.ensures.result_value c.in-Err.is c.refused.ensures
