use Rattle.std.specs.Prelude.{Ok, Err}
use Rattle.annotator.specs.Answers.{check_outcome}
use Rattle.lfj_words.specs.Words.{check_word}
use Rattle.lfj.proofs.Words.{said}
use Rattle.lfj.proofs.lfj_check.Goals as goal

pub returns-in-Ok : goal.returns-in-Ok
unfolding check_word
returns-in-Ok c = said check_outcome check_word (Ok _) c.check.ensures c.in-Ok.is c.verdict.ensures

pub returns-in-Err : goal.returns-in-Err
unfolding check_word
returns-in-Err c = said check_outcome check_word (Err _) c.check.ensures c.in-Err.is c.refused.ensures
