use Rattle.std.specs.Prelude.{Ok, Err}
use mathlib.Core.Path.{refl}
use Rattle.record_rules.specs.Outcome.{outcome}
use Rattle.lfj_words.specs.Words.{read_word}
use Rattle.lfj.proofs.Words.{said}
use Rattle.lfj.proofs.lfj_read.Goals as goal

pub returns-in-Ok : goal.returns-in-Ok
unfolding read_word
returns-in-Ok c = said outcome read_word (Ok _) c.read.ensures c.in-Ok.is refl

pub returns-in-Err : goal.returns-in-Err
unfolding read_word
returns-in-Err c = said outcome read_word (Err _) c.read.ensures c.in-Err.is c.refused.ensures
