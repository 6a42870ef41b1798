use Rattle.std.specs.Prelude.{Ok, Err}
use Rattle.record_rules.specs.Outcome.{outcome}
use Rattle.lfj.specs.Calls.{text_word}
use Rattle.lfj.proofs.Words.{said}
use Rattle.lfj.proofs.lfj_goal_text.Goals as goal

pub returns-in-Ok : goal.returns-in-Ok
unfolding text_word
returns-in-Ok c = said outcome text_word (Ok _) c.find_text.ensures c.in-Ok.is c.span.ensures

pub returns-in-Err : goal.returns-in-Err
unfolding text_word
returns-in-Err c = said outcome text_word (Err _) c.find_text.ensures c.in-Err.is c.refused.ensures
