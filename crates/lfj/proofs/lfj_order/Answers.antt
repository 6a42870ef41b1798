use Rattle.std.specs.Prelude.{Ok, Err}
use mathlib.Core.Path.{refl}
use Rattle.record_rules.specs.Outcome.{outcome}
use Rattle.lfj_words.specs.Words.{read_word}
use Rattle.lfj.proofs.Words.{said}
use Rattle.lfj.proofs.After.{was_accepted}
use Rattle.lfj.proofs.Filled.{rows_fine, rows_refused}
use Rattle.lfj.proofs.lfj_order.Goals as goal

pub returns-in-Err : goal.returns-in-Err
unfolding read_word
returns-in-Err c =
    let e = c.order-answer.ensures.reading_value in
    let f = c.in-Err.is in record { value = said outcome read_word (Err _) e f c.refused.ensures; rows_after = rows_refused _ _ _ _ e f }

pub returns-in-Ok : goal.returns-in-Ok
unfolding read_word
returns-in-Ok c =
    let e = c.order-answer.ensures in
    let f = c.in-Ok.is in record { value = said outcome read_word (Ok _) e.reading_value f refl; rows_after = rows_fine _ _ (was_accepted _ e.reading_value f).0 e.graph_value }
