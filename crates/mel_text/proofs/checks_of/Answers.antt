use Rattle.std.proofs.Common.{ℕ, ◌≡◌, List, ap, ◌∙◌, get_or, arith}
use Rattle.mel_stages.specs.Masks as M
use Rattle.mel_stages.proofs.Masks.{upto_at}
use Rattle.mel_text.proofs.checks_of.Goals as goal
use Rattle.mel_text.proofs.checks_of.Goals.{After-goal-grounded}

-- the variables before the stage
met : (c : After-goal-grounded) →
    let a = c.args in
    get_or a.clause.now.before a.stage.after 0 ≡ M.once a.clause.now.sets.now 0 a.stage.after
met c =
    let a = c.args in
    ap (λ (l : List ℕ). get_or l a.stage.after 0) a.clause.now.before_is ∙ upto_at 33 _ _ (omega arith) (omega arith)

pub returns-clause-pairs_value : goal.returns-clause-pairs_value
returns-clause-pairs_value c =
    rw (c.candidates.ensures, c.counted-seen.ensures.once_is, c.counted-seen.ensures.twice_is, c.union-met.ensures, met (goal.at.returns-clause-pairs_value c).After-goal-grounded, c.goal-grounded.ensures)
