-- Examples of annotations; they hold by computation.
use Rattle.std.specs.Prelude.{◌≡◌, refl, List, [], ◌∷◌, map, ℕ}
use Rattle.logic.specs.Quantifiers.{some_below}
use Rattle.sets.specs.Sets.{variable_limit, has}
use Rattle.buffer.specs.Text.{join_from, non_empty, only}
use Rattle.buffer.specs.Decimal.{decimal, decimal_to}
use Rattle.mel_stages.specs.Mel.{Facts, goal, some_goal, those_from, goals_from, occurs, first_in, boundary, largest, start, shared, across, met, ground_check, indep_check, indeps_from, checks, stages_to, stages, check_text, checks_from, arrow_if, goals_text, stage_text, stages_text, mel_text}
use Rattle.mel_stages.specs.Masks.{given}

pub record Example : Type 0 where
  pub facts : Facts
  pub text : List ℕ

abbrev pub examples : List Example
examples =
    -- Head {0,1}, goals {1}, {0}, no facts: the lower variable first, although it is in the later goal: (indep(v0,v1)=>1&2)
    record { facts = given variable_limit 3 (2 ∷ 1 ∷ []) [] []; text = 40 ∷ 105 ∷ 110 ∷ 100 ∷ 101 ∷ 112 ∷ 40 ∷ 118 ∷ 48 ∷ 44 ∷ 118 ∷ 49 ∷ 41 ∷ 61 ∷ 62 ∷ 49 ∷ 38 ∷ 50 ∷ 41 ∷ [] } ∷
    -- The whole case of 01: head {0,1}, goals {0}, {1,2}, {0,2}, pairs 0 1 and 0 2: (1&2),3
    record { facts = given variable_limit 3 (1 ∷ 6 ∷ 5 ∷ []) [] (6 ∷ 1 ∷ 1 ∷ []); text = 40 ∷ 49 ∷ 38 ∷ 50 ∷ 41 ∷ 44 ∷ 51 ∷ [] } ∷
    []

pub examples_hold : map (λ d. mel_text d.facts) examples ≡ map (λ d. d.text) examples
unfolding given goal has some_goal some_below occurs first_in boundary largest start those_from goals_from shared across met ground_check indep_check indeps_from checks stages_to stages check_text checks_from arrow_if goals_text stage_text stages_text mel_text decimal decimal_to join_from non_empty only
examples_hold = refl
