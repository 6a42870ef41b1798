-- The texts of stages, by masks.
use Rattle.std.specs.Prelude.{Bool, List, ℕ, ◌+◌}
use Rattle.sets.specs.Sets.{variable_limit, union, without}
use Rattle.mel_stages.specs.Mel as W
use Rattle.mel_stages.specs.Mel.{goal, checks_from, checks}
use Rattle.mel_stages.specs.Masks.{given, once, twice, candidates}
use Rattle.mel_stages.specs.declared.Staged.{Staged}

-- the variables of the ground checks of the stage p+1 to q, and those that its independence checks are made of
abbrev pub ground_set : List ℕ → List ℕ → ℕ → ℕ → ℕ
ground_set sets grounds p q = without (twice sets p q) (goal grounds (p + 1))

abbrev pub pair_set : ℕ → List ℕ → List ℕ → ℕ → ℕ → ℕ
pair_set head sets grounds p q = candidates (once sets p q) (twice sets p q) (union head (once sets 0 p)) (goal grounds (p + 1))

-- the texts of a clause of w variables that is given as sets
module _ (w head : ℕ) (sets grounds listed : List ℕ) where
  -- the checks of a stage, a comma before each, and before the first where more holds
  unfoldable pub checks_text : Bool → ℕ → ℕ → List ℕ
  checks_text more p q = checks_from more (checks (given w head sets grounds listed) p q)

  unfoldable pub stage_text : ℕ → ℕ → List ℕ
  stage_text p q = W.stage_text (given w head sets grounds listed) (record { after = p; last = q })

  unfoldable pub stages_text : ℕ → List ℕ
  stages_text q = W.stages_text (given w head sets grounds listed) q

  unfoldable pub mel_text : List ℕ
  mel_text = W.mel_text (given w head sets grounds listed)

-- the same of a clause as the code has it
module _ (c : Staged) where
  abbrev pub checks_of : Bool → ℕ → ℕ → List ℕ
  checks_of more p q = checks_text variable_limit c.head c.sets.now c.grounds.now c.listed.now more p q

  abbrev pub stage_of : ℕ → ℕ → List ℕ
  stage_of p q = stage_text variable_limit c.head c.sets.now c.grounds.now c.listed.now p q

  abbrev pub stages_of : ℕ → List ℕ
  stages_of q = stages_text variable_limit c.head c.sets.now c.grounds.now c.listed.now q

  abbrev pub mel_of : List ℕ
  mel_of = mel_text variable_limit c.head c.sets.now c.grounds.now c.listed.now
