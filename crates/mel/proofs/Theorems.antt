-- T10: what the definition of the annotation gives, in the words of `Plain` of `mel_stages`. For any width, any clause and any number of goals; at the end of the operation on a record,
-- and how long its text can be.
use mathlib.Core.Path.{◌≡◌, refl, sym, ◌∙◌}
use mathlib.Core.Logic.{◌↔◌, ⊎_elim}
use mathlib.Core.List.{List, ◌++◌}
use Prim.Native.Nat.{ℕ, ◌<◌, ◌≤◌}
use native.Mathlib.Omega.{arith}
use lib.ListN.{length, drop}
use Rattle.record.specs.WellFormed.{WellFormed}
use Rattle.record.proofs.WellFormed.{well_formed_fine, fine_well_formed}
use Rattle.record.proofs.Refusals.{refusal_number}
use Rattle.mel_stages.specs.Mel.{Facts, Ground, Indep, goals_from, stages, checks}
use Rattle.mel_stages.specs.Plain.{All, Among, goals_of, Sound, Grounded, Separate, Ascending}
use Rattle.mel_stages.proofs.Stages.{partition, stages_sound}
use Rattle.buffer.specs.Lent.{stored}
use Rattle.buffer.proofs.Lent.{fits_le}
use Rattle.record_rules.specs.Outcome.{refused, accepted, size_in}
use Rattle.record_rules.proofs.Outcomes.{size_fits, size_short, buffer_short, same_answer, same_buffer, told_apart, one_refusal, by_reading}
use Rattle.mel.specs.Annotation.{mel, mel_outcome, mel_answer, mel_buffer}
use Rattle.mel.specs.Limit.{MelLimit, NeverShort}
use Rattle.mel.proofs.Outcomes.{mel-fine}
use Rattle.mel.proofs.Limit.{limit}
use Rattle.mel_stages.proofs.Checks.{grounds_listed, listed_grounds, indeps_listed, listed_indeps, checks_ascend}

module _ (w head : ℕ) (sets : List ℕ) (n : ℕ) where
  -- The stages partition the goals 1 to n in clause order,
  pub stages_partition : goals_of (stages w head sets n) ≡ goals_from n 0
  stages_partition = partition w head sets n

  -- in each no variable outside the head first occurs and occurs again, and each is as long as it can be.
  pub stages_are_sound : All (Sound w head sets) (stages w head sets n)
  stages_are_sound = stages_sound w head sets n

module _ (c : Facts) (p q : ℕ) where
  -- The ground checks left are the variables that two goals of the stage hold and that are not known ground,
  pub ground-checks : (x : ℕ) → Among (Ground x) (checks c p q) ↔ ((x < c.width) × Grounded c p q x)
  ground-checks x = (λ h. grounds_listed c p q x h, λ h. listed_grounds c p q x h.0 h.1)

  -- the independence checks left are the pairs, lower first, of variables of two different goals, neither shared in the stage, not known
  -- independent, both in the head or in goals before the stage,
  pub indep_checks : (x y : ℕ) → Among (Indep x y) (checks c p q) ↔ ((y < c.width) × Separate c p q x y)
  indep_checks x y =
      (λ h. (indeps_listed c p q x y h).1, λ h. listed_indeps c p q x y (omega (arith, h.0, h.1.lower)) h.0 h.1)

  -- and they stand in ascending order, the ground checks first, none twice.
  pub checks_ascending : Ascending (checks c p q)
  checks_ascending = checks_ascend c p q

-- The length named by 12 is the text's. For every well-formed record a shorter buffer is refused with it and stays as it was, and a buffer of that length or more begins with the text.
module _ (b buf : List ℕ) (w : WellFormed b) where
  e : mel_outcome b ≡ accepted (mel b)
  e = mel-fine b (well_formed_fine b w)

  pub length_named : length buf < length (mel b) → (mel_answer b buf ≡ refused 12 (length (mel b))) × (mel_buffer b buf ≡ buf)
  length_named h = (
    same_answer buf e ∙ sym (size_short (mel b) buf refl h),
    same_buffer buf e ∙ sym (buffer_short (mel b) buf h),
  )

  pub length_enough : length (mel b) ≤ length buf → (mel_answer b buf ≡ accepted (length (mel b))) × (mel_buffer b buf ≡ mel b ++ drop (length (mel b)) buf)
  unfolding stored
  length_enough h = (
    same_answer buf e ∙ sym (size_fits (mel b) buf refl h),
    same_buffer buf e ∙ rw (fits_le (mel b) buf h),
  )

-- No text is longer than `mel_limit`, so a buffer of that length is never refused with 12.
pub mel_limit_lem : (b : List ℕ) → MelLimit b
mel_limit_lem b w = limit b w

pub mel_never_short : (b : List ℕ) → NeverShort b
unfolding mel_outcome
mel_never_short b buf p room =
    by_reading b (accepted (mel b)) (λ o. size_in o buf ≡ refused 12 p → ⊥)
    (λ r e h. let k = (one_refusal h).0 in ⊎_elim (λ l. absurd (omega (arith, k, l))) (λ l. absurd (omega (arith, k, l))) (refusal_number b r e))
    (λ e h. told_apart (sym (size_fits (mel b) buf refl (omega (arith, room, mel_limit_lem b (fine_well_formed b e))) ∙ h)))
