-- The variables of a stage's checks: those of the ground checks are in two goals of the stage, and the candidates for independence checks in one, and met before.
use mathlib.Core.Path.{◌≡◌, sym, ◌∙◌}
use mathlib.Core.Bool.{true, false, not}
use mathlib.Core.List.{List}
use Prim.Native.Nat.{ℕ, ◌+◌}
use Rattle.logic.proofs.Bools.{and-true, and_l, not-true, clash}
use Rattle.sets.specs.Sets.{has, meet, without}
use Rattle.sets.proofs.Membership.{has_meet, has-without}
use Rattle.mel_stages.specs.Mel.{goal}
use Rattle.mel_stages.specs.Masks.{once, twice, candidates}
use Rattle.mel_stages.specs.Plain.{Twice}
use Rattle.mel_stages.proofs.Words.{Some, occurs_out, shared_out, shared_in}
use Rattle.mel_stages.proofs.Masks.{has-once, has-twice}
use Rattle.mel_text.specs.StageTexts.{ground_set, pair_set}
use Rattle.mel.proofs.MetBefore.{before}

module _ (head : ℕ) (sets grounds : List ℕ) (p q x : ℕ) where
  parts : has (pair_set head sets grounds p q) x ≡ true → (has (once sets p q) x ≡ true) × (has (before head sets p) x ≡ true) × (has (twice sets p q) x ≡ false)
  unfolding candidates
  parts e =
      let met = before head sets p in
      let both = meet (once sets p q) met in
      let kept = without both (twice sets p q) in
      let a = and_l (has kept x) (not (has (goal grounds (p + 1)) x)) (sym (has-without kept (goal grounds (p + 1)) x) ∙ e) in
      let b = and-true (has both x) (not (has (twice sets p q) x)) (sym (has-without both (twice sets p q) x) ∙ a) in
      let c = and-true (has (once sets p q) x) (has met x) (sym (has_meet (once sets p q) met x) ∙ b.0) in
      (c.0, c.1, not-true (has (twice sets p q) x) b.1)

  pub ground-twice : has (ground_set sets grounds p q) x ≡ true → has (twice sets p q) x ≡ true
  ground-twice g = and_l (has (twice sets p q) x) (not (has (goal grounds (p + 1)) x)) (sym (has-without (twice sets p q) (goal grounds (p + 1)) x) ∙ g)

  -- a variable of a ground check is in two goals of the stage
  pub ground-shared : has (ground_set sets grounds p q) x ≡ true → Twice sets p q x
  ground-shared g = shared_out sets p q x (sym (has-twice sets p q x) ∙ ground-twice g)

  module _ (e : has (pair_set head sets grounds p q) x ≡ true) where
    pub candidate_once : has (once sets p q) x ≡ true
    candidate_once = (parts e).0

    pub candidate_here : Some p q (λ g. has (goal sets g) x)
    candidate_here = occurs_out sets p q x (sym (has-once sets p q x) ∙ candidate_once)

    pub candidate_alone : Twice sets p q x → ⊥
    candidate_alone t = clash (has-twice sets p q x ∙ shared_in sets p q x t) (parts e).2

    pub candidate_met : has (before head sets p) x ≡ true
    candidate_met = (parts e).1

    pub candidate_free : has (ground_set sets grounds p q) x ≡ true → ⊥
    candidate_free g = clash (ground-twice g) (parts e).2
