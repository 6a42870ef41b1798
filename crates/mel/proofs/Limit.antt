-- No annotation of a well-formed record is longer than `mel_limit`. A stage of one goal has no checks. A larger one of k goals, before which m variables were met, takes
-- (9386 * k + extra m) / 2 bytes at most, the comma behind it counted. Each stage has met more variables than the one before it, so all stages of 32 goals take
-- (9386 * 32 + 93975) / 2.
use mathlib.Core.Path.{◌≡◌, ap}
use mathlib.Core.Logic.{dite}
use mathlib.Core.Bool.{true, false}
use mathlib.Core.List.{List}
use Prim.Native.Nat.{ℕ, ◌+◌, ◌-◌, ◌*◌, ◌≤◌, ◌<◌}
use native.Mathlib.Decide.{ℕ_discrete}
use native.Mathlib.Omega.{arith}
use lib.ListN.{length, take, length-append}
use Rattle.sets.specs.Sets.{goal_limit, variable_limit, members}
use Rattle.buffer.specs.Text.{non_empty}
use Rattle.buffer.proofs.Decimal.{decimal-length}
use Rattle.record_fields.specs.Fields.{goal_count, head_set}
use Rattle.record.specs.WellFormed.{WellFormed}
use Rattle.clause.specs.Clause.{goal_sets, ground_sets, pair_rows}
use Rattle.mel_stages.specs.Mel.{checks, start}
use Rattle.mel_stages.specs.Masks.{given}
use Rattle.mel_stages.proofs.Stages.{by_stages, start_falls, start_is_boundary}
use Rattle.mel_checks.specs.CheckTexts.{grounds_text, pairs_text, pairs_of}
use Rattle.mel_text.specs.StageTexts.{ground_set, pair_set, checks_text, stage_text, stages_text}
use Rattle.mel_text.proofs.Stages.{checks-parts, stages-one, stages_more, stage_parts, stage_one}
use Rattle.mel.specs.Annotation.{mel}
use Rattle.mel.specs.Limit.{mel_limit}
use Rattle.mel.proofs.Length.{below_hundred, checks-length, grounds_length, no_comma, goals_bound, arrow_length, mel_text_lem}
use Rattle.mel.proofs.Bound.{members_width, pairs_short}
use Rattle.mel.proofs.Sizes.{size, size-apart}
use Rattle.mel.proofs.PairCount.{pairs, pairs_most}
use Rattle.mel.proofs.MetBefore.{before, met_more, shared-met}
use Rattle.mel.proofs.Candidates.{ground-shared, candidate_here, candidate_alone, candidate_met, candidate_free}
use Rattle.mel.proofs.StagePrice.{extra, extras, extras_more, extras_one, extras_all, checks_price}
use Rattle.mel.proofs.Record.{facts_text, facts_length}

-- a stage's text by the numbers of its checks, with variables and goals of at most two digits
module _ (w head : ℕ) (sets grounds listed : List ℕ) (narrow : w ≤ 100) where
  -- how many checks of each kind a stage has
  abbrev grounds_of : ℕ → ℕ → ℕ
  grounds_of p q = size w 0 (ground_set sets grounds p q)

  abbrev pairs_at_most : ℕ → ℕ → ℕ
  pairs_at_most p q = pairs w sets listed p q (pair_set head sets grounds p q) w 0

  checks_limit : (p q : ℕ) → length (checks_text w head sets grounds listed false p q) ≤ 12 * grounds_of p q + 15 * pairs_at_most p q
  unfolding checks_text grounds_text pairs_text pairs
  checks_limit p q =
      let g = ground_set sets grounds p q in
      let k = pair_set head sets grounds p q in
      omega (
        arith,
        no_comma (checks (given w head sets grounds listed) p q),
        simp length-append at (ap length (checks-parts w head sets grounds listed p q)),
        grounds_length (members w g) (below_hundred w 0 g (omega arith)),
        checks-length true (pairs_of w sets listed p q k (members w k)) (pairs_short w head sets grounds listed 0 narrow p q k (members w k) (below_hundred w 0 k (omega arith))),
      )

  stage_limit : (p q : ℕ) → q < 100 → (q ≡ p + 1 → ⊥) → length (stage_text w head sets grounds listed p q) ≤ 12 * grounds_of p q + 15 * pairs_at_most p q + 3 * (q - p) + 4
  stage_limit p q h d =
      omega (
        arith,
        simp length-append at (ap length (stage_parts w head sets grounds listed p q d)),
        checks_limit p q,
        goals_bound p q h,
        arrow_length (non_empty (checks_text w head sets grounds listed false p q)),
      )

module _ (head : ℕ) (sets grounds listed : List ℕ) where
  abbrev w : ℕ
  w = variable_limit

  -- how many variables are met before goal p + 1
  abbrev met : ℕ → ℕ
  met p = size w 0 (before head sets p)

  pairs_limit : (p q h : ℕ) →
      let k = pair_set head sets grounds p q in
      2 * pairs w sets listed p q k w 0 + 2 * h * size w 0 k ≤ size w 0 k * size w 0 k + (q - p) * (h * h)
  pairs_limit p q h =
      pairs_most w sets listed p q (pair_set head sets grounds p q) h (λ x e. candidate_here head sets grounds p q x e) (λ x e. candidate_alone head sets grounds p q x e)

  -- the last of the stages of goals 1 to q
  stage_most : (q : ℕ) → 0 < q → q < 100 →
      let p = start w head sets q in
      2 * length (stage_text w head sets grounds listed p q) + 2 ≤ (q - p) * 9386 + extra (met p)
  stage_most q l h =
      let p = start w head sets q in
      let f : p < q = start_falls w head sets q l in
      let g = ground_set sets grounds p q in
      let k = pair_set head sets grounds p q in
      dite (ℕ_discrete q (p + 1))
      (λ e. omega (arith, ap length (stage_one w head sets grounds listed p q e), decimal-length 1 q (omega arith)))
      (λ d.
      omega (
        arith,
        stage_limit w head sets grounds listed (omega arith) p q h d,
        checks_price (size w 0 k) (size w 0 g) (met p) (pairs w sets listed p q k w 0) (q - p) (omega arith)
            (size-apart w 0 k g (before head sets p)
            (λ x _ _ e. candidate_met head sets grounds p q x e)
            (λ x _ u e. shared-met head sets w q x (omega arith) (ground-shared head sets grounds p q x e))
            (λ x e. candidate_free head sets grounds p q x e))
            (members_width w 0 (before head sets p))
            (omega (arith, pairs_limit p q 0))
            (omega (arith, pairs_limit p q 25)),
      ))

  stages_most : (q : ℕ) → 0 < q → q < 100 → 2 * length (stages_text w head sets grounds listed q) + 2 ≤ q * 9386 + extras (met (start w head sets q))
  stages_most =
      by_stages w head sets
      (λ q. 0 < q → q < 100 → 2 * length (stages_text w head sets grounds listed q) + 2 ≤ q * 9386 + extras (met (start w head sets q)))
      (λ l h. absurd (omega arith))
      (λ q l ih _ h.
      let p = start w head sets q in
      let f : p < q = start_falls w head sets q l in
      dite (ℕ_discrete p 0)
      (λ e. omega (arith, ap length (stages-one w head sets grounds listed q l e), stage_most q l h, extras_one (met p)))
      (λ d.
      let o : 0 < p = omega arith in
      let r = start w head sets p in
      omega (
        arith,
        ih o (omega arith),
        simp length-append at (ap length (stages_more w head sets grounds listed q l d)),
        stage_most q l h,
        extras_more (met r) (met p) (met_more head sets w q p r (start_falls w head sets p o) (start_is_boundary w head sets q o)),
      )))

pub limit : (b : List ℕ) → WellFormed b → length (mel b) ≤ mel_limit
limit b r =
    let sets = take (goal_count b) (goal_sets goal_limit b) in
    let grounds = ground_sets goal_limit b in
    let listed = pair_rows variable_limit b in
    let n = facts_length b r.goals_to in
    let p = start variable_limit (head_set b) sets (length sets) in
    omega (
      arith,
      r.goals_to,
      ap length (facts_text b r.goals_to),
      n,
      ap length (mel_text_lem variable_limit (head_set b) sets grounds listed),
      stages_most (head_set b) sets grounds listed (length sets) (omega (arith, r.goals_from, n)) (omega (arith, r.goals_to, n)),
      extras_all (met (head_set b) sets grounds listed p) (members_width variable_limit 0 (before (head_set b) sets p)),
    )
