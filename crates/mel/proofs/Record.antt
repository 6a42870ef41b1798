-- The record's clause, and the sets that the code is given, have one annotation.
use mathlib.Core.Path.{◌≡◌, refl, sym, ap, ap₂, ◌∙◌}
use mathlib.Core.Bool.{Bool, true, ◌||◌, cond, or-false, or_assoc}
use mathlib.Core.List.{List, ◌∷◌, map}
use Prim.Native.Nat.{ℕ, zero, suc, ◌+◌, ◌-◌, ◌<◌, ◌≤◌}
use native.Mathlib.Nat.{le_of_suc-le-suc, not-suc-le-zero}
use native.Mathlib.Omega.{arith}
use lib.Dec.{ltb}
use lib.ListN.{length, take, get_or, length-map}
use borrow.Author.Tests.{lt-ltb}
use Rattle.logic.specs.Table.{table_from}
use Rattle.logic.proofs.Table.{table_at}
use Rattle.sets.specs.Sets.{goal_limit, variable_limit, has, set_of}
use Rattle.sets.proofs.Membership.{has_empty}
use Rattle.sets.proofs.Builder.{has-set_of_in}
use Rattle.independence.specs.Independence.{known_independent}
use Rattle.clause.specs.declared.Clause.{Clause}
use Rattle.clause.specs.Clause.{goal_sets, ground_sets, pair_rows, decoded}
use Rattle.clause.proofs.Decoded.{clause-few}
use Rattle.std.specs.Prelude.{Ok}
use Rattle.record_rules.specs.Reading.{reading}
use Rattle.record.proofs.WellFormed.{fine_well_formed}
use Rattle.record_fields.specs.Facts.{ground_at, free_at}
use Rattle.record_fields.specs.Fields.{goal_count, head_set, goal_set, listed}
use Rattle.record.specs.WellFormed.{WellFormed}
use Rattle.mel_stages.specs.Mel.{goal, goals_from}
use Rattle.mel_stages.specs.Masks.{given}
use Rattle.mel_stages.proofs.Same.{mel-same}
use Rattle.mel_text.specs.StageTexts.{mel_text}
use Rattle.mel.specs.Annotation.{facts_of, mel}

-- the first n places of a table that is full up to there
front : (f : ℕ → ℕ) (w n i : ℕ) → n ≤ w → take n (table_from w i (i + n) (λ k. f (suc k))) ≡ map f (goals_from n i)
unfolding table_from goals_from
front f w zero i h = refl
front f zero (suc n) i h = absurd (not-suc-le-zero h)
front f (suc w) (suc n) i h =
    let l : ltb i (i + suc n) ≡ true = lt-ltb i (i + suc n) (omega arith) in
    let e : i + suc n ≡ suc i + n = omega arith in
    ap₂ (λ (x : ℕ) (r : List ℕ). x ∷ r) (ap (λ (t : Bool). cond t (f (suc i)) 0) l)
    (ap (λ (k : ℕ). take n (table_from w (suc i) k (λ k. f (suc k)))) e ∙ front f w n (suc i) (le_of_suc-le-suc h))

pub goals-count : (n i : ℕ) → length (goals_from n i) ≡ n
unfolding goals_from
goals-count zero i = refl
goals-count (suc n) i = ap suc (goals-count n (suc i))

module _ (b : List ℕ) where
  abbrev in_order : List ℕ
  in_order = map (goal_set b) (goals_from (goal_count b) 0)

  sets_length : length in_order ≡ goal_count b
  sets_length = length-map (goals_from (goal_count b) 0) (goal_set b) ∙ goals-count (goal_count b) 0

  -- the sets of the goals, as the code takes them
  front_sets : goal_count b ≤ goal_limit → take (goal_count b) (goal_sets goal_limit b) ≡ in_order
  unfolding goal_sets
  front_sets h =
      let e : goal_count b ≡ 0 + goal_count b = omega arith in
      ap (λ (k : ℕ). take (goal_count b) (table_from goal_limit 0 k (λ i. goal_set b (suc i)))) e ∙ front (goal_set b) goal_limit (goal_count b) 0 h

  module _ (h : goal_count b ≤ goal_limit) where
    ground_at_lem : (n : ℕ) → 0 < n → n ≤ goal_count b → goal (ground_sets goal_limit b) n ≡ ground_at b n
    unfolding goal ground_sets
    ground_at_lem n z u =
        let i : suc (n - 1) ≡ n = omega (arith, z) in
        table_at goal_limit (goal_count b) (λ k. ground_at b (suc k)) (n - 1) (omega (arith, h, z, u)) (omega (arith, z, u)) ∙ ap (ground_at b) i

    row_at : (x y : ℕ) → x < variable_limit → y < variable_limit → has (get_or (pair_rows variable_limit b) x 0) y ≡ listed b x y
    unfolding pair_rows
    row_at x y lx ly =
        ap (λ (m : ℕ). has m y) (table_at variable_limit variable_limit (λ x. set_of variable_limit (listed b x)) x lx lx)
        ∙ has-set_of_in variable_limit (listed b x) y ly

    known_is : (t : Bool) (g x y : ℕ) → t ≡ listed b x y → t || has g x || has g y ≡ known_independent g 0 (listed b) x y
    unfolding known_independent
    known_is t g x y e =
        ap (λ (s : Bool). s || has g x || has g y) e
        ∙ or_assoc (listed b x y) (has g x) (has g y)
        ∙ sym (ap₂ (λ (u v : Bool). listed b x y || (has g x || has g y) || (u || v)) (has_empty x) (has_empty y) ∙ or-false (listed b x y || (has g x || has g y)))

    one-text : mel_text variable_limit (head_set b) in_order (ground_sets goal_limit b) (pair_rows variable_limit b) ≡ mel b
    unfolding mel_text given mel facts_of
    one-text =
        mel-same variable_limit (head_set b) in_order
        (λ g. goal (ground_sets goal_limit b) g) (λ g. ground_at b g)
        (λ g x y. has (get_or (pair_rows variable_limit b) x 0) y || has (goal (ground_sets goal_limit b) g) x || has (goal (ground_sets goal_limit b) g) y)
        (λ g. known_independent (ground_at b g) (free_at b g) (listed b))
        (λ n z u. ground_at_lem n z (omega (arith, u, sets_length)))
        (λ n x y z u lx ly.
        ap (λ (m : ℕ). has (get_or (pair_rows variable_limit b) x 0) y || has m x || has m y) (ground_at_lem n z (omega (arith, u, sets_length)))
        ∙ known_is (has (get_or (pair_rows variable_limit b) x 0) y) (ground_at b n) x y (row_at x y lx ly))

    -- the text that the code writes
    pub facts_text : mel_text variable_limit (head_set b) (take (goal_count b) (goal_sets goal_limit b)) (ground_sets goal_limit b) (pair_rows variable_limit b) ≡ mel b
    facts_text = ap (λ (l : List ℕ). mel_text variable_limit (head_set b) l (ground_sets goal_limit b) (pair_rows variable_limit b)) (front_sets h) ∙ one-text

    pub facts_length : length (take (goal_count b) (goal_sets goal_limit b)) ≡ goal_count b
    facts_length = ap length (front_sets h) ∙ sets_length

-- of a clause that was decoded
module _ (b : List ℕ) (w : WellFormed b) (c : Clause) (e : c ≡ decoded b) where
  pub clause-text : mel_text variable_limit c.head (take c.n c.sets) c.grounds c.listed ≡ mel b
  unfolding decoded
  clause-text = ap (λ (x : Clause). mel_text variable_limit x.head (take x.n x.sets) x.grounds x.listed) e ∙ facts_text b w.goals_to

  pub clause-length : length (take c.n c.sets) ≡ goal_count b
  unfolding decoded
  clause-length = ap (λ (x : Clause). length (take x.n x.sets)) e ∙ facts_length b w.goals_to

-- of one that was read
pub read_few : (b : List ℕ) (c : Clause) → reading b ≡ Ok tt → c ≡ decoded b → c.n ≤ 32
read_few b c e d = clause-few b (fine_well_formed b e) c d
