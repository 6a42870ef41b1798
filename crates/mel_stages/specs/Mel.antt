-- The MEL annotation (01, "The MEL annotation"; document 003, section 3.3, steps 1 to 5), for any number of goals and of variables.
-- Goals are numbered from 1; "goals p+1 to q" are given by p and q.
use Rattle.std.specs.Prelude.{Bool, false, not, ◌&&◌, ◌||◌, cond, List, [], ◌∷◌, ◌++◌, map, ℕ, zero, suc, ◌+◌, ◌-◌, ltb, eqb, length, get_or}
use Rattle.logic.specs.Quantifiers.{some_below}
use Rattle.sets.specs.Sets.{has}
use Rattle.buffer.specs.Text.{join_from, non_empty}
use Rattle.buffer.specs.Decimal.{decimal}

-- What the annotation reads of a clause. Every variable is below width; sets holds the goals' variable sets, goal 1 first. grounded g is the set of
-- the variables known ground at goal g, known g x y says that x and y are known independent there (003's I).
pub record Facts : Type 0 where
  pub width : ℕ
  pub head : ℕ
  pub sets : List ℕ
  pub grounded : ℕ → ℕ
  pub known : ℕ → ℕ → ℕ → Bool

-- the variable set of goal g
unfoldable pub goal : List ℕ → ℕ → ℕ
goal sets g = get_or sets (g - 1) 0

-- f holds of one of the goals p+1 to q
unfoldable pub some_goal : ℕ → ℕ → (ℕ → Bool) → Bool
some_goal p zero f = false
some_goal p (suc q) f = some_goal p q f || (ltb p (suc q) && f (suc q))

-- the numbers of which f holds, ascending, among the k from x on
unfoldable pub those_from : ℕ → ℕ → (ℕ → Bool) → List ℕ
those_from zero x f = []
those_from (suc k) x f = let r = those_from k (suc x) f in cond (f x) (x ∷ r) r

-- the goals p+1 to p+k, ascending
unfoldable pub goals_from : ℕ → ℕ → List ℕ
goals_from zero p = []
goals_from (suc k) p = suc p ∷ goals_from k (suc p)

-- A stage (01's term): the goals after `after`, up to `last`. 003's B2.
pub record Stage : Type 0 where
  pub after : ℕ
  pub last : ℕ

-- a ground check of a variable, an independence check of two
pub data Check : Type 0 where
  Ground : ℕ → Check
  Indep : ℕ → ℕ → Check

module _ (sets : List ℕ) where
  -- x occurs in one of the goals p+1 to q
  unfoldable pub occurs : ℕ → ℕ → ℕ → Bool
  occurs p q x = some_goal p q (λ g. has (goal sets g) x)

  -- Step 2. "the variables that occur in two or more of its goals"
  unfoldable pub shared : ℕ → ℕ → ℕ → Bool
  shared p q x = some_goal p q (λ s. some_goal p q (λ t. ltb s t && (has (goal sets s) x && has (goal sets t) x)))

  -- Step 2. "variables, from two different goals of the stage"
  unfoldable pub across : ℕ → ℕ → ℕ → ℕ → Bool
  across p q x y = some_goal p q (λ s. some_goal p q (λ t. not (eqb s t) && (has (goal sets s) x && has (goal sets t) y)))

module _ (head : ℕ) (sets : List ℕ) where
  -- Step 1. "variable outside the head first occurs in goal p"
  unfoldable pub first_in : ℕ → ℕ → Bool
  first_in p x = has (goal sets p) x && not (has head x) && not (occurs sets 0 (p - 1) x)

  -- x is "in the head" or "in goals 1 to p"
  unfoldable pub met : ℕ → ℕ → Bool
  met p x = has head x || occurs sets 0 p x

module _ (w head : ℕ) (sets : List ℕ) where
  -- Step 1. "some variable outside the head first occurs in goal p and occurs again in a goal p+1 to q"
  unfoldable pub boundary : ℕ → ℕ → Bool
  boundary q p = some_below w (λ x. first_in head sets p x && occurs sets p q x)

  -- "find the largest p such that"; "p is 0 if there is none": the largest up to m
  unfoldable pub largest : ℕ → ℕ → ℕ
  largest q zero = 0
  largest q (suc m) = cond (boundary q (suc m)) (suc m) (largest q m)

  -- the p of "goals 1 to q"
  unfoldable pub start : ℕ → ℕ
  start q = largest q q

  -- Step 5. "Goals p+1 to q are one stage"; "repeat with q = p until p is 0": the stages of goals 1 to q, k of them at most. The last stage stands
  -- after those of goals 1 to p.
  unfoldable pub stages_to : ℕ → ℕ → List Stage
  stages_to zero q = []
  stages_to (suc k) q = cond (eqb q 0) [] (stages_to k (start q) ++ (record { after = start q; last = q } ∷ []))

  -- a stage has a goal, so q stages are enough
  unfoldable pub stages : ℕ → List Stage
  stages q = stages_to q q

-- The checks of the stage p+1 to q. What is known is taken at its first goal, p + 1 (003's I of B p+1).
module _ (c : Facts) where
  -- Steps 2 and 3. "Its ground checks are the variables that occur in two or more of its goals"; "drop ground checks that are known"
  unfoldable pub ground_check : ℕ → ℕ → ℕ → Bool
  ground_check p q x = shared c.sets p q x && not (has (c.grounded (p + 1)) x)

  -- Steps 2 and 3. "Its independence checks are the unordered pairs of variables, from two different goals of the stage, neither in the first list";
  -- drop "pairs that are known independent or that hold a variable neither in the head nor in goals 1 to p" (the last by 003's note on its example)
  unfoldable pub indep_check : ℕ → ℕ → ℕ → ℕ → Bool
  indep_check p q x y =
      (ltb x y && across c.sets p q x y && not (shared c.sets p q x || shared c.sets p q y))
      && not (c.known (p + 1) x y || not (met c.head c.sets p x) || not (met c.head c.sets p y))

  -- those of the k lower variables from x on, "lower first and ascending"
  unfoldable pub indeps_from : ℕ → ℕ → ℕ → ℕ → List Check
  indeps_from zero x p q = []
  indeps_from (suc k) x p q = map (Indep x) (those_from c.width 0 (indep_check p q x)) ++ indeps_from k (suc x) p q

  -- the ground checks, "ascending, then" the independence checks
  unfoldable pub checks : ℕ → ℕ → List Check
  checks p q = map Ground (those_from c.width 0 (ground_check p q)) ++ indeps_from c.width 0 p q

-- ---- the text

-- "`ground(v0)`", "`indep(v0,v1)`"
unfoldable pub check_text : Check → List ℕ
check_text (Ground x) = (103 ∷ 114 ∷ 111 ∷ 117 ∷ 110 ∷ 100 ∷ 40 ∷ 118 ∷ []) ++ decimal x ++ (41 ∷ [])
check_text (Indep x y) = (105 ∷ 110 ∷ 100 ∷ 101 ∷ 112 ∷ 40 ∷ 118 ∷ []) ++ decimal x ++ (44 ∷ 118 ∷ []) ++ decimal y ++ (41 ∷ [])

-- checks "joined by `,`", with one before the first where more holds
unfoldable pub checks_from : Bool → List Check → List ℕ
checks_from more l = join_from more 44 (map check_text l)

-- `=>`, or nothing
unfoldable pub arrow_if : Bool → List ℕ
arrow_if on = cond on (61 ∷ 62 ∷ []) []

-- `1&2`, "goals ascending"
unfoldable pub goals_text : ℕ → ℕ → List ℕ
goals_text p q = join_from false 38 (map decimal (goals_from (q - p) p))

-- Step 4. "A stage of one goal is written as its number. A larger stage is `(checks=>1&2)`, goals ascending, or `(1&2)` without checks."
unfoldable pub stage_text : Facts → Stage → List ℕ
stage_text c s =
    let t = checks_from false (checks c s.after s.last) in
    cond (eqb s.last (s.after + 1)) (decimal s.last)
    ((40 ∷ []) ++ t ++ arrow_if (non_empty t) ++ goals_text s.after s.last ++ (41 ∷ []))

-- Step 5. "Stages are joined by `,` in clause order": those of goals 1 to q
unfoldable pub stages_text : Facts → ℕ → List ℕ
stages_text c q = join_from false 44 (map (stage_text c) (stages c.width c.head c.sets q))

-- "starting with q = n": the annotation of the clause
unfoldable pub mel_text : Facts → List ℕ
mel_text c = stages_text c (length c.sets)
