-- A bound on the length of the annotation by the number of goals n and of variables v: n * 15 * (v + v * v) + 8 * n. A buffer as long as that takes every
-- such text, so it is written without being measured.
use mathlib.Core.Path.{◌≡◌, sym, ap, ◌∙◌, subst}
use mathlib.Core.Logic.{dite}
use mathlib.Core.Bool.{Bool, true, false, cond}
use mathlib.Core.List.{List, [], ◌∷◌, map}
use Prim.Native.Nat.{ℕ, zero, suc, ◌+◌, ◌-◌, ◌*◌, ◌≤◌, ◌<◌, ◌^◌, zero-le, suc-le-suc}
use native.Mathlib.Nat.{le_step, suc-mul, mul-le-mul_right}
use native.Mathlib.Decide.{ℕ_discrete}
use native.Mathlib.Omega.{arith}
use lib.ListN.{length, get_or, length-append, length-map}
use Rattle.sets.specs.Sets.{goal_limit, variable_limit, has, count, members_from, members}
use Rattle.sets.proofs.Members.{count-members, no_more}
use Rattle.buffer.specs.Text.{non_empty}
use Rattle.buffer.proofs.Decimal.{decimal-length}
use Rattle.mel_stages.specs.Mel.{Ground, Indep, start, checks}
use Rattle.mel_stages.specs.Masks.{given, once, twice, partners}
use Rattle.mel_stages.proofs.Words.{occurs_out, occurs_in, shared_out}
use Rattle.mel_stages.proofs.Masks.{has-once, has-twice}
use Rattle.mel_stages.specs.Plain.{All}
use Rattle.mel_stages.proofs.Stages.{all_append, by_stages, start_falls}
use Rattle.mel_checks.specs.CheckTexts.{pairs_of}
use Rattle.mel_text.specs.StageTexts.{ground_set, pair_set, checks_text, stage_text, stages_text, mel_text}
use Rattle.mel_text.proofs.Stages.{checks_masks, stages-one, stages_more, stage_parts, stage_one}
use Rattle.mel.proofs.PairCount.{others_out}
use Rattle.mel.proofs.Candidates.{ground-twice, candidate_once}
use Rattle.mel.proofs.Length.{Short, below_hundred, all_short, checks-length, goals_bound, arrow_length, none-text, mel_text_lem}

-- a set has no more members than the width
pub members_width : (w i m : ℕ) → length (members_from w i m) ≤ w
unfolding members_from
members_width zero i m = zero-le
members_width (suc w) i m = go (has m i) (members_width w (suc i) m)
  where
    go : (s : Bool) → length (members_from w (suc i) m) ≤ w → length (cond s (i ∷ members_from w (suc i) m) (members_from w (suc i) m)) ≤ suc w
    go true l = suc-le-suc l
    go false l = le_step l

-- the numbers of the bound fit a machine's number
pub square : (v : ℕ) → v ≤ variable_limit → v * v ≤ variable_limit * v
square v h = mul-le-mul_right v h

pub product : (n c : ℕ) → n ≤ goal_limit → n * c ≤ goal_limit * c
product n c h = mul-le-mul_right c h

module _ (w head : ℕ) (sets grounds listed : List ℕ) (n : ℕ) where
  -- the variables of the goals, and how many they are
  abbrev vars : ℕ
  vars = once sets 0 n

  abbrev v : ℕ
  v = length (members w vars)

  once_in : (p q x : ℕ) → q ≤ n → has (once sets p q) x ≡ true → has vars x ≡ true
  once_in p q x h e =
      let s = occurs_out sets p q x (sym (has-once sets p q x) ∙ e) in
      has-once sets 0 n x ∙ occurs_in sets 0 n x s.g (omega (arith, s.above)) (omega (arith, s.upto, h)) s.so

  twice_in : (p q x : ℕ) → q ≤ n → has (twice sets p q) x ≡ true → has vars x ≡ true
  twice_in p q x h e =
      let s = shared_out sets p q x (sym (has-twice sets p q x) ∙ e) in
      has-once sets 0 n x ∙ occurs_in sets 0 n x s.t (omega (arith, s.order)) (omega (arith, s.upto, h)) s.in_t

  gset_in : (p q x : ℕ) → q ≤ n → has (ground_set sets grounds p q) x ≡ true → has vars x ≡ true
  gset_in p q x h e = twice_in p q x h (ground-twice head sets grounds p q x e)

  kset_in : (p q x : ℕ) → q ≤ n → has (pair_set head sets grounds p q) x ≡ true → has vars x ≡ true
  kset_in p q x h e = once_in p q x h (candidate_once head sets grounds p q x e)

  pairs-count : (p q k : ℕ) → ((y : ℕ) → has k y ≡ true → has vars y ≡ true) → (l : List ℕ) → length (pairs_of w sets listed p q k l) ≤ length l * v
  unfolding pairs_of
  pairs-count p q k h [] = zero-le
  pairs-count p q k h (x ∷ l) =
      let others = partners sets p q k (get_or listed x 0) x in
      omega (
        arith,
        length-append (map (Indep x) (members w others)) (pairs_of w sets listed p q k l),
        length-map (members w others) (Indep x),
        no_more w 0 others vars (λ y e. h y (others_out w sets listed p q k x y e).1),
        pairs-count p q k h l,
        suc-mul (length l) v,
      )

  checks-count : (p q : ℕ) → q ≤ n → length (checks (given w head sets grounds listed) p q) ≤ v + v * v
  checks-count p q h =
      let g = members w (ground_set sets grounds p q) in
      let k = pair_set head sets grounds p q in
      omega (
        arith,
        ap length (checks_masks w head sets grounds listed p q),
        length-append (map Ground g) (pairs_of w sets listed p q k (members w k)),
        length-map g Ground,
        no_more w 0 (ground_set sets grounds p q) vars (λ x e. gset_in p q x h e),
        pairs-count p q k (λ y e. kset_in p q y h e) (members w k),
        mul-le-mul_right v (no_more w 0 k vars (λ x e. kset_in p q x h e)),
      )

  pub pairs_short : w ≤ 100 → (p q k : ℕ) (l : List ℕ) → All (λ x. x < 100) l → All Short (pairs_of w sets listed p q k l)
  unfolding pairs_of
  pairs_short u p q k [] a = tt
  pairs_short u p q k (x ∷ l) a =
      let others = partners sets p q k (get_or listed x 0) x in
      all_append Short (map (Indep x) (members w others)) (pairs_of w sets listed p q k l)
      (all_short (Indep x) (λ y h. (a.0, h)) (members w others) (below_hundred w 0 others (omega arith))) (pairs_short u p q k l a.1)

  -- with variables and goals of at most two digits
  module _ (narrow : w ≤ 100) (few : n < 100) where
    checks_short : (p q : ℕ) → All Short (checks (given w head sets grounds listed) p q)
    checks_short p q =
        let g = ground_set sets grounds p q in
        let k = pair_set head sets grounds p q in
        subst (All Short) (sym (checks_masks w head sets grounds listed p q))
        (all_append Short (map Ground (members w g)) (pairs_of w sets listed p q k (members w k))
        (all_short Ground (λ x h. h) (members w g) (below_hundred w 0 g (omega arith)))
        (pairs_short narrow p q k (members w k) (below_hundred w 0 k (omega arith))))

    checks_most : (p q : ℕ) → q ≤ n → length (checks_text w head sets grounds listed false p q) ≤ 15 * (v + v * v)
    unfolding checks_text
    checks_most p q h = omega (arith, checks-length false (checks (given w head sets grounds listed) p q) (checks_short p q), checks-count p q h)

    stage_most : (p q : ℕ) → q ≤ n → length (stage_text w head sets grounds listed p q) ≤ 15 * (v + v * v) + 3 * (q - p) + 4
    stage_most p q h =
        dite (ℕ_discrete q (p + 1))
        (λ e. omega (arith, ap length (stage_one w head sets grounds listed p q e), decimal-length 1 q (omega (arith, few, h))))
        (λ d. omega (arith, simp length-append at (ap length (stage_parts w head sets grounds listed p q d)), checks_most p q h, goals_bound p q (omega (arith, few, h)), arrow_length (non_empty (checks_text w head sets grounds listed false p q))))

    stages_most : (q : ℕ) → q ≤ n → length (stages_text w head sets grounds listed q) ≤ q * (15 * (v + v * v)) + 8 * q
    stages_most =
        by_stages w head sets (λ q. q ≤ n → length (stages_text w head sets grounds listed q) ≤ q * (15 * (v + v * v)) + 8 * q) (λ h. omega (arith, none-text w head sets grounds listed)) (λ q l ih h.
        let p = start w head sets q in
        let c = 15 * (v + v * v) in
        let f : suc p ≤ q = start_falls w head sets q l in
        dite (ℕ_discrete p 0)
        (λ e. omega (arith, f, ap length (stages-one w head sets grounds listed q l e), stage_most p q h, suc-mul p c, mul-le-mul_right c f))
        (λ d. omega (arith, f, ih (omega (arith, f, h)), simp length-append at (ap length (stages_more w head sets grounds listed q l d)), stage_most p q h, suc-mul p c, mul-le-mul_right c f)))

  -- a place in the text fits a machine's number
  pub text-fits : w ≤ variable_limit → n ≤ goal_limit → length (stages_text w head sets grounds listed n) < 2 ^ 63
  text-fits e h =
      let l : v ≤ variable_limit = omega (arith, e, members_width w 0 vars) in
      omega (arith, l, stages_most (omega arith) (omega arith) n (omega arith), square v l, product n (15 * (v + v * v)) h)

-- the whole text, with the variables counted by the code
whole_most : (w head : ℕ) (sets grounds listed : List ℕ) (m : ℕ) → m < 2 ^ w → m ≡ once sets 0 (length sets) → w ≤ 100 → length sets < 100
    → length (mel_text w head sets grounds listed) ≤ length sets * (15 * (count m + count m * count m)) + 8 * length sets
whole_most w head sets grounds listed m h e u l =
    let c : count m ≡ length (members w (once sets 0 (length sets))) = count-members w m h ∙ ap (λ (k : ℕ). length (members w k)) e in
    rw c (omega (arith, ap length (mel_text_lem w head sets grounds listed), stages_most w head sets grounds listed (length sets) u l (length sets) (omega arith)))

-- with 64 variables
pub text_most : (head : ℕ) (sets grounds listed : List ℕ) (m : ℕ) → m < 2 ^ 64 → m ≡ once sets 0 (length sets) → length sets < 100
    → length (mel_text variable_limit head sets grounds listed) ≤ length sets * (15 * (count m + count m * count m)) + 8 * length sets
text_most head sets grounds listed m h e l = whole_most variable_limit head sets grounds listed m h e (omega arith) l
