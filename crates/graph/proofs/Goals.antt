-- Laws of sets of goals: goal g is bit g - 1.
use mathlib.Core.Path.{◌≡◌, refl, sym, ap, ◌∙◌}
use mathlib.Core.Bool.{Bool, true, false, not, ◌&&◌, ◌||◌, true≢false, false≢true}
use Prim.Native.Nat.{ℕ, zero, suc, ◌^◌, ◌≤◌, ◌<◌}
use native.Mathlib.Omega.{arith}
use borrow.Author.Tests.{eq-eqb, eqb-true}
use Rattle.logic.proofs.Bools.{iff, and_l, and_r, and_i, not-true}
use Rattle.sets.specs.Sets.{has, union, meet, without, single, first, count}
use Rattle.sets.proofs.Membership.{has-union, has_meet, has-without, has-single, has_empty, member_below, first_least, first_member, ext}
use Rattle.sets.proofs.Members.{first_in_lem, count_less}
use Rattle.sets.proofs.Builder.{members_lt}
use Rattle.graph.specs.Graph.{has_goal}

pub goal-union : (a b g : ℕ) → has_goal (union a b) g ≡ has_goal a g || has_goal b g
goal-union a b zero = refl
goal-union a b (suc i) = has-union a b i

pub goal-meet : (a b g : ℕ) → has_goal (meet a b) g ≡ has_goal a g && has_goal b g
goal-meet a b zero = refl
goal-meet a b (suc i) = has_meet a b i

pub goal-without : (a b g : ℕ) → has_goal (without a b) g ≡ has_goal a g && not (has_goal b g)
goal-without a b zero = refl
goal-without a b (suc i) = has-without a b i

pub goal-none : (g : ℕ) → has_goal 0 g ≡ false
goal-none zero = refl
goal-none (suc i) = has_empty i

pub goal-single : (i : ℕ) → has_goal (single i) (suc i) ≡ true
goal-single i = has-single i i ∙ eq-eqb i i refl

pub single-goal : (i g : ℕ) → has_goal (single i) g ≡ true → g ≡ suc i
single-goal i zero h = absurd (false≢true h)
single-goal i (suc j) h = let e : i ≡ j = eqb-true i j (sym (has-single i j) ∙ h) in omega arith

-- ---- parts of a set
-- every goal of a is one of b
abbrev pub Part : ℕ → ℕ → Type 0
Part a b = (g : ℕ) → has_goal a g ≡ true → has_goal b g ≡ true

pub part_lt : (w a b : ℕ) → Part a b → b < 2 ^ w → a < 2 ^ w
part_lt w a b h l = members_lt w a (λ i e. member_below w b i l (h (suc i) e))

-- a part that is not all leaves a goal out
pub left_out : (w a b : ℕ) → Part a b → b < 2 ^ w → (a ≡ b → ⊥) → (g : ℕ) × (has_goal b g ≡ true) × (has_goal a g ≡ false)
left_out w a b h l n =
    let m = without b a in
    let lm : m < 2 ^ w = part_lt w m b (λ g e. and_first g e) l in
    let some : m ≡ 0 → ⊥ = λ z. n (ext w a b (part_lt w a b h l) l (λ i u. both i z)) in
    let x = first w m in
    let there : has m x ≡ true = first_member w m (first_in_lem w m lm some) in
    (suc x, and_first (suc x) there, and_second (suc x) there)
  where
    and_first : (g : ℕ) → has_goal (without b a) g ≡ true → has_goal b g ≡ true
    and_first g e = and_l (has_goal b g) (not (has_goal a g)) (sym (goal-without b a g) ∙ e)

    and_second : (g : ℕ) → has_goal (without b a) g ≡ true → has_goal a g ≡ false
    and_second g e = not-true (has_goal a g) (and_r (has_goal b g) (not (has_goal a g)) (sym (goal-without b a g) ∙ e))

    both : (i : ℕ) → without b a ≡ 0 → has a i ≡ has b i
    both i z = iff (has a i) (has b i) (λ t. h (suc i) t) (λ t. in_a (has a i) refl t)
      where
        in_a : (p : Bool) → has a i ≡ p → has b i ≡ true → has a i ≡ true
        in_a true e t = e
        in_a false e t =
            absurd (true≢false (sym (and_i (has b i) (not (has a i)) t (ap not e)) ∙ sym (has-without b a i) ∙ ap (λ (m : ℕ). has m i) z ∙ has_empty i))

-- and has fewer goals
pub part_less : (w a b : ℕ) → Part a b → b < 2 ^ w → (a ≡ b → ⊥) → count a < count b
part_less w a b h l n = go (left_out w a b h l n)
  where
    go : (g : ℕ) × (has_goal b g ≡ true) × (has_goal a g ≡ false) → count a < count b
    go (zero, t, f) = absurd (false≢true t)
    go (suc x, t, f) = count_less w a b x (part_lt w a b h l) l (λ j e. h (suc j) e) f t

-- ---- the lowest goal
module _ (w m : ℕ) (l : m < 2 ^ w) (g : ℕ) (h : has_goal m g ≡ true) where
  pub lowest_in : first w m < w
  lowest_in = first_in_lem w m l (λ z. true≢false (sym h ∙ ap (λ (x : ℕ). has_goal x g) z ∙ goal-none g))

  pub lowest-has : has_goal m (suc (first w m)) ≡ true
  lowest-has = first_member w m lowest_in

pub lowest_least : (w m g : ℕ) → has_goal m g ≡ true → suc (first w m) ≤ g
lowest_least w m zero h = absurd (false≢true h)
lowest_least w m (suc i) h =
    let n : (i < first w m) → ⊥ = λ l. true≢false (sym h ∙ first_least w m i l) in
    omega arith
