-- The members of a set as an ascending list, and their count.
use mathlib.Core.Path.{◌≡◌, refl, sym, ap, ap₂, ◌∙◌, subst}
use mathlib.Core.Logic.{◌⊎◌, inl, inr, ⊎_elim}
use mathlib.Core.Bool.{Bool, true, false, not, ◌&&◌, ◌||◌, cond, true≢false, false≢true, and-true, and-false}
use mathlib.Core.List.{List, [], ◌∷◌}
use Prim.Native.Nat.{ℕ, zero, suc, ◌+◌, ◌/◌, ◌%◌, ◌^◌, ◌≤◌, ◌<◌, zero-le}
use native.Mathlib.Nat.{eq-or-lt_of_le, zero-add, mod-lt, lt_of_not-le, le_of_suc-le-suc, not-suc-le-zero, zero-lt-suc, le_refl}
use native.Mathlib.Numerals.{one-add}
use native.Mathlib.Omega.{arith}
use lib.ListN.{length}
use lib.Dec.{eqb}
use lib.Arith.{lt-one}
use lib.Count.{ones, ones_step}
use borrow.Author.Tests.{eq-eqb, ne_eqb, eqb-true}
use Rattle.logic.proofs.Bools.{by_test, iff, is_false, or_elim, or_l, or_r, cond_mono}
use Rattle.sets.specs.Sets.{has, without, single, first, count, members_from, members}
use Rattle.sets.proofs.Membership.{has-zero, has-suc, has-without, has-single, has_empty, none_empty, member_below, first_least, first_member}

two_pos : 0 < 2
two_pos = zero-lt-suc 1

-- ---- the members as a list, and their count

shifted : (w i m : ℕ) → length (members_from w (suc i) m) ≡ length (members_from w i (m / 2))
unfolding members_from
shifted zero i m = refl
shifted (suc w) i m = go (has m (suc i)) (has (m / 2) i) (has-suc m i) (shifted w (suc i) m)
  where
    go : (p q : Bool) → p ≡ q → length (members_from w (suc (suc i)) m) ≡ length (members_from w (suc i) (m / 2))
        → length (cond p (suc i ∷ members_from w (suc (suc i)) m) (members_from w (suc (suc i)) m))
        ≡ length (cond q (i ∷ members_from w (suc i) (m / 2)) (members_from w (suc i) (m / 2)))
    go true true e ih = ap suc ih
    go false false e ih = ih
    go true false e ih = absurd (true≢false e)
    go false true e ih = absurd (false≢true e)

pub count-members : (w m : ℕ) → m < 2 ^ w → count m ≡ length (members w m)
unfolding members_from ones
count-members zero m h = ap ones (lt-one h)
count-members (suc w) m h =
    ones_step m ∙ go (m % 2) refl (mod-lt m two_pos) (count-members w (m / 2) (omega arith) ∙ sym (shifted w 0 m))
  where
    go : (d : ℕ) → m % 2 ≡ d → d < 2 → count (m / 2) ≡ length (members_from w 1 m)
        → d + count (m / 2) ≡ length (cond (has m 0) (0 ∷ members_from w 1 m) (members_from w 1 m))
    go zero e l ih = rw (has-zero m ∙ ap (λ (x : ℕ). eqb x 1) e) (zero-add (count (m / 2)) ∙ ih)
    go (suc zero) e l ih = rw (has-zero m ∙ ap (λ (x : ℕ). eqb x 1) e) (one-add (count (m / 2)) ∙ ap suc ih)
    go (suc (suc d)) e l ih = absurd (not-suc-le-zero (le_of_suc-le-suc (le_of_suc-le-suc l)))

-- ---- the list has the members and nothing else

-- x stands in the list
abbrev pub In : ℕ → List ℕ → Type 0
In x [] = ⊥
In x (y ∷ l) = (x ≡ y) ⊎ In x l

pub in_members : (w i m x : ℕ) → In x (members_from w i m) → (i ≤ x) × (x < i + w) × (has m x ≡ true)
unfolding members_from
in_members zero i m x = λ h. absurd h
in_members (suc w) i m x =
    let rest : In x (members_from w (suc i) m) → (i ≤ x) × (x < i + suc w) × (has m x ≡ true) =
    λ h. let r = in_members w (suc i) m x h in (omega arith, omega arith, r.2)
    in
    by_test (λ (l : List ℕ). In x l → (i ≤ x) × (x < i + suc w) × (has m x ≡ true)) (has m i)
    (λ e. ⊎_elim (λ q. (omega arith, omega arith, ap (has m) q ∙ e)) rest) (λ e. rest)

pub members_in : (w i m x : ℕ) → i ≤ x → x < i + w → has m x ≡ true → In x (members_from w i m)
unfolding members_from
members_in zero i m x l h e = absurd (omega arith)
members_in (suc w) i m x l h e = go (λ k. members_in w (suc i) m x k (omega arith) e) (eq-or-lt_of_le l)
  where
    go : (i < x → In x (members_from w (suc i) m)) → (i ≡ x) ⊎ (i < x) → In x (cond (has m i) (i ∷ members_from w (suc i) m) (members_from w (suc i) m))
    go f (inl q) =
        by_test (In x) (has m i) (λ p. inl (sym q)) (λ p. absurd (false≢true (sym p ∙ ap (has m) q ∙ e)))
    go f (inr k) =
        let r = f k in
        by_test (In x) (has m i) (λ p. inr r) (λ p. r)

-- ---- the first member, and the others

from_cong : (k i a b : ℕ) → ((j : ℕ) → i ≤ j → has a j ≡ has b j) → members_from k i a ≡ members_from k i b
unfolding members_from
from_cong zero i a b h = refl
from_cong (suc k) i a b h = ap₂ (λ (t : Bool) (r : List ℕ). cond t (i ∷ r) r) (h i (le_refl i)) (from_cong k (suc i) a b (λ j l. h j (omega arith)))

-- what is left without x
pub other : (m x j : ℕ) → (x ≡ j → ⊥) → has (without m (single x)) j ≡ has m j
other m x j n = has-without m (single x) j ∙ ap (λ (t : Bool). has m j && not t) (has-single x j ∙ ne_eqb x j n) ∙ and-true (has m j)

pub gone : (m x : ℕ) → has (without m (single x)) x ≡ false
gone m x = has-without m (single x) x ∙ ap (λ (t : Bool). has m x && not t) (has-single x x ∙ eq-eqb x x refl) ∙ and-false (has m x)

from_first : (k i m x : ℕ) → ((j : ℕ) → j < x → has m j ≡ false) → has m x ≡ true → i ≤ x → x < i + k
    → members_from k i m ≡ x ∷ members_from k i (without m (single x))
unfolding members_from
from_first zero i m x least e l u = absurd (omega arith)
from_first (suc k) i m x least e l u =
    ⊎_elim
    (λ s.
    let hi : has m i ≡ true = ap (has m) s ∙ e in
    let gi : has (without m (single x)) i ≡ false = ap (has (without m (single x))) s ∙ gone m x in
    rw (hi, gi) (ap₂ (λ (a : ℕ) (r : List ℕ). a ∷ r) s (from_cong k (suc i) m (without m (single x)) (λ j g. sym (other m x j (λ d. absurd (omega arith)))))))
    (λ g. rw (least i g, other m x i (λ d. absurd (omega arith)) ∙ least i g) (from_first k (suc i) m x least e g (omega arith)))
    (eq-or-lt_of_le l)

pub first_in_lem : (w m : ℕ) → m < 2 ^ w → (m ≡ 0 → ⊥) → first w m < w
first_in_lem w m h n = lt_of_not-le (λ (l : w ≤ first w m). n (none_empty m (λ i. is_false (has m i) (λ e. true≢false (sym e ∙ first_least w m i (omega (arith, l, member_below w m i h e)))))))

pub members_step : (w m : ℕ) → m < 2 ^ w → (m ≡ 0 → ⊥) → members w m ≡ first w m ∷ members w (without m (single (first w m)))
members_step w m h n =
    let l = first_in_lem w m h n in
    from_first w 0 m (first w m) (λ j g. first_least w m j g) (first_member w m l) zero-le (omega arith)

from-none : (k i : ℕ) → members_from k i 0 ≡ []
unfolding members_from
from-none zero i = refl
from-none (suc k) i = rw (has_empty i) (from-none k (suc i))

pub members-none : (w : ℕ) → members w 0 ≡ []
members-none w = from-none w 0

-- a loop that takes the first member off comes to an end
pub fewer : (w m : ℕ) → m < 2 ^ w → (m ≡ 0 → ⊥) → length (members w (without m (single (first w m)))) < length (members w m)
fewer w m h n = omega (arith, ap length (members_step w m h n))

-- ---- a turn of a loop over the members: i is the first of the set m, and n has the others

-- the head of the list is below what follows it
head_below : (k s m i : ℕ) (l : List ℕ) → members_from k s m ≡ i ∷ l → (j : ℕ) → In j l → i < j
unfolding members_from
head_below zero s m i l = λ e j h. absurd (cc)
head_below (suc k) s m i l = go (λ e. head_below k (suc s) m i l e) (has m s) refl
  where
    go : (members_from k (suc s) m ≡ i ∷ l → (j : ℕ) → In j l → i < j) → (p : Bool) → has m s ≡ p → cond p (s ∷ members_from k (suc s) m) (members_from k (suc s) m) ≡ i ∷ l → (j : ℕ) → In j l → i < j
    go f true q e j h =
        let same : s ≡ i = cc in
        let rest : members_from k (suc s) m ≡ l = cc in
        let a = in_members k (suc s) m j (subst (In j) (sym rest) h) in
        omega arith
    go f false q e j h = f e j h

module _ (w m i n : ℕ) (e : members w m ≡ i ∷ members w n) where
  pub step_in : i < w
  step_in = let a = in_members w 0 m i (subst (In i) (sym e) (inl refl)) in omega arith

  pub step_has : (j : ℕ) → j < w → has m j ≡ (eqb i j || has n j)
  step_has j l = iff (has m j) (eqb i j || has n j) there back
    where
      there : has m j ≡ true → (eqb i j || has n j) ≡ true
      there h =
          ⊎_elim (λ (q : j ≡ i). or_l (eqb i j) (has n j) (eq-eqb i j (sym q)))
          (λ (q : In j (members w n)). or_r (eqb i j) (has n j) (in_members w 0 n j q).2)
          (subst (In j) e (members_in w 0 m j zero-le (omega arith) h))

      back : (eqb i j || has n j) ≡ true → has m j ≡ true
      back h =
          or_elim (eqb i j) (has n j) h
          (λ q. (in_members w 0 m j (subst (In j) (sym e) (inl (sym (eqb-true i j q))))).2)
          (λ q. (in_members w 0 m j (subst (In j) (sym e) (inr (members_in w 0 n j zero-le (omega arith) q)))).2)

  pub step_gone : has n i ≡ false
  step_gone =
      is_false (has n i)
      (λ q.
      let l : i < i = head_below w 0 m i (members w n) e i (members_in w 0 n i zero-le (let b = step_in in omega arith) q) in
      absurd (omega arith))

-- at the end of the loop
pub step_none : (w m : ℕ) → members w m ≡ [] → (j : ℕ) → j < w → has m j ≡ false
step_none w m e j l = is_false (has m j) (λ h. subst (In j) e (members_in w 0 m j zero-le (omega arith) h))

-- ---- a proper subset has a smaller count

pub size_step : (k i m : ℕ) → length (members_from (suc k) i m) ≡ cond (has m i) 1 0 + length (members_from k (suc i) m)
unfolding members_from
size_step k i m = go (has m i)
  where
    go : (p : Bool) → length (cond p (i ∷ members_from k (suc i) m) (members_from k (suc i) m)) ≡ cond p 1 0 + length (members_from k (suc i) m)
    go true = omega arith
    go false = omega arith

-- a set has no more members than one that holds them all
pub no_more : (k i a b : ℕ) → ((j : ℕ) → has a j ≡ true → has b j ≡ true) → length (members_from k i a) ≤ length (members_from k i b)
unfolding members_from
no_more zero i a b h = zero-le
no_more (suc k) i a b h = omega (arith, size_step k i a, size_step k i b, cond_mono (has a i) (has b i) (h i), no_more k (suc i) a b h)

pub members_less : (k i a b x : ℕ) → ((j : ℕ) → has a j ≡ true → has b j ≡ true) → i ≤ x → x < i + k → has a x ≡ false → has b x ≡ true
    → length (members_from k i a) < length (members_from k i b)
members_less zero i a b x h l u f t = absurd (omega arith)
members_less (suc k) i a b x h l u f t =
    ⊎_elim
    (λ s.
    let p : has a i ≡ false = ap (has a) s ∙ f in
    let q : has b i ≡ true = ap (has b) s ∙ t in
    let ea : length (members_from (suc k) i a) ≡ length (members_from k (suc i) a) = size_step k i a ∙ rw p (zero-add (length (members_from k (suc i) a))) in
    let eb : length (members_from (suc k) i b) ≡ 1 + length (members_from k (suc i) b) = size_step k i b ∙ rw q in
    omega (arith, no_more k (suc i) a b h))
    (λ g. omega (arith, size_step k i a, size_step k i b, cond_mono (has a i) (has b i) (h i), members_less k (suc i) a b x h g (omega arith) f t))
    (eq-or-lt_of_le l)

pub count_less : (w a b x : ℕ) → a < 2 ^ w → b < 2 ^ w → ((j : ℕ) → has a j ≡ true → has b j ≡ true) → has a x ≡ false → has b x ≡ true
    → count a < count b
count_less w a b x ha hb h f t =
    omega (arith, count-members w a ha, count-members w b hb, members_less w 0 a b x h zero-le (omega (arith, member_below w b x hb t)) f t)
