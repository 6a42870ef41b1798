-- A loop that looks for the first answer among the goals 1 to n, by their places or by the members of a set of candidates: place i is goal i + 1.
use mathlib.Core.Path.{◌≡◌, refl, sym, ap, ◌∙◌, subst}
use mathlib.Core.Bool.{Bool, true, false, cond}
use mathlib.Core.List.{List, [], ◌∷◌}
use mathlib.Core.Logic.{dite, inl, inr, ⊎_elim}
use mathlib.Core.Option.{Option, none, some}
use Prim.Native.Nat.{ℕ, zero, suc, ◌+◌, ◌-◌, ◌^◌, ◌<◌, ◌≤◌}
use native.Mathlib.Decide.{dec_lt, ℕ_discrete}
use native.Mathlib.Numerals.{add-one}
use native.Mathlib.Omega.{arith}
use Rattle.logic.proofs.Bools.{is_false}
use Rattle.sets.specs.Sets.{has, members, members_from}
use Rattle.sets.proofs.Membership.{member_below}
use Rattle.sets.proofs.Members.{In, in_members, members_in}
use Rattle.expression.specs.Search.{or_else, first_in}

-- nothing was found below place i
pub record Passed {A : Type 0} (n : ℕ) (f : ℕ → Option A) (i : ℕ) : Type 0 where
  pub same : first_in f 1 n ≡ first_in f (suc i) (n - i)

module _ {A : Type 0} (n : ℕ) (f : ℕ → Option A) where
  at_more : (i : ℕ) → i < n → first_in f (suc i) (n - i) ≡ or_else (f (suc i)) (first_in f (suc (i + 1)) (n - (i + 1)))
  at_more i l = let e : n - i ≡ suc (n - (i + 1)) = omega arith in rw (e, add-one i)

  at-end : (i : ℕ) → n ≤ i → first_in f (suc i) (n - i) ≡ none
  at-end i l = let e : n - i ≡ 0 = omega arith in rw e

  pub passed_none : Passed n f 0
  passed_none = let e : n - 0 ≡ n = omega arith in record { same = rw e }

  pub passed_more : (i : ℕ) → i < n → f (suc i) ≡ none → Passed n f i → Passed n f (i + 1)
  passed_more i l e p = record { same = p.same ∙ at_more i l ∙ ap (λ (x : Option A). or_else x (first_in f (suc (i + 1)) (n - (i + 1)))) e }

  pub passed_hit : (q : A) (i : ℕ) → i < n → f (suc i) ≡ some q → Passed n f i → first_in f 1 n ≡ some q
  passed_hit q i l e p = p.same ∙ at_more i l ∙ ap (λ (x : Option A). or_else x (first_in f (suc (i + 1)) (n - (i + 1)))) e

  pub passed_all : (i : ℕ) → n ≤ i → Passed n f i → first_in f 1 n ≡ none
  passed_all i l p = p.same ∙ at-end i l

  -- the first k places can be left out
  pub passed_skip : (k : ℕ) → ((i : ℕ) → i < k → i < n → f (suc i) ≡ none) → Passed n f k
  passed_skip zero h = passed_none
  passed_skip (suc k) h =
      let p = passed_skip k (λ i l m. h i (omega arith) m) in
      dite (dec_lt k n) (λ l. subst (Passed n f) (add-one k) (passed_more k l (h k (omega arith) l) p))
      (λ l. record { same = passed_all k (omega arith) p ∙ sym (at-end (suc k) (omega arith)) })

  pub nowhere : ((i : ℕ) → i < n → f (suc i) ≡ none) → first_in f 1 n ≡ none
  nowhere h = passed_all n (omega arith) (passed_skip n (λ i l m. h i m))

-- the first of the members is the lowest
head_least : (w i m x : ℕ) (r : List ℕ) → members_from w i m ≡ x ∷ r → (j : ℕ) → In j (members_from w i m) → x ≤ j
unfolding members_from
head_least zero i m x r e j h = absurd h
head_least (suc w) i m x r e j h = go (has m i) e h (head_least w (suc i) m x r)
  where
    l : List ℕ
    l = members_from w (suc i) m

    go : (t : Bool) → cond t (i ∷ l) l ≡ x ∷ r → In j (cond t (i ∷ l) l) → (l ≡ x ∷ r → (j : ℕ) → In j l → x ≤ j) → x ≤ j
    go true e g more = let s : i ≡ x = cc in omega (arith, (in_members (suc w) i m j h).0)
    go false e g more = more e j g

-- Of the candidates `all` the members of `set` are still to come: no other goal has an answer.
pub record Left {A : Type 0} (w n : ℕ) (f : ℕ → Option A) (all set : ℕ) : Type 0 where
  pub goals : all < 2 ^ n
  pub inside : (i : ℕ) → In i (members w set) → has all i ≡ true
  pub others : (i : ℕ) → i < n → (In i (members w set) → ⊥) → f (suc i) ≡ none

module _ {A : Type 0} (w n : ℕ) (f : ℕ → Option A) where
  -- all of them
  pub left_start : n ≤ w → (all set : ℕ) → all < 2 ^ n → set ≡ all → ((i : ℕ) → i < n → has all i ≡ false → f (suc i) ≡ none) → Left w n f all set
  left_start most all set goals e past =
      record {
        goals = goals;
        inside = λ i h. ap (λ (m : ℕ). has m i) (sym e) ∙ (in_members w 0 set i h).2;
        others =
            λ i l h. past i l (is_false (has all i) (λ t. h (members_in w 0 set i (omega arith) (omega arith) (ap (λ (m : ℕ). has m i) e ∙ t))));
      }

  module _ {all set : ℕ} (v : Left w n f all set) where
    -- none is still to come
    pub left-none : members w set ≡ [] → first_in f 1 n ≡ none
    left-none e = nowhere n f (λ i l. v.others i l (λ h. let h' : In i [] = subst (In i) e h in absurd h'))

    -- the next
    module _ {x : ℕ} {more : List ℕ} (e : members w set ≡ x ∷ more) where
      pub left-has : has all x ≡ true
      left-has = v.inside x (subst (In x) (sym e) (inl refl))

      pub left_in : x < n
      left_in = member_below n all x v.goals left-has

      -- it has an answer
      pub left-hit : (q : A) → f (suc x) ≡ some q → first_in f 1 n ≡ some q
      left-hit q y =
          passed_hit n f q x left_in y
          (passed_skip n f x (λ i l m. v.others i m (λ h. absurd (omega (arith, head_least w 0 set x more e i h)))))

      -- it has none
      pub left_more : {next : ℕ} → more ≡ members w next → f (suc x) ≡ none → Left w n f all next
      left_more {next} en y =
          record {
            goals = v.goals;
            inside = λ i h. v.inside i (subst (In i) (sym e) (inr (subst (In i) (sym en) h)));
            others =
                λ i l h.
                dite (ℕ_discrete i x) (λ s. ap (λ (z : ℕ). f (suc z)) s ∙ y)
                (λ s. v.others i l (λ t. let t' : In i (x ∷ more) = subst (In i) e t in ⊎_elim s (λ u. h (subst (In i) en u)) t'));
          }
