-- Where the last stage of goals 1 to q starts, by masks.
use mathlib.Core.Path.{◌≡◌, refl, sym, ap, ap₂, ◌∙◌}
use mathlib.Core.Logic.{⊎_elim}
use mathlib.Core.Bool.{Bool, true, false, not, ◌&&◌, ◌||◌, true≢false}
use mathlib.Core.List.{List}
use Prim.Native.Nat.{ℕ, zero, suc, ◌-◌, ◌≤◌, ◌<◌, ◌^◌}
use native.Mathlib.Nat.{eq-or-lt_of_le}
use native.Mathlib.Omega.{arith}
use lib.Dec.{eqb}
use borrow.Author.Tests.{eq-eqb, ne_eqb}
use Rattle.logic.specs.Quantifiers.{some_below}
use Rattle.logic.proofs.Bools.{iff, or_elim, or_l, or_r, is_false}
use Rattle.logic.proofs.Quantifiers.{below_out, below_in, some_cong}
use Rattle.sets.specs.Sets.{has, union, meet, without}
use Rattle.sets.proofs.Membership.{has-union, has_meet, has-without, has_empty, none_empty, member_below}
use Rattle.mel_stages.specs.Mel.{goal, occurs, first_in, boundary, largest, start}
use Rattle.mel_stages.specs.Masks.{once}
use Rattle.mel_stages.proofs.Words.{occurs_out, occurs_in}
use Rattle.mel_stages.proofs.Masks.{has-once}

some_mask : (w m : ℕ) → m < 2 ^ w → not (eqb m 0) ≡ some_below w (has m)
some_mask w m h = go (some_below w (has m)) refl
  where
    go : (b : Bool) → some_below w (has m) ≡ b → not (eqb m 0) ≡ b
    go true s =
        let r = below_out w (has m) s in
        ap not (ne_eqb m 0 (λ e. true≢false (sym r.so ∙ ap (λ (k : ℕ). has k r.x) e ∙ has_empty r.x)))
    go false s =
        ap not (eq-eqb m 0 (none_empty m (λ i. is_false (has m i) (λ e. true≢false (sym (below_in w (has m) i (member_below w m i h e) e) ∙ s)))))

-- ---- the variables of goals p+1 to q, from q downward

module _ (sets : List ℕ) (q : ℕ) where
  pub none_after : (x : ℕ) → has 0 x ≡ occurs sets q q x
  none_after x =
      has_empty x
      ∙ sym (is_false (occurs sets q q x) (λ e. let s = occurs_out sets q q x e in absurd (omega (arith, s.above, s.upto))))

  pub one_more : (m p : ℕ) → 0 < p → p ≤ q → ((x : ℕ) → has m x ≡ occurs sets p q x) → (x : ℕ) → has (union m (goal sets p)) x ≡ occurs sets (p - 1) q x
  one_more m p z u h x =
      has-union m (goal sets p) x
      ∙ iff (has m x || has (goal sets p) x) (occurs sets (p - 1) q x)
      (λ e. or_elim (has m x) (has (goal sets p) x) e
      (λ a. let s = occurs_out sets p q x (sym (h x) ∙ a) in occurs_in sets (p - 1) q x s.g (omega (arith, s.above)) s.upto s.so)
      (λ a. occurs_in sets (p - 1) q x p (omega arith) u a))
      (λ e.
      let s = occurs_out sets (p - 1) q x e in
      let l : p ≤ s.g = omega (arith, s.above) in
      ⊎_elim
      (λ i. or_r (has m x) (has (goal sets p) x) (ap (λ (g : ℕ). has (goal sets g) x) i ∙ s.so))
      (λ i. or_l (has m x) (has (goal sets p) x) (h x ∙ occurs_in sets p q x s.g i s.upto s.so)) (eq-or-lt_of_le l))

  -- a goal is a boundary exactly if the mask of the code has a member
  pub boundary_mask : (w head p b m r : ℕ) → b ≡ once sets 0 (p - 1) → ((x : ℕ) → has m x ≡ occurs sets p q x) → r < 2 ^ w
      → r ≡ meet (without (without (goal sets p) head) b) m → not (eqb r 0) ≡ boundary w head sets q p
  unfolding boundary first_in
  boundary_mask w head p b m r eb em h e =
      some_mask w r h
      ∙ some_cong w (has r) (λ x. first_in head sets p x && occurs sets p q x) (λ x l.
      ap (λ (k : ℕ). has k x) e ∙ has_meet (without (without (goal sets p) head) b) m x
      ∙ ap₂ ◌&&◌
      (has-without (without (goal sets p) head) b x
      ∙ ap₂ (λ (s t : Bool). s && not t) (has-without (goal sets p) head x) (ap (λ (k : ℕ). has k x) eb ∙ has-once sets 0 (p - 1) x))
      (em x))

pub largest-boundary : (w head : ℕ) (sets : List ℕ) (q p : ℕ) → 0 < p → boundary w head sets q p ≡ true → largest w head sets q p ≡ p
unfolding largest
largest-boundary w head sets q zero h e = absurd (omega arith)
largest-boundary w head sets q (suc p) h e = rw e

pub largest-on : (w head : ℕ) (sets : List ℕ) (q p : ℕ) → 0 < p → boundary w head sets q p ≡ false → largest w head sets q p ≡ largest w head sets q (p - 1)
unfolding largest
largest-on w head sets q zero h e = absurd (omega arith)
largest-on w head sets q (suc p) h e = let i : suc p - 1 ≡ p = omega arith in rw (e, i)

pub start-whole : (w head : ℕ) (sets : List ℕ) (q : ℕ) → start w head sets q ≡ largest w head sets q q
unfolding start
start-whole w head sets q = refl

pub start_none : (w head : ℕ) (sets : List ℕ) (q p : ℕ) → start w head sets q ≡ largest w head sets q p → p ≤ 0 → 0 ≡ start w head sets q
unfolding largest
start_none w head sets q p e h = let z : p ≡ 0 = omega arith in sym (e ∙ ap (largest w head sets q) z)
