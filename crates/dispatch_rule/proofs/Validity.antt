-- The test for refusal 20 passes exactly the valid states.
use mathlib.Core.Path.{◌≡◌, refl, sym, ap, ap₂, ◌∙◌}
use mathlib.Core.Bool.{Bool, true, not, ◌&&◌, ◌||◌, or-true}
use mathlib.Core.List.{List, [], ◌∷◌}
use mathlib.Core.Logic.{◌⊎◌, inl, inr, ⊎_elim, ◌↔◌}
use Prim.Native.Nat.{ℕ, ◌≤◌, ◌<◌}
use native.Mathlib.Omega.{arith}
use lib.Dec.{eqb, leb}
use borrow.Author.Tests.{eqb-true, eqb-false, leb-true, leb-false, le-leb}
use Rattle.schedule.specs.Range.{Goals, each}
use Rattle.dispatch_rule.specs.declared.Head.{Head}
use Rattle.dispatch_rule.specs.Rule.{State, idle, count, ready}
use Rattle.dispatch_rule.specs.Validity.{In, Busy, Valid, all_heads, fine_head, is_valid}
use Rattle.logic.proofs.Bools.{test, by_test, and-true, not-true}
use Rattle.schedule.proofs.Range.{each_at, each_all}
use Rattle.dispatch_rule.proofs.Ticks.{count_in}

all-at : (p : Head → Bool) (hs : List Head) → all_heads p hs ≡ true → (h : Head) → In h hs → p h ≡ true
all-at p [] e h i = absurd i
all-at p (x ∷ hs) e h (inl q) = ap p q ∙ (and-true (p x) (all_heads p hs) e).0
all-at p (x ∷ hs) e h (inr i) = all-at p hs (and-true (p x) (all_heads p hs) e).1 h i

all-all : (p : Head → Bool) (hs : List Head) → ((h : Head) → In h hs → p h ≡ true) → all_heads p hs ≡ true
all-all p [] f = refl
all-all p (x ∷ hs) f = ap₂ ◌&&◌ (f x (inl refl)) (all-all p hs (λ h i. f h (inr i)))

module _ (R : ℕ → ℕ → Bool) (n : ℕ) (t : ℕ → ℕ) (E : ℕ → Bool) where
  fine_is : (h : Head) → fine_head R n t E h ≡ true → (h ≡ idle) ⊎ Busy R n t E h
  fine_is h =
      by_test (λ b. b ≡ true → (h ≡ idle) ⊎ Busy R n t E h) (eqb h.goal 0)
      (λ z e. inl (λ i. record { goal = eqb-true h.goal 0 z i; left = eqb-true h.left 0 e i }))
      (λ z e.
      let a = and-true (leb h.goal n) _ e in
      let b = and-true (not (E h.goal)) _ a.1 in
      let c = and-true (leb 1 h.left) _ b.1 in
      let d = and-true (leb h.left (t h.goal)) _ c.1 in
      let y = eqb-false h.goal 0 z in
      inr
      (record {
        goals = (omega arith, leb-true h.goal n a.0);
        open_yet = not-true (E h.goal) b.0;
        some_left = leb-true 1 h.left c.0;
        not_above = leb-true h.left (t h.goal) d.0;
        prepared = d.1;
      }))

  is_fine_lem : (h : Head) → (h ≡ idle) ⊎ Busy R n t E h → fine_head R n t E h ≡ true
  is_fine_lem h (inl e) = ap (fine_head R n t E) e
  is_fine_lem h (inr b) =
      by_test (λ b. b ≡ true) (eqb h.goal 0) (λ z. absurd (let y = eqb-true h.goal 0 z in omega (arith, b.goals.0)))
      (λ z.
      simp (
        le-leb h.goal n b.goals.1,
        b.open_yet,
        le-leb 1 h.left b.some_left,
        le-leb h.left (t h.goal) b.not_above,
        b.prepared,
      ))

module _ (R : ℕ → ℕ → Bool) (n : ℕ) (t : ℕ → ℕ) (w : ℕ) (s : State) (wide : (g : ℕ) → s.ended g ≡ true → Goals w g) where
  abbrev P : ℕ → Bool
  P g = leb g n && ready R n s.ended g

  pub valid_is : (is_valid R n t w s ≡ true) ↔ Valid R n t s
  valid_is = (λ e. to e, λ v. from v)
    where
      to : is_valid R n t w s ≡ true → Valid R n t s
      to e =
          let a = and-true (all_heads (fine_head R n t s.ended) s.heads) _ e in
          let b = and-true (each (λ g. leb (count s.heads g) 1) n) (each (λ g. not (s.ended g) || P g) w) a.1 in
          let fine : (h : Head) → In h s.heads → (h ≡ idle) ⊎ Busy R n t s.ended h = λ h i. fine_is R n t s.ended h (all-at (fine_head R n t s.ended) s.heads a.0 h i) in
          let ended : (g : ℕ) → s.ended g ≡ true → (leb g n ≡ true) × (ready R n s.ended g ≡ true) =
          λ g u. and-true (leb g n) (ready R n s.ended g)
          (sym (ap (λ x. not x || P g) u) ∙ each_at (λ g. not (s.ended g) || P g) w g b.1 (wide g u)) in
          record {
            fine = fine;
            once =
                λ g l.
                ⊎_elim (λ c. leb-true (count s.heads g) 1 (each_at (λ g. leb (count s.heads g) 1) n g b.0 (l, leb-true g n c)))
                (λ c. off g l (leb-false g n c) fine) (test (leb g n));
            known = λ g u. ((wide g u).0, leb-true g n (ended g u).0);
            before = λ g u. (ended g u).1;
          }
        where
          off : (g : ℕ) → 1 ≤ g → n < g → ((h : Head) → In h s.heads → (h ≡ idle) ⊎ Busy R n t s.ended h) → count s.heads g ≤ 1
          off g l c fine =
              ⊎_elim
              (λ u.
              let r = count_in s.heads g (leb-true 1 (count s.heads g) u) in
              absurd
              (⊎_elim (λ q. let z : r.0.goal ≡ 0 = ap (λ (y : Head). y.goal) q in omega (arith, r.2)) (λ q. omega (arith, r.2, q.goals.1))
              (fine r.0 r.1)))
              (λ u. omega (arith, leb-false 1 (count s.heads g) u)) (test (leb 1 (count s.heads g)))

      from : Valid R n t s → is_valid R n t w s ≡ true
      from v =
          ap₂ ◌&&◌ (all-all (fine_head R n t s.ended) s.heads (λ h i. is_fine_lem R n t s.ended h (v.fine h i)))
          (ap₂ ◌&&◌ (each_all (λ g. leb (count s.heads g) 1) n (λ g a. le-leb (count s.heads g) 1 (v.once g a.0)))
          (each_all (λ g. not (s.ended g) || P g) w
          (λ g a.
          ⊎_elim (λ u. ap (λ x. not (s.ended g) || x) (ap₂ ◌&&◌ (le-leb g n (v.known g u).1) (v.before g u)) ∙ or-true (not (s.ended g)))
          (λ u. ap (λ x. not x || P g) u) (test (s.ended g)))))
