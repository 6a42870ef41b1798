-- The second half of a tick: each busy head works.
use mathlib.Core.Path.{◌≡◌, refl, sym, ap, ap₂, ◌∙◌, subst}
use mathlib.Core.Bool.{true, false, ◌&&◌, cond, true≢false, or-false}
use mathlib.Core.List.{List, [], ◌∷◌, map}
use mathlib.Core.Logic.{◌⊎◌, inl, inr, ⊎_elim}
use Prim.Native.Nat.{ℕ, ◌+◌, ◌-◌, ◌≤◌}
use native.Mathlib.Omega.{arith}
use lib.Dec.{eqb, leb}
use lib.ListN.{length}
use borrow.Author.Tests.{eq-eqb, ne_eqb, eqb-true, le-leb, leb-true}
use Rattle.schedule.specs.Range.{Goals, total}
use Rattle.dispatch_rule.specs.declared.Head.{Head}
use Rattle.dispatch_rule.specs.Rule.{idle, count, worked, ends, busy}
use Rattle.dispatch_rule.specs.Validity.{In}
use Rattle.logic.proofs.Bools.{test, by_test, and-true, or-true as or_cases}
use Rattle.schedule.proofs.Range.{other, total-add, total-one, total-none}
use Rattle.dispatch_rule.proofs.Taking.{left_on, count-here, count_there, left_here, left_there, same_or}

-- A head that is idle, or has a goal and ticks left.
abbrev pub Sound : Head → Type 0
Sound h = (h ≡ idle) ⊎ ((1 ≤ h.goal) × (1 ≤ h.left))

-- the goal of a head that has worked is its goal, or 0
worked-goal : (h : Head) (g : ℕ) → 1 ≤ g → g ≡ (worked h).goal → (g ≡ h.goal) × (eqb (h.left - 1) 0 ≡ false)
worked-goal h g l =
    by_test (λ (z : Head). g ≡ z.goal → (g ≡ h.goal) × (eqb (h.left - 1) 0 ≡ false)) (eqb (h.left - 1) 0) (λ e q. absurd (omega arith)) (λ e q. (q, e))

pub count-worked : (hs : List Head) (g : ℕ) → 1 ≤ g → count (map worked hs) g ≤ count hs g
count-worked [] g l = omega arith
count-worked (h ∷ hs) g l =
    ⊎_elim
    (λ e. omega (arith, count-worked hs g l, count-here (worked h) (map worked hs) g e, count-here h hs g (worked-goal h g l e).0))
    (λ e. omega (arith, count-worked hs g l, count_there (worked h) (map worked hs) g e))
    (same_or g (worked h).goal)

-- a goal off the row does not end
pub ends_off : (hs : List Head) (g : ℕ) → count hs g ≡ 0 → ends hs g ≡ false
ends_off [] g z = refl
ends_off (h ∷ hs) g z =
    ⊎_elim (λ e. absurd (omega (arith, count-here h hs g e)))
    (λ e. cc (ne_eqb g h.goal e, ends_off hs g (omega (arith, count_there h hs g e)))) (same_or g h.goal)

-- a goal that ends is on a head
pub ends_in : (hs : List Head) (g : ℕ) → ends hs g ≡ true → (h : Head) × In h hs × (g ≡ h.goal) × (1 ≤ g)
ends_in [] g e = absurd (true≢false (sym e))
ends_in (h ∷ hs) g e =
    ⊎_elim
    (λ u.
    let v = and-true (eqb g h.goal && leb 1 g) (eqb (h.left - 1) 0) u in
    let w = and-true (eqb g h.goal) (leb 1 g) v.0 in
    (h, inl refl, eqb-true g h.goal w.0, leb-true 1 g w.1))
    (λ u. let r = ends_in hs g u in (r.0, inr r.1, r.2, r.3))
    (or_cases (eqb g h.goal && leb 1 g && eqb (h.left - 1) 0) (ends hs g) e)

-- the goal of a head of the row is on the row
pub on_row : (hs : List Head) (h : Head) → In h hs → 1 ≤ count hs h.goal
on_row [] h i = absurd i
on_row (x ∷ hs) h (inl e) = omega (arith, count-here x hs h.goal (ap (λ (y : Head). y.goal) e))
on_row (x ∷ hs) h (inr i) = omega (arith, on_row hs h i)

-- a head that works on keeps its goal from ending
pub ends-not : (hs : List Head) (h : Head) → In h hs → 1 ≤ h.goal → count hs h.goal ≤ 1 → eqb (h.left - 1) 0 ≡ false → ends hs h.goal ≡ false
ends-not [] h i l c z = absurd i
ends-not (x ∷ hs) h (inl e) l c z =
    let q : h.goal ≡ x.goal = ap (λ (y : Head). y.goal) e in
    let z' : eqb (x.left - 1) 0 ≡ false = ap (λ (y : Head). eqb (y.left - 1) 0) (sym e) ∙ z in
    cc (eq-eqb h.goal x.goal q, le-leb 1 h.goal l, ends_off hs h.goal (omega (arith, count-here x hs h.goal q)))
ends-not (x ∷ hs) h (inr i) l c z =
    let p = on_row hs h i in
    let ne : h.goal ≡ x.goal → ⊥ = λ q. omega (arith, count-here x hs h.goal q) in
    cc (ne_eqb h.goal x.goal ne, ends-not hs h i l (omega (arith, count_there x hs h.goal ne)) z)

module _ (h : Head) (hs : List Head) (g d : ℕ) (l : 1 ≤ g) where
  falls_here : Sound h → g ≡ h.goal → count (h ∷ hs) g ≤ 1
      → cond (ends (h ∷ hs) g) 0 (left_on (worked h ∷ map worked hs) g d) + count (h ∷ hs) g ≡ left_on (h ∷ hs) g d
  falls_here (inl e) q c = absurd (let z : h.goal ≡ 0 = ap (λ (y : Head). y.goal) e in omega arith)
  falls_here (inr ok) q c = ⊎_elim last on (test (eqb (h.left - 1) 0))
    where
      rest : ℕ
      rest = left_on (worked h ∷ map worked hs) g d

      ends_is : ends (h ∷ hs) g ≡ eqb (h.left - 1) 0
      ends_is = simp (eq-eqb g h.goal q, le-leb 1 g l, ends_off hs g (omega (arith, count-here h hs g q)), or-false)

      last : eqb (h.left - 1) 0 ≡ true → cond (ends (h ∷ hs) g) 0 rest + count (h ∷ hs) g ≡ left_on (h ∷ hs) g d
      last z =
          let u : cond (ends (h ∷ hs) g) 0 rest ≡ 0 = ap (λ b. cond b 0 rest) (ends_is ∙ z) in
          omega (arith, count-here h hs g q, left_here h hs g d q, eqb-true (h.left - 1) 0 z, ok.1)

      on : eqb (h.left - 1) 0 ≡ false → cond (ends (h ∷ hs) g) 0 rest + count (h ∷ hs) g ≡ left_on (h ∷ hs) g d
      on z =
          let u : cond (ends (h ∷ hs) g) 0 rest ≡ rest = ap (λ b. cond b 0 rest) (ends_is ∙ z) in
          let w : worked h ≡ record { goal = h.goal; left = h.left - 1 } = ap (λ b. cond b idle (record { goal = h.goal; left = h.left - 1 })) z in
          let v = left_here (worked h) (map worked hs) g d (q ∙ sym (ap (λ (y : Head). y.goal) w)) in
          omega (arith, count-here h hs g q, left_here h hs g d q, ap (λ (y : Head). y.left) w, ok.1)

  falls_there : (g ≡ h.goal → ⊥) → cond (ends hs g) 0 (left_on (map worked hs) g d) + count hs g ≡ left_on hs g d
      → cond (ends (h ∷ hs) g) 0 (left_on (worked h ∷ map worked hs) g d) + count (h ∷ hs) g ≡ left_on (h ∷ hs) g d
  falls_there e ih =
      let u : ends (h ∷ hs) g ≡ ends hs g = cc (ne_eqb g h.goal e) in
      let v = left_there (worked h) (map worked hs) g d (λ q. e (worked-goal h g l q).0) in
      let w : cond (ends (h ∷ hs) g) 0 (left_on (worked h ∷ map worked hs) g d) ≡ cond (ends hs g) 0 (left_on (map worked hs) g d) = ap₂ (λ b x. cond b 0 x) u v in
      omega (arith, count_there h hs g e, left_there h hs g d e)

-- What is left of a goal falls by one if it is on a head.
pub left_falls : (hs : List Head) (g d : ℕ) → ((h : Head) → In h hs → Sound h) → 1 ≤ g → count hs g ≤ 1
    → cond (ends hs g) 0 (left_on (map worked hs) g d) + count hs g ≡ left_on hs g d
left_falls [] g d ok l c = omega arith
left_falls (h ∷ hs) g d ok l c =
    ⊎_elim (λ e. falls_here h hs g d l (ok h (inl refl)) e c)
    (λ e. falls_there h hs g d l e (left_falls hs g d (λ x i. ok x (inr i)) l (omega (arith, count_there h hs g e)))) (same_or g h.goal)

-- ---- the heads that work are the goals that are worked on
pub busy-total : (hs : List Head) (n : ℕ) → ((h : Head) → In h hs → (h ≡ idle) ⊎ Goals n h.goal) → total (count hs) n ≡ busy hs
busy-total [] n ok = total-none (λ g. 0) n (λ i a. refl)
busy-total (h ∷ hs) n ok =
    total-add (λ g. cond (eqb g h.goal) 1 0) (count hs) n
    ∙ ap₂ ◌+◌ (one h (ok h (inl refl))) (busy-total hs n (λ x i. ok x (inr i)))
  where
    one : (h : Head) → (h ≡ idle) ⊎ Goals n h.goal → total (λ g. cond (eqb g h.goal) 1 0) n ≡ cond (eqb h.goal 0) 0 1
    one h (inl e) =
        subst (λ (x : Head). total (λ g. cond (eqb g x.goal) 1 0) n ≡ cond (eqb x.goal 0) 0 1) (sym e)
        (total-none (λ g. cond (eqb g 0) 1 0) n (λ i a. other i 0 (λ q. omega (arith, a.0))))
    one h (inr a) = total-one n h.goal a ∙ sym (ap (λ b. cond b 0 1) (ne_eqb h.goal 0 (λ q. omega (arith, a.0))))

-- all heads are busy, or some head is idle
pub all-or-idle : (hs : List Head) → (busy hs ≡ length hs) ⊎ ((h : Head) × In h hs × (h.goal ≡ 0))
all-or-idle [] = inl refl
all-or-idle (h ∷ hs) =
    ⊎_elim (λ e. inr (h, inl refl, eqb-true h.goal 0 e))
    (λ e. ⊎_elim (λ q. inl (let u : ◌≡◌ {A = ℕ} (cond (eqb h.goal 0) 0 1) 1 = ap (λ b. cond b 0 1) e in omega arith)) (λ r. inr (r.0, inr r.1, r.2)) (all-or-idle hs)) (test (eqb h.goal 0))
