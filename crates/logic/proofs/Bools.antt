-- Laws of truth values: what an equation on a test's value tells, and how to go by the two values of one.
--     test, by_test                              the two values of a test b: `⊎_elim (λ t. ..) (λ t. ..) (test b)`, and a goal that holds `cond b x y`:
--                                                `by_test (λ z. goal of z) b (λ t. ..) (λ t. ..)`
--     and-true, and-false, or-true, or-false     the parts of a test whose value is known; and_l, and_r, or_elim by parts
--     and_i, or_l, or_r, implies_in              tests put together
--     not-true, not-false, not_out, is_false, clash     a test and its opposite
--     nor, nor_i, and-not, and-not-i             neither of two; not the one without the other
--     cond_le, cond_mono                         a test as the number 1 or 0
--     iff, beq_true, beq_false, beq_same, either, not_self     two tests against each other
use mathlib.Core.Path.{◌≡◌, refl, sym, ap, ap₂, ◌∙◌}
use mathlib.Core.Bool.{Bool, true, false, not, ◌&&◌, ◌||◌, cond, true≢false, false≢true, beq}
use mathlib.Core.Logic.{◌⊎◌, inl, inr, ⊎_elim}
use Prim.Native.Nat.{◌≤◌, zero-le}
use native.Mathlib.Omega.{arith}
use Rattle.logic.specs.Quantifiers.{implies}
pub use borrow.Author.Tests.{not-true, not-false}

pub test : (b : Bool) → (b ≡ true) ⊎ (b ≡ false)
test true = inl refl
test false = inr refl

pub by_test : {A : Type 0} (P : A → Type 0) (b : Bool) {x y : A} → (b ≡ true → P x) → (b ≡ false → P y) → P (cond b x y)
by_test P true f g = f refl
by_test P false f g = g refl

-- two tests are equal if each holds where the other does
pub iff : (p q : Bool) → (p ≡ true → q ≡ true) → (q ≡ true → p ≡ true) → p ≡ q
iff true q f g = sym (f refl)
iff false true f g = g refl
iff false false f g = refl

-- ---- and, or
pub and-true : (a b : Bool) → (a && b) ≡ true → (a ≡ true) × (b ≡ true)
and-true true b e = (refl, e)
and-true false b e = absurd (false≢true e)

pub and_l : (p q : Bool) → p && q ≡ true → p ≡ true
and_l p q h = (and-true p q h).0

pub and_r : (p q : Bool) → p && q ≡ true → q ≡ true
and_r p q h = (and-true p q h).1

pub and_i : (p q : Bool) → p ≡ true → q ≡ true → p && q ≡ true
and_i p q e h = ap₂ ◌&&◌ e h

pub and-false : (a b : Bool) → (a && b) ≡ false → (a ≡ false) ⊎ (b ≡ false)
and-false true b e = inr e
and-false false b e = inl refl

pub or-true : (a b : Bool) → (a || b) ≡ true → (a ≡ true) ⊎ (b ≡ true)
or-true true b e = inl refl
or-true false b e = inr e

pub or_elim : {C : Type 0} (p q : Bool) → p || q ≡ true → (p ≡ true → C) → (q ≡ true → C) → C
or_elim p q h f g = ⊎_elim f g (or-true p q h)

pub or_l : (p q : Bool) → p ≡ true → p || q ≡ true
or_l p q h = ap (λ (b : Bool). b || q) h

pub or_r : (p q : Bool) → q ≡ true → p || q ≡ true
or_r true q h = refl
or_r false q h = h

pub or-false : (a b : Bool) → (a || b) ≡ false → (a ≡ false) × (b ≡ false)
or-false true b e = absurd (true≢false e)
or-false false b e = (refl, e)

-- ---- not
pub not-i : (p : Bool) → (p ≡ true → ⊥) → not p ≡ true
not-i true h = absurd (h refl)
not-i false h = refl

pub not_out : (p : Bool) → not p ≡ true → p ≡ true → ⊥
not_out p h e = true≢false (sym e ∙ not-true p h)

pub is_false : (p : Bool) → (p ≡ true → ⊥) → p ≡ false
is_false p h = not-true p (not-i p h)

pub not_self : (k : Bool) → k ≡ not k → ⊥
not_self true p = true≢false p
not_self false p = false≢true p

pub clash : {b : Bool} {A : Type 0} → b ≡ true → b ≡ false → A
clash t f = absurd (true≢false (sym t ∙ f))

-- neither of two
pub nor : (s t : Bool) → not (s || t) ≡ true → (s ≡ false) × (t ≡ false)
nor s t h = or-false s t (not-true (s || t) h)

pub nor_i : (s t : Bool) → s ≡ false → t ≡ false → not (s || t) ≡ true
nor_i s t a b = ap₂ (λ x y. not (x || y)) a b

-- not the one without the other
pub and-not : (p q : Bool) → p && not q ≡ false → p ≡ true → q ≡ true
and-not true q e h = not-false q e
and-not false q e h = absurd (false≢true h)

pub and-not-i : (p q : Bool) → (p ≡ true → q ≡ true) → p && not q ≡ false
and-not-i true q h = ap not (h refl)
and-not-i false q h = refl

-- ---- a test as a number
pub cond_mono : (p q : Bool) → (p ≡ true → q ≡ true) → cond p 1 0 ≤ cond q 1 0
cond_mono true true h = omega arith
cond_mono true false h = absurd (false≢true (h refl))
cond_mono false q h = zero-le

pub cond_le : (b : Bool) → cond b 1 0 ≤ 1
cond_le b = cond_mono b true (λ _. refl)

-- ---- if .. then
pub implies_in : (p q : Bool) → (p ≡ true → q ≡ true) → implies p q ≡ true
implies_in true q f = f refl
implies_in false q f = refl

pub implies_out : (p q : Bool) → implies p q ≡ true → p ≡ true → q ≡ true
implies_out true q h e = h
implies_out false q h e = absurd (false≢true e)

-- ---- two tests compared
pub either : (a k : Bool) → (a ≡ k) ⊎ (a ≡ not k)
either true true = inl refl
either true false = inr refl
either false true = inr refl
either false false = inl refl

pub beq_true : (a b : Bool) → beq a b ≡ true → a ≡ b
beq_true true true e = refl
beq_true true false e = absurd (false≢true e)
beq_true false true e = absurd (false≢true e)
beq_true false false e = refl

pub beq_false : (a b : Bool) → beq a b ≡ false → a ≡ not b
beq_false true true e = absurd (true≢false e)
beq_false true false e = refl
beq_false false true e = refl
beq_false false false e = absurd (true≢false e)

pub beq_same : (a b : Bool) → a ≡ b → beq a b ≡ true
beq_same true b e = rw (sym e)
beq_same false b e = rw (sym e)
