-- The theorems on fork-join expressions, in the words of `specs/`. R is a relation on goals; T1 and T3 hold for any, T2 for any strict order.
--     the order           before_is, has-order_is, innermost_is, innermost_unique: `before` is the order of the paper's sentence
--     T1, sound           order_no_n, induced_no_n, no_four: an order with an N has no expression, and neither have the four goals alone
--     T2, complete        form_any_lem, form_is: an order without an N has a house form; has_expression_any, has_expression: with T1
--     T3, unique          form_unique: only one
--     T4, short           text-fits: at most 146 bytes for up to 32 goals; text-longest: 146 are reached
--     T5, first           first_n_is, no_n_is: the search finds the first N, or none exactly if there is none; n-distinct: its goals are four
--     restore             restore_times, restore_before, restore_house, restore_same, restore_eq
use mathlib.Core.Path.{◌≡◌, refl, sym, ap, ap₂, ◌∙◌}
use mathlib.Core.Bool.{Bool, true, ◌&&◌, ◌||◌, cond, true≢false, or-true}
use mathlib.Core.Logic.{◌↔◌, ◌≢◌}
use mathlib.Core.Option.{none, some}
use Prim.Native.Nat.{ℕ, ◌≤◌, ◌<◌, ◌%◌}
use native.Mathlib.Omega.{arith}
use lib.Dec.{eqb, ltb}
use lib.ListN.{length}
use borrow.Author.Tests.{eq-eqb, eqb-true, lt-ltb, ltb-true}
use Rattle.sets.specs.Sets.{goal_limit}
use Rattle.logic.proofs.Bools.{iff, is_false, and-true, cond_le}
use Rattle.buffer.specs.Decimal.{decimal, decimal_to}
use Rattle.expression.specs.Expr.{Expr, times, stands, before, Once, Induces, UsesOnce, UsesFour, Goals, Matches, House, HouseForm, N, NoN, Order}
use Rattle.expression.specs.Induced.{Holds, Innermost, Before}
use Rattle.expression.specs.Form.{form}
use Rattle.expression.specs.Text.{form_limit, text}
use Rattle.expression.specs.Search.{Four, FirstN, first_n}
use Rattle.expression.specs.Restore.{restore}
use Rattle.expression.specs.Arrange.{Strict, form_any}
use Rattle.expression.proofs.NoN.{no_n}
use Rattle.expression.proofs.Exists.{form_on_lem}
use Rattle.expression.proofs.Split.{form_eq}
use Rattle.expression.proofs.Spec.{times_in, stands_in, in_stands, before-fits}
use Rattle.expression.proofs.Induced
use Rattle.expression.proofs.Arrange
use Rattle.expression.proofs.Length
use Rattle.expression.proofs.Search
use Rattle.expression.proofs.Restore
use Rattle.expression.proofs.Uses.{house_form, form_house, all_pass}
-- laws on the goals of an expression, passed on
pub use Rattle.expression.proofs.Uses.{in_range, uses_once, uses_in, in_uses, of_in, order-fits}

-- ---- The order. What `before` computes is the order of the paper's sentence,
pub before_is : (e : Expr) → Once e → (i j : ℕ) → (before e i j ≡ true) ↔ Before e i j
before_is e u i j = Induced.before_is i j e u

-- so to have an order is what the paper says it is;
pub has-order_is : (R : ℕ → ℕ → Bool) (n : ℕ) (e : Expr) → UsesOnce n e → Matches R n e ↔ ((i j : ℕ) → Goals n i → Goals n j → Before e i j ↔ (R i j ≡ true))
has-order_is R n e u = (
  (λ h i j p q. let b = before_is e (uses_once n e u) i j in (λ x. sym (h i j p q) ∙ b.1 x, λ t. b.0 (h i j p q ∙ t))),
  (λ h i j p q. let b = before_is e (uses_once n e u) i j in iff (before e i j) (R i j) (λ t. (h i j p q).0 (b.0 t)) (λ t. b.1 ((h i j p q).1 t))),
)

-- and "the innermost part" that holds two goals is right: there is one, and just one.
pub innermost_is : (e : Expr) (i j : ℕ) → Holds e i → Holds e j → (p : Expr) × Innermost e i j p
innermost_is e i j = Induced.innermost_is i j e

pub innermost_unique : (e : Expr) (i j : ℕ) → Once e → (p q : Expr) → Innermost e i j p → Innermost e i j q → p ≡ q
innermost_unique e i j u p q = Induced.innermost_unique i j e p q u

-- ---- T1. The order that an expression induces has no N,
pub induced_no_n : (R : ℕ → ℕ → Bool) (e : Expr) → Once e → Induces R e → NoN R (λ i. stands e i ≡ true)
induced_no_n R e u h a b c d ha hb hc hd n =
    no_n R n e (before-fits R e u (λ i j p q. h i j (in_stands e i p) (in_stands e j q)))
    (stands_in e a ha) (stands_in e b hb) (stands_in e c hc) (stands_in e d hd)

-- so an order with an N has no expression, in house form or not,
pub order_no_n : (R : ℕ → ℕ → Bool) (n : ℕ) (e : Expr) → UsesOnce n e → Matches R n e → NoN R (Goals n)
order_no_n R n e u h a b c d ha hb hc hd x =
    no_n R x e (order-fits R n e u h) (in_uses n e u a ha) (in_uses n e u b hb) (in_uses n e u c hc) (in_uses n e u d hd)

-- and neither have the four goals alone: no expression that uses just the goals of an N, each once, has their order.
pub no_four : (R : ℕ → ℕ → Bool) (a b c d : ℕ) → N R a b c d → (e : Expr) → UsesFour a b c d e → Induces R e → ⊥
no_four R a b c d n e u h = induced_no_n R e once h a b c d
    (here a (simp (eq-eqb a a refl))) (here b (simp (eq-eqb b b refl, or-true))) (here c (simp (eq-eqb c c refl, or-true))) (here d (simp (eq-eqb d d refl, or-true))) n
  where
    once : Once e
    once i = omega (arith, u i, cond_le (eqb i a || eqb i b || eqb i c || eqb i d))

    here : (i : ℕ) → (eqb i a || eqb i b || eqb i c || eqb i d) ≡ true → stands e i ≡ true
    here i t = in_stands e i (times_in e i (omega (arith, u i ∙ ap (λ b. cond b 1 0) t)))

-- ---- T2. A strict order with no N has a house form, also if it goes against the numbers;
pub form_any_lem : (R : ℕ → ℕ → Bool) (n : ℕ) → Strict R (Goals n) → NoN R (Goals n) → 1 ≤ n → HouseForm R n (form_any R n)
form_any_lem R n = Arrange.form_any_lem R n

-- for an order that goes from smaller numbers to larger `form` is simpler.
pub form_is : (R : ℕ → ℕ → Bool) (n : ℕ) → Order R (Goals n) → NoN R (Goals n) → 1 ≤ n → HouseForm R n (form R n)
form_is R n o free h = form_house R n (form R n) (all_pass R n (form R n) (form_on_lem R n o free (λ _. true) 1 (omega arith, h) refl))

-- With T1: an order on the goals 1 to n has an expression exactly if it has no N.
pub has_expression_any : (R : ℕ → ℕ → Bool) (n : ℕ) → Strict R (Goals n) → 1 ≤ n → ((e : Expr) × UsesOnce n e × Matches R n e) ↔ NoN R (Goals n)
has_expression_any R n o h = (
  (λ x. order_no_n R n x.0 x.1 x.2),
  λ free. let f = form_any_lem R n o free h in (form_any R n, f.uses, f.order),
)

pub order_strict : (R : ℕ → ℕ → Bool) (S : ℕ → Type 0) → Order R S → Strict R S
order_strict R S o =
    record { unlike = λ i s. is_false (R i i) (λ t. omega (arith, o.rising i i s s t)); chained = o.chained }

pub has_expression : (R : ℕ → ℕ → Bool) (n : ℕ) → Order R (Goals n) → 1 ≤ n → ((e : Expr) × UsesOnce n e × Matches R n e) ↔ NoN R (Goals n)
has_expression R n o = has_expression_any R n (order_strict R (Goals n) o)

-- ---- T3. It is the only house form of the order.
pub form_unique : (R : ℕ → ℕ → Bool) (n : ℕ) (e e' : Expr) → HouseForm R n e → HouseForm R n e' → e ≡ e'
form_unique R n e e' f g = form_eq R e e' (house_form R n e f) (house_form R n e' g) (λ i. (λ p. p, λ p. p))

-- So `form` and `form_any` are the same where both are forms.
pub form_any_is : (R : ℕ → ℕ → Bool) (n : ℕ) → Order R (Goals n) → NoN R (Goals n) → 1 ≤ n → form_any R n ≡ form R n
form_any_is R n o free h =
    form_unique R n (form_any R n) (form R n) (form_any_lem R n (order_strict R (Goals n) o) free h) (form_is R n o free h)

-- ---- T4. The text of up to 32 goals has at most 146 bytes, in house form or not,
pub text-fits : (n : ℕ) (e : Expr) → UsesOnce n e → n ≤ goal_limit → length (text e) ≤ form_limit
text-fits n e = Length.text-fits n e

-- and that of a house form may have as many: each goal in turn comes after all before it, or beside all before it.
pub text-longest : (R : ℕ → ℕ → Bool) × (e : Expr) × HouseForm R goal_limit e × (length (text e) ≡ form_limit)
unfolding decimal decimal_to
text-longest = (R, form R goal_limit, form_is R goal_limit order free (omega arith), refl)
  where
    R : ℕ → ℕ → Bool
    R i j = ltb i j && eqb (j % 2) 0

    up : (i j : ℕ) → R i j ≡ true → (i < j) × (j % 2 ≡ 0)
    up i j h = let t = and-true (ltb i j) (eqb (j % 2) 0) h in (ltb-true i j t.0, eqb-true (j % 2) 0 t.1)

    is_up : (i j : ℕ) → i < j → j % 2 ≡ 0 → R i j ≡ true
    is_up i j h g = simp (lt-ltb i j h, eq-eqb (j % 2) 0 g)

    order : Order R (Goals goal_limit)
    order =
        record {
          rising = λ i j _ _ h. (up i j h).0;
          chained = λ i j k _ _ _ h g. is_up i k (omega (arith, (up i j h).0, (up j k g).0)) (up j k g).1;
        }

    free : NoN R (Goals goal_limit)
    free a b c d _ _ _ _ n = true≢false (sym (is_up a d below (up b d n.bd).1) ∙ n.ad)
      where
        -- c is not after d, and a is before c
        level : d < c → ⊥
        level h = true≢false (sym (is_up d c h (up a c n.ac).1) ∙ n.dc)

        below : a < d
        below = omega (arith, level, (up a c n.ac).0)

-- ---- T5. The search finds q exactly if q is the first N by a, then b, c, d,
pub first_n_is : (R : ℕ → ℕ → Bool) (n : ℕ) (q : Four) → (first_n R n ≡ some q) ↔ FirstN R n q
first_n_is R n q = (Search.found_first R n q, Search.first_found R n q)

-- and nothing exactly if there is no N.
pub no_n_is : (R : ℕ → ℕ → Bool) (n : ℕ) → (first_n R n ≡ none) ↔ NoN R (Goals n)
no_n_is R n = (Search.not_found R n, Search.none_found R n)

-- The goals of an N are four.
pub n-distinct : (R : ℕ → ℕ → Bool) (a b c d : ℕ) → N R a b c d → (a ≢ b) × (a ≢ c) × (a ≢ d) × (b ≢ c) × (b ≢ d) × (c ≢ d)
n-distinct R a b c d n = (
  (λ e. true≢false (sym n.bd ∙ ap (λ x. R x d) (sym e) ∙ n.ad)),
  (λ e. true≢false (sym n.ac ∙ ap₂ R e (sym e) ∙ n.ca)),
  (λ e. true≢false (sym n.ac ∙ ap (λ x. R x c) e ∙ n.dc)),
  (λ e. true≢false (sym n.bc ∙ ap₂ R e (sym e) ∙ n.cb)),
  (λ e. true≢false (sym n.bd ∙ ap₂ R e (sym e) ∙ n.db)),
  (λ e. true≢false (sym n.ac ∙ ap (R a) e ∙ n.ad)),
)

-- ---- House form restored: the same goals,
pub restore_times : (e : Expr) (i : ℕ) → times (restore e) i ≡ times e i
restore_times = Restore.restore_times

-- in the same order,
pub restore_before : (e : Expr) → Once e → (i j : ℕ) → before (restore e) i j ≡ before e i j
restore_before = Restore.restore_before

-- in house form;
pub restore_house : (e : Expr) → Once e → House (restore e)
restore_house = Restore.restore_house

-- a house form stays as it is,
pub restore_same : (e : Expr) → House e → restore e ≡ e
restore_same = Restore.restore_same

-- and two expressions with the same goals in the same order become one.
pub restore_eq : (e e' : Expr) → Once e → ((i : ℕ) → times e i ≡ times e' i) → ((i j : ℕ) → before e i j ≡ before e' i j) → restore e ≡ restore e'
restore_eq = Restore.restore_eq
