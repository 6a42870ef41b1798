-- T4: how long the text of an expression is. House form is not needed for the bound.
use mathlib.Core.Path.{◌≡◌, refl, sym, ap, ◌∙◌}
use mathlib.Core.Bool.{Bool, cond}
use mathlib.Core.List.{[], ◌∷◌, ◌++◌}
use mathlib.Core.Logic.{inl, inr, ⊎_elim}
use Prim.Native.Nat.{ℕ, zero, suc, ◌+◌, ◌*◌, ◌≤◌, ◌<◌}
use native.Mathlib.Omega.{arith}
use native.Mathlib.Nat.{eq-or-lt_of_le}
use lib.Dec.{eqb}
use lib.ListN.{length, length-append}
use borrow.Author.Tests.{eq-eqb, ne_eqb}
use Rattle.sets.specs.Sets.{goal_limit}
use Rattle.expression.specs.Expr.{Expr, goal, join, Members, one, more, times, times_m, UsesOnce}
use Rattle.expression.specs.Text.{form_limit, mark, inner, run, text}
use Rattle.expression.proofs.Fits.{In, InM}
use Rattle.buffer.specs.Decimal.{decimal, decimal_to}
use Rattle.buffer.proofs.Decimal.{decimal-length}
use Rattle.expression.proofs.Uses.{in_range, uses_in}

-- what the goals of e weigh together
abbrev mutual
  weigh : (ℕ → ℕ) → Expr → ℕ
  weigh f (goal g) = f g
  weigh f (join k e ms) = weigh f e + weigh_m f ms

  weigh_m : (ℕ → ℕ) → Members → ℕ
  weigh_m f (one e) = weigh f e
  weigh_m f (more e ms) = weigh f e + weigh_m f ms

-- how many sequences and groups e has
abbrev mutual
  pub joins : Expr → ℕ
  joins (goal g) = 0
  joins (join k e ms) = 1 + joins e + joins_m ms

  pub joins_m : Members → ℕ
  joins_m (one e) = joins e
  joins_m (more e ms) = joins e + joins_m ms

-- the bytes of a goal's number and one more: its mark, or none for the first
abbrev wide : ℕ → ℕ
wide g = suc (length (decimal g))

mutual
  inner_length : (e : Expr) → suc (length (inner e)) ≡ weigh wide e + 2 * joins e
  inner_length (goal g) = omega arith
  inner_length (join k e ms) =
      omega (
        arith,
        inner_length e,
        run_length k ms,
        length-append (inner e ++ (mark k ∷ run k ms)) (41 ∷ []),
        length-append (inner e) (mark k ∷ run k ms),
      )

  run_length : (k : Bool) (ms : Members) → suc (length (run k ms)) ≡ weigh_m wide ms + 2 * joins_m ms
  run_length k (one e) = inner_length e
  run_length k (more e ms) = omega (arith, inner_length e, run_length k ms, length-append (inner e) (mark k ∷ run k ms))

mutual
  joins_lt : (e : Expr) → joins e < weigh (λ _. 1) e
  joins_lt (goal g) = omega arith
  joins_lt (join k e ms) = omega (arith, joins_lt e, joins_m_lt ms)

  joins_m_lt : (ms : Members) → joins_m ms < weigh_m (λ _. 1) ms
  joins_m_lt (one e) = joins_lt e
  joins_m_lt (more e ms) = omega (arith, joins_lt e, joins_m_lt ms)

-- three bytes for each goal but two, and its digits
text_length_lem : (k : Bool) (e : Expr) (ms : Members) → length (text (join k e ms)) + 5 ≤ weigh wide (join k e ms) + 2 * weigh (λ _. 1) (join k e ms)
text_length_lem k e ms = omega (arith, run_length k (more e ms), joins_lt e, joins_m_lt ms)

-- ---- the weight of the goals 1 to n
-- h 0 + .. + h (m - 1)
abbrev sum : ℕ → (ℕ → ℕ) → ℕ
sum zero h = 0
sum (suc m) h = sum m h + h m

-- f 1 + .. + f n
abbrev total : (ℕ → ℕ) → ℕ → ℕ
total f zero = 0
total f (suc n) = total f n + f (suc n)

module _ (f : ℕ → ℕ) where
  sum-add : (a b : ℕ → ℕ) (m : ℕ) → sum m (λ i. (a i + b i) * f i) ≡ sum m (λ i. a i * f i) + sum m (λ i. b i * f i)
  sum-add a b zero = refl
  sum-add a b (suc m) = omega (arith, sum-add a b m)

  -- i is g, or is not
  there : (i g : ℕ) → i ≡ g → cond (eqb i g) 1 0 * f i ≡ f g
  there i g e =
      let u : cond (eqb i g) 1 0 * f i ≡ 1 * f i = ap (λ b. cond b 1 0 * f i) (eq-eqb i g e) in
      let w : f i ≡ f g = ap f e in
      omega arith

  elsewhere : (i g : ℕ) → (i ≡ g → ⊥) → cond (eqb i g) 1 0 * f i ≡ 0
  elsewhere i g n =
      let u : cond (eqb i g) 1 0 * f i ≡ 0 * f i = ap (λ b. cond b 1 0 * f i) (ne_eqb i g n) in
      omega arith

  sum-none : (m g : ℕ) → m ≤ g → sum m (λ i. cond (eqb i g) 1 0 * f i) ≡ 0
  sum-none zero g h = refl
  sum-none (suc m) g h = omega (arith, sum-none m g (omega arith), elsewhere m g (omega arith))

  sum_one : (m g : ℕ) → g < m → sum m (λ i. cond (eqb i g) 1 0 * f i) ≡ f g
  sum_one zero g h = omega arith
  sum_one (suc m) g h =
      ⊎_elim (λ t. omega (arith, sum-none m g (omega arith), there m g (omega arith))) (λ t. omega (arith, sum_one m g t, elsewhere m g (omega arith)))
      (eq-or-lt_of_le {n = g} {m = m} (omega arith))

  mutual
    weigh_sum : (e : Expr) (m : ℕ) → ((i : ℕ) → In i e → i < m) → weigh f e ≡ sum m (λ i. times e i * f i)
    weigh_sum (goal g) m l = sym (sum_one m g (l g refl))
    weigh_sum (join k e ms) m l =
        omega (arith, sum-add (times e) (times_m ms) m, weigh_sum e m (λ i p. l i (inl p)), weigh_m_sum ms m (λ i p. l i (inr p)))

    weigh_m_sum : (ms : Members) (m : ℕ) → ((i : ℕ) → InM i ms → i < m) → weigh_m f ms ≡ sum m (λ i. times_m ms i * f i)
    weigh_m_sum (one e) m l = weigh_sum e m l
    weigh_m_sum (more e ms) m l =
        omega (arith, sum-add (times e) (times_m ms) m, weigh_sum e m (λ i p. l i (inl p)), weigh_m_sum ms m (λ i p. l i (inr p)))

  sum-total : (t : ℕ → ℕ) (n m : ℕ) → t 0 ≡ 0 → ((i : ℕ) → 1 ≤ i → i ≤ n → t i ≡ 1) → m ≤ n → sum (suc m) (λ i. t i * f i) ≡ total f m
  sum-total t n zero z h l = let u : t 0 * f 0 ≡ 0 * f 0 = ap (λ x. x * f 0) z in omega arith
  sum-total t n (suc m) z h l =
      let u : t (suc m) * f (suc m) ≡ 1 * f (suc m) = ap (λ x. x * f (suc m)) (h (suc m) (omega arith) l) in
      omega (arith, sum-total t n m z h (omega arith))

  weigh_uses : (n : ℕ) (e : Expr) → UsesOnce n e → weigh f e ≡ total f n
  weigh_uses n e u =
      weigh_sum e (suc n) (λ i p. let r = uses_in n e u i p in omega arith)
      ∙ sum-total (times e) n n (u 0)
      (λ i h g. u i ∙ ap (λ b. cond b 1 0) (in_range n i (h, g)))
      (omega arith)

  total_mono : (m n : ℕ) → n ≤ m → total f n ≤ total f m
  total_mono zero n h = let e : n ≡ 0 = omega arith in omega (arith, ap (total f) e)
  total_mono (suc m) n h =
      ⊎_elim (λ e. omega (arith, ap (total f) e)) (λ l. omega (arith, total_mono m n (omega arith))) (eq-or-lt_of_le h)

-- 9 numbers of one digit and 23 of two, and a byte for each
widest : total wide goal_limit ≡ 87
unfolding decimal decimal_to
widest = refl

-- The longest text of up to 32 goals has 146 bytes.
pub text-fits : (n : ℕ) (e : Expr) → UsesOnce n e → n ≤ goal_limit → length (text e) ≤ form_limit
text-fits n (goal g) u h = let r = uses_in n (goal g) u g refl in omega (arith, decimal-length 1 g (omega (arith, r.1)))
text-fits n (join k e ms) u h =
    let c : total (λ _. 1) goal_limit ≡ goal_limit = refl in
    omega (
      arith,
      widest,
      text_length_lem k e ms,
      weigh_uses wide n (join k e ms) u,
      weigh_uses (λ _. 1) n (join k e ms) u,
      total_mono wide goal_limit n h,
      total_mono (λ _. 1) goal_limit n h,
    )

-- Up to 32 goals are in fewer than 32 sequences and groups.
pub joins_few : (n : ℕ) (e : Expr) → UsesOnce n e → n ≤ goal_limit → joins e < goal_limit
joins_few n e u h =
    let c : total (λ _. 1) goal_limit ≡ goal_limit = refl in
    omega (arith, joins_lt e, weigh_uses (λ _. 1) n e u, total_mono (λ _. 1) goal_limit n h)
