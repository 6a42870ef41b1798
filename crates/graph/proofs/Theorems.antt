-- The number of passes, and what they come to (02, 5). For any waits of any number of goals, cycles too.
use mathlib.Core.Path.{◌≡◌, refl, sym, ap, ap₂, ◌∙◌, subst}
use mathlib.Core.Bool.{Bool, true, false, beq, true≢false}
use mathlib.Core.List.{List}
use mathlib.Core.Logic.{⊎_elim, dite, ◌↔◌}
use Prim.Native.Nat.{ℕ, zero, suc, ◌-◌, ◌^◌, ◌≤◌, ◌<◌}
use native.Mathlib.Decide.{dec_lt}
use native.Mathlib.Omega.{arith}
use lib.Pow.{pow_pos}
use Rattle.sets.specs.Sets.{goal_limit}
use Rattle.logic.proofs.Bools.{test, is_false, clash}
use Rattle.logic.proofs.Quantifiers.{every_cong}
use Rattle.logic.proofs.Lowest.{Lowest, lowest_is, lowest_of, lowest_cong}
use Rattle.graph.specs.Graph.{ahead, rows_of, graph_of}
use Rattle.graph.specs.Closure.{closed, IsGraph, closing}
use Rattle.graph.specs.Passes.{after, adds_none, passes, FirstThatAddsNone, ClosedWaits, pass_limit, closed_of}
use Rattle.graph.specs.declared.Graph.{Graph}
use Rattle.graph.proofs.Rows.{rows_say, rows_cong}
use Rattle.graph.proofs.Passes.{Goal, Agree, pass_keeps, none-closed, closed_none, closed-waits, after-closed, after_agree, same_agree, agree_same, same_not}
use Rattle.graph.proofs.Reach.{after-closes}

small : (n : ℕ) → n ≤ 2 ^ n
small zero = omega arith
small (suc n) = omega (arith, small n, pow_pos n)

less_one : (m : ℕ) → suc m - 1 ≡ m
less_one m = omega arith

module _ (n : ℕ) (W : ℕ → ℕ → Bool) where
  -- a pass adds none exactly if the waits at its start are closed
  pub none_out : (k : ℕ) → adds_none n W (suc k) ≡ true → ClosedWaits n (after n W k)
  none_out k e = none-closed n (after n W k) (same_agree n (after n W (suc k)) (after n W k) e)

  pub none_in : (k : ℕ) → ClosedWaits n (after n W k) → adds_none n W (suc k) ≡ true
  none_in k c = agree_same n (after n W (suc k)) (after n W k) (closed_none n (after n W k) c)

  -- one of the first n + 1 adds none
  pub passes-lowest : Lowest (adds_none n W) (suc n) (passes n W)
  unfolding passes
  passes-lowest =
      ⊎_elim (λ l. l) (λ l. clash (none_in n (after-closes n n W (small n))) (l.none (suc n) (omega arith))) (lowest_is (adds_none n W) (suc n))

  -- no other pass is the first
  pub passes-only : (k : ℕ) → 1 ≤ k → adds_none n W k ≡ true → ((m : ℕ) → 1 ≤ m → m < k → adds_none n W m ≡ false) → passes n W ≡ k
  unfolding passes
  passes-only k a e f =
      dite (dec_lt (suc n) k)
      (λ l. let r = passes-lowest in clash r.passes (f (passes n W) r.inside.0 (omega (arith, r.inside.1))))
      (λ l. lowest_of (adds_none n W) (suc n) k (a, omega arith) e f)

  -- ---- "the first that adds none", in words
  adds_at : (m : ℕ) → 1 ≤ m → adds_none n W m ≡ false
      → (i : ℕ) × (j : ℕ) × Goal n i × Goal n j × (after n W m i j ≡ true) × (after n W (m - 1) i j ≡ false)
  adds_at zero a e = absurd (omega arith)
  adds_at (suc m) a e =
      let r = same_not n (after n W (suc m)) (after n W m) e in
      let i = r.0 in
      let j = r.1 in
      let was : after n W m i j ≡ false = is_false (after n W m i j) (λ t. r.4 (pass_keeps n (after n W m) i j t ∙ sym t)) in
      (i, j, r.2, r.3, ⊎_elim (λ t. t) (λ t. absurd (r.4 (t ∙ sym was))) (test (after n W (suc m) i j)), ap (λ (x : ℕ). after n W x i j) (less_one m) ∙ was)

  first_out : (k : ℕ) → Lowest (adds_none n W) (suc n) k → FirstThatAddsNone n W k
  first_out zero l = absurd (omega (arith, l.inside.0))
  first_out (suc k) l =
      record {
        counted = omega arith;
        adds_none = λ i j a b. same_agree n (after n W (suc k)) (after n W k) l.passes i j a b ∙ ap (λ (x : ℕ). after n W x i j) (sym (less_one k));
        each_adds = λ m a b. adds_at m a (l.none_below m a b);
      }

  first_in_lem : (k : ℕ) → FirstThatAddsNone n W k → passes n W ≡ k
  first_in_lem zero r = absurd (omega (arith, r.counted))
  first_in_lem (suc k) r = passes-only (suc k) (omega arith) (agree_same n (after n W (suc k)) (after n W k) (λ i j a b. r.adds_none i j a b ∙ ap (λ (x : ℕ). after n W x i j) (less_one k))) adds
    where
      adds : (m : ℕ) → 1 ≤ m → m < suc k → adds_none n W m ≡ false
      adds zero a b = absurd (omega arith)
      adds (suc m) a b =
          is_false (adds_none n W (suc m))
          (λ e.
          let s = r.each_adds (suc m) a b in
          true≢false (sym s.4 ∙ same_agree n (after n W (suc m)) (after n W m) e s.0 s.1 s.2 s.3
          ∙ ap (λ (x : ℕ). after n W x s.0 s.1) (sym (less_one m)) ∙ s.5))

  -- 02: "and end with the first that adds none"
  pub passes-first : (k : ℕ) → (passes n W ≡ k) ↔ FirstThatAddsNone n W k
  passes-first k = (λ e. subst (FirstThatAddsNone n W) e (first_out (passes n W) passes-lowest), first_in_lem k)

  -- 02: "1 exactly if the waits were closed already"
  pub one-pass : (passes n W ≡ 1) ↔ ClosedWaits n W
  one-pass = (
    λ e. none_out 0 (subst (λ (k : ℕ). adds_none n W k ≡ true) e passes-lowest.passes),
    λ c. passes-only 1 (omega arith) (none_in 0 c) (λ m a b. absurd (omega arith)),
  )

  -- up to 2 ^ m goals: never above m + 1
  pub passes_most : (m : ℕ) → n ≤ 2 ^ m → passes n W ≤ suc m
  passes_most m h =
      dite (dec_lt (suc m) (passes n W)) (λ l. clash (none_in m (after-closes n m W h)) (passes-lowest.none_below (suc m) (omega arith) l)) (λ l. omega arith)

  -- 02: "The order stays the same": what they come to is the chains of waits
  pub passes-close : (i j : ℕ) → (1 ≤ i) × (i ≤ n) → (1 ≤ j) × (j ≤ n) → after n W (passes n W) i j ≡ closed W n i j
  passes-close = at (passes n W) passes-lowest
    where
      at : (k : ℕ) → Lowest (adds_none n W) (suc n) k → Agree n (after n W k) (closed W n)
      at zero l i j a b = absurd (omega (arith, l.inside.0))
      at (suc k) l i j a b =
          same_agree n (after n W (suc k)) (after n W k) l.passes i j a b
          ∙ sym (closed-waits n (after n W k) (none_out k l.passes) i j a b) ∙ after-closed n W k i j

-- waits that agree on the goals take as many passes
adds_agree : (n : ℕ) (U X : ℕ → ℕ → Bool) → Agree n U X → (k : ℕ) → adds_none n U k ≡ adds_none n X k
adds_agree n U X h zero = refl
adds_agree n U X h (suc k) =
    every_cong n _ _
    (λ i l.
    every_cong n _ _
    (λ j m.
    ap₂ beq (after_agree n U X h (suc k) (suc i) (suc j) (omega arith, l) (omega arith, m))
    (after_agree n U X h k (suc i) (suc j) (omega arith, l) (omega arith, m))))

pub passes_agree : (n : ℕ) (U X : ℕ → ℕ → Bool) → Agree n U X → passes n U ≡ passes n X
unfolding passes
passes_agree n U X h = lowest_cong (adds_none n U) (adds_none n X) (suc n) (λ k a. adds_agree n U X h k)

-- ---- a graph
module _ (g : Graph) (is : IsGraph g) where
  -- closed in passes it is the graph of its chains
  pub closed_chains : (closed_of g).graph ≡ closing g
  unfolding closed_of closing
  closed_chains =
      let n = g.n in
      let W = ahead g.rows in
      ap (λ (l : List ℕ). record { n = n; rows = l })
      (rows_cong goal_limit n (after n W (passes n W)) (closed W n) is.0 (λ i j a b c d. passes-close n W i j (a, b) (c, d)))

  -- 02: "never above 6"
  pub never_above : (closed_of g).passes ≤ pass_limit
  unfolding closed_of
  never_above = passes_most g.n (ahead g.rows) 5 is.0

-- the number of passes of the graph of a relation
pub passes_of_lem : (n : ℕ) (W : ℕ → ℕ → Bool) → n ≤ goal_limit → (closed_of (graph_of n W)).passes ≡ passes n W
unfolding closed_of
passes_of_lem n W h = passes_agree n (ahead (rows_of goal_limit n W)) W (λ i j a b. rows_say goal_limit n W i j h a.0 a.1 b.0 b.1)
