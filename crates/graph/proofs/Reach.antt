-- How many passes there are: after m passes each chain of up to 2 ^ m waits is a wait, and a chain over n goals need not have more than n.
use mathlib.Core.Path.{◌≡◌, sym, ap, ap₂, ◌∙◌, subst}
use mathlib.Core.Bool.{Bool, true, ◌&&◌, ◌||◌, true≢false, or-true}
use mathlib.Core.Logic.{◌⊎◌, inl, inr, ⊎_elim}
use Prim.Native.Nat.{ℕ, zero, suc, ◌+◌, ◌-◌, ◌^◌, ◌≤◌, ◌<◌}
use native.Mathlib.Nat.{eq-or-lt_of_le}
use native.Mathlib.Decide.{dec_lt, ℕ_discrete}
use native.Mathlib.Omega.{arith}
use lib.Count.{ones-le}
use Rattle.logic.specs.Quantifiers.{some_below}
use Rattle.logic.proofs.Bools.{iff, and-true, or-true as or_cases}
use Rattle.logic.proofs.Quantifiers.{below_in, below_out}
use Rattle.sets.specs.Sets.{count}
use Rattle.sets.proofs.Membership.{member_below}
use Rattle.graph.specs.Graph.{has_goal, goals_of}
use Rattle.graph.specs.Closure.{Chain, wait, link}
use Rattle.graph.specs.Passes.{after, ClosedWaits}
use Rattle.graph.proofs.Goals.{goal-none, Part, part_less}
use Rattle.graph.proofs.Rows.{goals-has, goals_lt, goals_ext}
use Rattle.graph.proofs.Passes.{Goal, pass_keeps, pass_adds, after_chain}

module _ (n : ℕ) (W : ℕ → ℕ → Bool) where
  -- a chain of at most c + 1 waits leads from i to j
  abbrev reach : ℕ → ℕ → ℕ → Bool
  reach zero i j = W i j
  reach (suc c) i j = reach c i j || some_below n (λ k. W i (suc k) && reach c (suc k) j)

  reach_keeps : (c i j : ℕ) → reach c i j ≡ true → reach (suc c) i j ≡ true
  reach_keeps c i j e = ap (λ (b : Bool). b || some_below n (λ k. W i (suc k) && reach c (suc k) j)) e

  reach_wait : (c i j : ℕ) → W i j ≡ true → reach c i j ≡ true
  reach_wait zero i j e = e
  reach_wait (suc c) i j e = reach_keeps c i j (reach_wait c i j e)

  reach_le : (c d i j : ℕ) → c ≤ d → reach c i j ≡ true → reach d i j ≡ true
  reach_le c zero i j l e = subst (λ (x : ℕ). reach x i j ≡ true) (let z : c ≡ 0 = omega arith in z) e
  reach_le c (suc d) i j l e =
      ⊎_elim (λ (z : c ≡ suc d). subst (λ (x : ℕ). reach x i j ≡ true) z e) (λ (q : c < suc d). reach_keeps d i j (reach_le c d i j (omega arith) e))
      (eq-or-lt_of_le l)

  reach_step : (c i k j : ℕ) → Goal n k → W i k ≡ true → reach c k j ≡ true → reach (suc c) i j ≡ true
  reach_step c i zero j g e f = absurd (omega arith)
  reach_step c i (suc k) j g e f =
      ap (λ (b : Bool). reach c i j || b) (below_in n (λ k. W i (suc k) && reach c (suc k) j) k g.1 (ap₂ ◌&&◌ e f)) ∙ or-true (reach c i j)

  reach-only : (c i j : ℕ) → reach (suc c) i j ≡ true → (reach c i j ≡ true) ⊎ ((k : ℕ) × Goal n k × (W i k ≡ true) × (reach c k j ≡ true))
  reach-only c i j e =
      ⊎_elim inl
      (λ u.
      let r = below_out n (λ k. W i (suc k) && reach c (suc k) j) u in
      let w = and-true (W i (suc r.x)) (reach c (suc r.x) j) r.so in
      inr (suc r.x, (omega arith, r.under), w.0, w.1))
      (or_cases (reach c i j) (some_below n (λ k. W i (suc k) && reach c (suc k) j)) e)

  -- ---- a chain falls into two
  abbrev Halved : ℕ → ℕ → ℕ → ℕ → Type 0
  Halved a b i j = (reach a i j ≡ true) ⊎ ((reach b i j ≡ true) ⊎ ((k : ℕ) × Goal n k × (reach a i k ≡ true) × (reach b k j ≡ true)))

  halve : (a b i j : ℕ) → reach (suc (a + b)) i j ≡ true → Halved a b i j
  halve zero b i j e =
      ⊎_elim (λ u. inr (inl u)) (λ r. inr (inr r))
      (reach-only b i j (subst (λ (x : ℕ). reach (suc x) i j ≡ true) (let z : 0 + b ≡ b = omega arith in z) e))
  halve (suc a) b i j e =
      ⊎_elim (λ u. same (halve a b i j u)) (λ r. longer r.0 r.1 r.2 (halve a b r.0 j r.3))
      (reach-only (suc (a + b)) i j (subst (λ (x : ℕ). reach (suc x) i j ≡ true) (let z : suc a + b ≡ suc (a + b) = omega arith in z) e))
    where
      same : Halved a b i j → Halved (suc a) b i j
      same (inl u) = inl (reach_keeps a i j u)
      same (inr (inl u)) = inr (inl u)
      same (inr (inr (k, g, p, q))) = inr (inr (k, g, reach_keeps a i k p, q))

      longer : (k : ℕ) → Goal n k → W i k ≡ true → Halved a b k j → Halved (suc a) b i j
      longer k g w (inl u) = inl (reach_step a i k j g w u)
      longer k g w (inr (inl u)) = inr (inr (k, g, reach_wait (suc a) i k w, u))
      longer k g w (inr (inr (l, h, p, q))) = inr (inr (l, h, reach_step a i k l g w p, q))

  -- after m passes the chains of up to 2 ^ m waits are waits
  in_after : (m c i j : ℕ) → c < 2 ^ m → reach c i j ≡ true → after n W m i j ≡ true
  in_after zero zero i j l e = e
  in_after zero (suc c) i j l e = absurd (omega arith)
  in_after (suc m) c i j l e = pick (dec_lt c (2 ^ m)) (λ a. in_after m a)
    where
      pick : Dec (c < 2 ^ m) → ((a x y : ℕ) → a < 2 ^ m → reach a x y ≡ true → after n W m x y ≡ true) → after n W (suc m) i j ≡ true
      pick (yes h) f = pass_keeps n (after n W m) i j (f c i j h e)
      pick (no h) f =
          let a = 2 ^ m - 1 in
          let b = c - 2 ^ m in
          let la : a < 2 ^ m = omega arith in
          let lb : b < 2 ^ m = omega arith in
          let z : c ≡ suc (a + b) = omega arith in
          ⊎_elim (λ u. pass_keeps n (after n W m) i j (f a i j la u))
          (⊎_elim (λ u. pass_keeps n (after n W m) i j (f b i j lb u))
          (λ r. pass_adds n (after n W m) i r.0 j r.1 (f a i r.0 la r.2) (f b r.0 j lb r.3)))
          (halve a b i j (subst (λ (x : ℕ). reach x i j ≡ true) z e))

  -- ---- n waits suffice
  module _ (j : ℕ) where
    -- the goals from which j is reached
    abbrev from : ℕ → ℕ
    from c = goals_of n (λ i. reach c i j)

    from-has : (c i : ℕ) → Goal n i → has_goal (from c) i ≡ reach c i j
    from-has c i g = goals-has n (λ i. reach c i j) i g.0 g.1

    grows : (c : ℕ) → Part (from c) (from (suc c))
    grows c zero e = e
    grows c (suc i) e =
        let g = inside c i e in
        from-has (suc c) (suc i) g ∙ reach_keeps c (suc i) j (sym (from-has c (suc i) g) ∙ e)
      where
        inside : (c i : ℕ) → has_goal (from c) (suc i) ≡ true → Goal n (suc i)
        inside c i e = (omega arith, member_below n (from c) i (goals_lt n (λ i. reach c i j)) e)

    -- where one wait more leads to j from no other goal, any chain leads to j by so many
    module _ (c : ℕ) (stop : from c ≡ from (suc c)) where
      back : (i k : ℕ) → Goal n i → Goal n k → W i k ≡ true → reach c k j ≡ true → reach c i j ≡ true
      back i k a b e f =
          sym (from-has c i a) ∙ ap (λ (m : ℕ). has_goal m i) stop ∙ from-has (suc c) i a ∙ reach_step c i k j b e f

      along : (i k : ℕ) → Goal n i → Goal n k → Chain W n i k → reach c k j ≡ true → reach c i j ≡ true
      along i k a b (wait e) f = back i k a b e f
      along i l a b (link {j = k} g p q) f = along i k a g p (along k l g b q f)

      ends : (i : ℕ) → Goal n i → Chain W n i j → reach c i j ≡ true
      ends i a (wait e) = reach_wait c i j e
      ends i a (link {j = k} g p q) = along i k a g p (ends k g q)

    -- the sets grow, goal by goal, until then
    abbrev Stops : ℕ → Type 0
    Stops c = (d : ℕ) × (d ≤ c) × (from d ≡ from (suc d))

    none_stops : from 0 ≡ 0 → from 0 ≡ from 1
    none_stops z =
        goals_ext n (from 0) (λ i. reach 1 i j) (goals_lt n (λ i. reach 0 i j))
        (λ i a b.
        from-has 0 i (a, b)
        ∙ iff (reach 0 i j) (reach 1 i j) (reach_keeps 0 i j)
        (λ e.
        ⊎_elim (λ u. u)
        (λ r. absurd (true≢false (sym r.3 ∙ sym (from-has 0 r.0 r.1) ∙ ap (λ (m : ℕ). has_goal m r.0) z ∙ goal-none r.0)))
        (reach-only 0 i j e)))

    some_less : (m : ℕ) → m < 2 ^ n → (m ≡ 0 → ⊥) → 0 < count m
    some_less m l h = omega (arith, part_less n 0 m (λ g e. absurd (true≢false (sym e ∙ goal-none g))) l (λ z. h (sym z)))

    count-grows : (c : ℕ) → Stops c ⊎ (c + 1 < count (from (suc c)))
    count-grows zero =
        go (ℕ_discrete (from 0) (from 1)) (ℕ_discrete (from 0) 0)
      where
        go : Dec (from 0 ≡ from 1) → Dec (from 0 ≡ 0) → Stops 0 ⊎ (0 + 1 < count (from 1))
        go (yes e) d = inl (0, omega arith, e)
        go (no e) (yes z) = absurd (e (none_stops z))
        go (no e) (no z) =
            inr (omega (arith, some_less (from 0) (goals_lt n (λ i. reach 0 i j)) z, part_less n (from 0) (from 1) (grows 0) (goals_lt n (λ i. reach 1 i j)) e))
    count-grows (suc c) = go (count-grows c) (ℕ_discrete (from (suc c)) (from (suc (suc c))))
      where
        go : Stops c ⊎ (c + 1 < count (from (suc c))) → Dec (from (suc c) ≡ from (suc (suc c))) → Stops (suc c) ⊎ (suc c + 1 < count (from (suc (suc c))))
        go (inl (d, l, e)) q = inl (d, omega arith, e)
        go (inr l) (yes e) = inl (suc c, omega arith, e)
        go (inr l) (no e) =
            inr (omega (arith, l, part_less n (from (suc c)) (from (suc (suc c))) (grows (suc c)) (goals_lt n (λ i. reach (suc (suc c)) i j)) e))

    -- n goals: at most n waits
    chain_reach : (i : ℕ) → Goal n i → Chain W n i j → reach (n - 1) i j ≡ true
    chain_reach i a p =
        ⊎_elim (λ s. reach_le s.0 (n - 1) i j s.1 (ends s.0 s.2 i a p))
        (λ l. absurd (omega (arith, l, ones-le n (from (suc (n - 1))) (goals_lt n (λ i. reach (suc (n - 1)) i j)), a.0, a.1)))
        (count-grows (n - 1))

-- after m passes the waits of up to 2 ^ m goals are closed
pub after-closes : (n m : ℕ) (W : ℕ → ℕ → Bool) → n ≤ 2 ^ m → ClosedWaits n (after n W m)
after-closes n m W h i j k a b c p q =
    in_after n W m (n - 1) i k (omega (arith, a.0, a.1))
    (chain_reach n W k i a (link b (after_chain n W m i j p) (after_chain n W m j k q)))
