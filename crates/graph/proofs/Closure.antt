-- `closed` is the chains of waits.
use mathlib.Core.Path.{◌≡◌, refl, ap, ap₂, ◌∙◌, subst}
use mathlib.Core.Bool.{Bool, true, ◌&&◌, ◌||◌, or-true}
use mathlib.Core.List.{List}
use mathlib.Core.Logic.{◌⊎◌, inl, inr, ⊎_elim}
use Prim.Native.Nat.{ℕ, zero, suc, ◌≤◌, ◌<◌}
use native.Mathlib.Nat.{eq-or-lt_of_le}
use native.Mathlib.Omega.{arith}
use Rattle.sets.specs.Sets.{goal_limit}
use Rattle.logic.proofs.Bools.{and-true, or-true as or_cases}
use Rattle.graph.specs.Graph.{ahead, rows_of, graph_of}
use Rattle.graph.specs.Closure.{Chain, wait, link, closed, closing}
use Rattle.graph.proofs.Rows.{rows_say, rows_cong}

module _ (W : ℕ → ℕ → Bool) where
  -- each step lets in no pair without a chain
  pub closed_chain : (n m i j : ℕ) → m ≤ n → closed W m i j ≡ true → Chain W n i j
  closed_chain n zero i j h t = wait t
  closed_chain n (suc m) i j h t =
      ⊎_elim (λ u. closed_chain n m i j (omega arith) u)
      (λ u.
      let r = and-true (closed W m i (suc m)) (closed W m (suc m) j) u in
      link (omega arith, h) (closed_chain n m i (suc m) (omega arith) r.0) (closed_chain n m (suc m) j (omega arith) r.1))
      (or_cases (closed W m i j) (closed W m i (suc m) && closed W m (suc m) j) t)

  keep : (m i j : ℕ) → closed W m i j ≡ true → closed W (suc m) i j ≡ true
  keep m i j h = ap₂ ◌||◌ h refl

  via : (m i j : ℕ) → closed W m i (suc m) ≡ true → closed W m (suc m) j ≡ true → closed W (suc m) i j ≡ true
  via m i j h g = ap₂ ◌||◌ (refl {a = closed W m i j}) (ap₂ ◌&&◌ h g) ∙ or-true (closed W m i j)

  -- a pair of the next step is one of this step, or goes through m + 1
  parts : (m a b : ℕ) → closed W (suc m) a b ≡ true → (closed W m a b ≡ true) ⊎ ((closed W m a (suc m) ≡ true) × (closed W m (suc m) b ≡ true))
  parts m a b e =
      ⊎_elim inl (λ r. inr (and-true (closed W m a (suc m)) (closed W m (suc m) b) r))
      (or_cases (closed W m a b) (closed W m a (suc m) && closed W m (suc m) b) e)

  -- to and from m + 1 nothing is new
  to : (m a : ℕ) → closed W (suc m) a (suc m) ≡ true → closed W m a (suc m) ≡ true
  to m a e = ⊎_elim (λ h. h) (λ h. h.0) (parts m a (suc m) e)

  from : (m b : ℕ) → closed W (suc m) (suc m) b ≡ true → closed W m (suc m) b ≡ true
  from m b e = ⊎_elim (λ h. h) (λ h. h.1) (parts m (suc m) b e)

  join_at : (m i k j : ℕ) → ((a b : ℕ) → closed W m a k ≡ true → closed W m k b ≡ true → closed W m a b ≡ true)
      → closed W (suc m) i k ≡ true → closed W (suc m) k j ≡ true → closed W (suc m) i j ≡ true
  join_at m i k j f h t = pick (parts m i k h) (parts m k j t)
    where
      pick : (closed W m i k ≡ true) ⊎ ((closed W m i (suc m) ≡ true) × (closed W m (suc m) k ≡ true))
          → (closed W m k j ≡ true) ⊎ ((closed W m k (suc m) ≡ true) × (closed W m (suc m) j ≡ true)) → closed W (suc m) i j ≡ true
      pick (inl a) (inl b) = keep m i j (f i j a b)
      pick (inl a) (inr b) = via m i j (f i (suc m) a b.0) b.1
      pick (inr a) (inl b) = via m i j a.0 (f (suc m) j a.1 b)
      pick (inr a) (inr b) = via m i j a.0 b.1

  -- closed W m is transitive through the goals 1 to m
  through : (m i k j : ℕ) → (1 ≤ k) × (k ≤ m) → closed W m i k ≡ true → closed W m k j ≡ true → closed W m i j ≡ true
  through zero i k j g h t = absurd (omega arith)
  through (suc m) i k j g h t =
      ⊎_elim
      (λ (e : k ≡ suc m). via m i j (to m i (subst (λ x. closed W (suc m) i x ≡ true) e h)) (from m j (subst (λ x. closed W (suc m) x j ≡ true) e t)))
      (λ (q : k < suc m). join_at m i k j (λ a b x y. through m a k b (g.0, omega arith) x y) h t)
      (eq-or-lt_of_le g.1)

  start : (m i j : ℕ) → W i j ≡ true → closed W m i j ≡ true
  start zero i j h = h
  start (suc m) i j h = keep m i j (start m i j h)

  pub chain_closed : (n i j : ℕ) → Chain W n i j → closed W n i j ≡ true
  chain_closed n i j (wait h) = start n i j h
  chain_closed n i k (link {j = j} g a b) = through n i j k g (chain_closed n i j a) (chain_closed n j k b)

-- Waits that agree on the goals 1 to n have the same chains there.
pub closed_agree : (W W' : ℕ → ℕ → Bool) (n : ℕ) → ((i j : ℕ) → (1 ≤ i) × (i ≤ n) → (1 ≤ j) × (j ≤ n) → W i j ≡ W' i j) → (m : ℕ) → m ≤ n
    → (i j : ℕ) → (1 ≤ i) × (i ≤ n) → (1 ≤ j) × (j ≤ n) → closed W m i j ≡ closed W' m i j
closed_agree W W' n a zero h i j p q = a i j p q
closed_agree W W' n a (suc m) h i j p q =
    let s : (1 ≤ suc m) × (suc m ≤ n) = (omega arith, h) in
    let c = closed_agree W W' n a m (omega arith) in
    ap₂ ◌||◌ (c i j p q) (ap₂ ◌&&◌ (c i (suc m) p s) (c (suc m) j s q))

-- The closure of the graph of a relation is the graph of its chains.
pub closing_of : (n : ℕ) (W : ℕ → ℕ → Bool) → n ≤ goal_limit → closing (graph_of n W) ≡ graph_of n (closed W n)
unfolding closing
closing_of n W h =
    ap (λ (l : List ℕ). record { n = n; rows = l })
    (rows_cong goal_limit n (closed (ahead (rows_of goal_limit n W)) n) (closed W n) h
    (λ i j a b c d.
    closed_agree (ahead (rows_of goal_limit n W)) W n (λ x y p q. rows_say goal_limit n W x y h p.0 p.1 q.0 q.1) n (omega arith) i j (a, b) (c, d)))
