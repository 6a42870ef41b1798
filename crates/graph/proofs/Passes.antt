-- Closing in passes: a pass adds exactly what a chain of two waits gives, the chains stay the same, and where a pass adds none they are all there.
use mathlib.Core.Path.{◌≡◌, refl, sym, ap, ap₂, ◌∙◌}
use mathlib.Core.Bool.{Bool, true, false, ◌&&◌, ◌||◌, beq, or-true}
use mathlib.Core.Logic.{◌⊎◌, inl, inr, ⊎_elim, ◌↔◌}
use Prim.Native.Nat.{ℕ, zero, suc, ◌≤◌}
use native.Mathlib.Omega.{arith}
use Rattle.logic.specs.Quantifiers.{every, some_below}
use Rattle.logic.proofs.Bools.{iff, and-true, or-true as or_cases, beq_true, beq_same, clash}
use Rattle.logic.proofs.Quantifiers.{every_in, every_out, every-not, below_in, below_out, some_cong}
use Rattle.graph.specs.Closure.{Chain, wait, link, closed}
use Rattle.graph.specs.Passes.{pass, after, same_waits, ClosedWaits}
use Rattle.graph.proofs.Closure.{closed_chain, chain_closed}

-- g is one of the goals 1 to n
abbrev pub Goal : ℕ → ℕ → Type 0
Goal n g = (1 ≤ g) × (g ≤ n)

-- two relations agree on the goals
abbrev pub Agree : ℕ → (ℕ → ℕ → Bool) → (ℕ → ℕ → Bool) → Type 0
Agree n U X = (i j : ℕ) → Goal n i → Goal n j → U i j ≡ X i j

-- ---- a pass
module _ (n : ℕ) (W : ℕ → ℕ → Bool) where
  abbrev two : ℕ → ℕ → ℕ → Bool
  two i j k = W i (suc k) && W (suc k) j

  pub pass_keeps : (i j : ℕ) → W i j ≡ true → pass n W i j ≡ true
  pass_keeps i j e = ap (λ (b : Bool). b || some_below n (two i j)) e

  pub pass_adds : (i k j : ℕ) → Goal n k → W i k ≡ true → W k j ≡ true → pass n W i j ≡ true
  pass_adds i zero j a e f = absurd (omega arith)
  pass_adds i (suc k) j a e f = ap (λ (b : Bool). W i j || b) (below_in n (two i j) k a.1 (ap₂ ◌&&◌ e f)) ∙ or-true (W i j)

  pub pass-only : (i j : ℕ) → pass n W i j ≡ true → (W i j ≡ true) ⊎ ((k : ℕ) × Goal n k × (W i k ≡ true) × (W k j ≡ true))
  pass-only i j e =
      ⊎_elim inl
      (λ u.
      let r = below_out n (two i j) u in
      let w = and-true (W i (suc r.x)) (W (suc r.x) j) r.so in
      inr (suc r.x, (omega arith, r.under), w.0, w.1))
      (or_cases (W i j) (some_below n (two i j)) e)

  -- 02: "each adding exactly those waits that a chain of two waits standing at its start gives"
  pub pass_exactly : (i j : ℕ) → (pass n W i j ≡ true) ↔ ((W i j ≡ true) ⊎ ((k : ℕ) × ((1 ≤ k) × (k ≤ n)) × (W i k ≡ true) × (W k j ≡ true)))
  pass_exactly i j = (pass-only i j, ⊎_elim (pass_keeps i j) (λ r. pass_adds i r.0 j r.1 r.2 r.3))

  -- so it has the chains that there were
  chain_before : (i j : ℕ) → Chain (pass n W) n i j → Chain W n i j
  chain_before i j (wait e) = ⊎_elim wait (λ r. link r.1 (wait r.2) (wait r.3)) (pass-only i j e)
  chain_before i k (link {j = j} a p q) = link a (chain_before i j p) (chain_before j k q)

  chain_after : (i j : ℕ) → Chain W n i j → Chain (pass n W) n i j
  chain_after i j (wait e) = wait (pass_keeps i j e)
  chain_after i k (link {j = j} a p q) = link a (chain_after i j p) (chain_after j k q)

  pass-closed : (i j : ℕ) → closed (pass n W) n i j ≡ closed W n i j
  pass-closed i j =
      iff (closed (pass n W) n i j) (closed W n i j) (λ e. chain_closed W n i j (chain_before i j (closed_chain (pass n W) n n i j (omega arith) e)))
      (λ e. chain_closed (pass n W) n i j (chain_after i j (closed_chain W n n i j (omega arith) e)))

  -- where the waits are closed, each chain is a wait
  module _ (c : ClosedWaits n W) where
    chain_wait : (i j : ℕ) → Goal n i → Goal n j → Chain W n i j → W i j ≡ true
    chain_wait i j a b (wait e) = e
    chain_wait i k a b (link {j = j} g p q) = c i j k a g b (chain_wait i j a g p) (chain_wait j k g b q)

    pub closed-waits : (i j : ℕ) → Goal n i → Goal n j → closed W n i j ≡ W i j
    closed-waits i j a b =
        iff (closed W n i j) (W i j) (λ e. chain_wait i j a b (closed_chain W n n i j (omega arith) e)) (λ e. chain_closed W n i j (wait e))

  -- a pass adds none exactly if they are
  pub none-closed : Agree n (pass n W) W → ClosedWaits n W
  none-closed e i j k a b c p q = sym (e i k a c) ∙ pass_adds i j k b p q

  pub closed_none : ClosedWaits n W → Agree n (pass n W) W
  closed_none c i j a b =
      iff (pass n W i j) (W i j) (λ e. ⊎_elim (λ u. u) (λ r. c i r.0 j a r.1 b r.2 r.3) (pass-only i j e)) (pass_keeps i j)

-- ---- k passes
pub after-closed : (n : ℕ) (W : ℕ → ℕ → Bool) (k i j : ℕ) → closed (after n W k) n i j ≡ closed W n i j
after-closed n W zero i j = refl
after-closed n W (suc k) i j = pass-closed n (after n W k) i j ∙ after-closed n W k i j

pub after_chain : (n : ℕ) (W : ℕ → ℕ → Bool) (k i j : ℕ) → after n W k i j ≡ true → Chain W n i j
after_chain n W zero i j e = wait e
after_chain n W (suc k) i j e =
    ⊎_elim (after_chain n W k i j) (λ r. link r.1 (after_chain n W k i r.0 r.2) (after_chain n W k r.0 j r.3))
    (pass-only n (after n W k) i j e)

-- ---- relations that agree on the goals
pub pass_agree : (n : ℕ) (U X : ℕ → ℕ → Bool) → Agree n U X → Agree n (pass n U) (pass n X)
pass_agree n U X h i j a b =
    ap₂ ◌||◌ (h i j a b)
    (some_cong n (λ k. U i (suc k) && U (suc k) j) (λ k. X i (suc k) && X (suc k) j)
    (λ k l. ap₂ ◌&&◌ (h i (suc k) a (omega arith, l)) (h (suc k) j (omega arith, l) b)))

pub after_agree : (n : ℕ) (U X : ℕ → ℕ → Bool) → Agree n U X → (k : ℕ) → Agree n (after n U k) (after n X k)
after_agree n U X h zero = h
after_agree n U X h (suc k) = pass_agree n (after n U k) (after n X k) (after_agree n U X h k)

module _ (n : ℕ) (U X : ℕ → ℕ → Bool) where
  abbrev at : ℕ → ℕ → Bool
  at i j = beq (U (suc i) (suc j)) (X (suc i) (suc j))

  pub same_agree : same_waits n U X ≡ true → Agree n U X
  same_agree e zero j a b = absurd (omega arith)
  same_agree e (suc i) zero a b = absurd (omega arith)
  same_agree e (suc i) (suc j) a b =
      beq_true (U (suc i) (suc j)) (X (suc i) (suc j)) (every_out n (at i) (every_out n (λ i. every n (at i)) e i a.1) j b.1)

  pub agree_same : Agree n U X → same_waits n U X ≡ true
  agree_same h =
      every_in n (λ i. every n (at i))
      (λ i a. every_in n (at i) (λ j b. beq_same (U (suc i) (suc j)) (X (suc i) (suc j)) (h (suc i) (suc j) (omega arith, a) (omega arith, b))))

  -- where they do not agree, two goals show it
  pub same_not : same_waits n U X ≡ false → (i : ℕ) × (j : ℕ) × Goal n i × Goal n j × (U i j ≡ X i j → ⊥)
  same_not e =
      let r = every-not n (λ i. every n (at i)) e in
      let s = every-not n (at r.0) r.2 in
      (suc r.0, suc s.0, (omega arith, r.1), (omega arith, s.1), λ q. clash (beq_same (U (suc r.0) (suc s.0)) (X (suc r.0) (suc s.0)) q) s.2)
