-- The heaviest chain: the row computes it, and more weight never makes it lighter.
use mathlib.Core.Path.{◌≡◌, refl, ap, ap₂}
use mathlib.Core.Bool.{Bool, true, false, cond}
use mathlib.Core.List.{List, [], ◌∷◌}
use mathlib.Core.Logic.{◌⊎◌, inl, inr, ⊎_elim}
use Prim.Native.Nat.{ℕ, zero, suc, ◌+◌, ◌≤◌, ◌<◌, max}
use native.Mathlib.Decide.{dec_le}
use native.Mathlib.Omega.{arith}
use lib.ListN.{length}
use Rattle.schedule.specs.Range.{Goals, Order, top}
use Rattle.schedule.specs.Heaviest.{IsChain, weight, IsHeaviest, best_before, row, heaviest}
use Rattle.logic.proofs.Bools.{test}
use Rattle.schedule.proofs.Range.{strong, le_top, top_mono}

-- ---- the row, as a function: the heaviest chain that ends with goal g
abbrev pub ending : (ℕ → ℕ → Bool) → (ℕ → ℕ) → ℕ → ℕ
ending R w zero = 0
ending R w (suc m) = w (suc m) + best_before R (suc m) (row R w m)

-- what goal j can follow
abbrev pub prior : (ℕ → ℕ → Bool) → (ℕ → ℕ) → ℕ → ℕ → ℕ
prior R w j i = cond (R i j) (ending R w i) 0

module _ (R : ℕ → ℕ → Bool) (w : ℕ → ℕ) where
  row-length : (m : ℕ) → length (row R w m) ≡ m
  row-length zero = refl
  row-length (suc m) = ap suc (row-length m)

  best_top : (m j : ℕ) → best_before R j (row R w m) ≡ top (prior R w j) m
  best_top zero j = refl
  best_top (suc m) j = ap₂ max (best_top m j) (ap (λ x. cond (R (suc x) j) (ending R w (suc m)) 0) (row-length m))

  pub ending-step : (m : ℕ) → ending R w (suc m) ≡ w (suc m) + top (prior R w (suc m)) m
  ending-step m = ap (λ x. w (suc m) + x) (best_top m (suc m))

  pub heaviest-top : (n : ℕ) → heaviest R n w ≡ top (ending R w) n
  heaviest-top zero = refl
  heaviest-top (suc m) = ap (λ x. max x (ending R w (suc m))) (heaviest-top m)

  pub prior_is : (i j : ℕ) → R i j ≡ true → prior R w j i ≡ ending R w i
  prior_is i j h = ap (λ b. cond b (ending R w i) 0) h

  pub prior-not : (i j : ℕ) → R i j ≡ false → prior R w j i ≡ 0
  prior-not i j h = ap (λ b. cond b (ending R w i) 0) h

-- ---- more weight, no lighter chain
module _ (R : ℕ → ℕ → Bool) (n : ℕ) (v w : ℕ → ℕ) where
  pub ending_mono : ((i : ℕ) → Goals n i → v i ≤ w i) → (i : ℕ) → i ≤ n → ending R v i ≤ ending R w i
  ending_mono h = strong (λ i. i ≤ n → ending R v i ≤ ending R w i) step
    where
      prior_le : (j i : ℕ) → ending R v i ≤ ending R w i → prior R v j i ≤ prior R w j i
      prior_le j i l =
          ⊎_elim (λ e. omega (arith, prior_is R v i j e, prior_is R w i j e)) (λ e. omega (arith, prior-not R v i j e)) (test (R i j))

      step : (m : ℕ) → ((i : ℕ) → i < m → i ≤ n → ending R v i ≤ ending R w i) → m ≤ n → ending R v m ≤ ending R w m
      step zero ih l = omega arith
      step (suc m) ih l =
          omega (
            arith,
            ending-step R v m,
            ending-step R w m,
            h (suc m) (omega arith),
            top_mono (prior R v (suc m)) (prior R w (suc m)) m (λ i g. prior_le (suc m) i (ih i (omega arith) (omega arith))),
          )

  pub heaviest_mono : ((i : ℕ) → Goals n i → v i ≤ w i) → heaviest R n v ≤ heaviest R n w
  heaviest_mono h =
      omega (arith, heaviest-top R v n, heaviest-top R w n, top_mono (ending R v) (ending R w) n (λ i g. ending_mono h i g.1))

-- ---- what the row computes is the heaviest chain
module _ (R : ℕ → ℕ → Bool) (n : ℕ) (w : ℕ → ℕ) where
  chain_le : Order R (Goals n) → (c : List ℕ) (g : ℕ) → IsChain R n (g ∷ c) → weight w (g ∷ c) ≤ ending R w g
  chain_le o [] zero h = absurd (omega (arith, h.0.0))
  chain_le o [] (suc m) h = omega (arith, ending-step R w m)
  chain_le o (i ∷ c) zero h = absurd (omega (arith, h.0.0))
  chain_le o (i ∷ c) (suc m) h =
      let l = o.rising i (suc m) h.2.0 h.0 h.1 in
      omega (
        arith,
        ending-step R w m,
        chain_le o c i h.2,
        prior_is R w i (suc m) h.1,
        le_top (prior R w (suc m)) m i (h.2.0.0, omega arith),
      )

  -- the largest of 1 to n is met, or is 0
  top-met : (f : ℕ → ℕ) (m : ℕ) → (top f m ≡ 0) ⊎ ((i : ℕ) × Goals m i × (f i ≡ top f m))
  top-met f zero = inl refl
  top-met f (suc m) = pick (top-met f m) (dec_le (top f m) (f (suc m)))
    where
      pick : (top f m ≡ 0) ⊎ ((i : ℕ) × Goals m i × (f i ≡ top f m)) → Dec (top f m ≤ f (suc m)) → (top f (suc m) ≡ 0) ⊎ ((i : ℕ) × Goals (suc m) i × (f i ≡ top f (suc m)))
      pick r (yes l) = inr (suc m, omega arith, omega arith)
      pick q (no l) =
          ⊎_elim (λ e. absurd (omega arith)) (λ r. inr (r.0, (r.1.0, omega (arith, r.1.1)), omega (arith, r.2))) q

  Met : ℕ → Type 0
  Met g = Goals n g → (c : List ℕ) × IsChain R n (g ∷ c) × (weight w (g ∷ c) ≡ ending R w g)

  chain_met : (g : ℕ) → Met g
  unfolding Met
  chain_met = strong Met step
    where
      step : (g : ℕ) → ((i : ℕ) → i < g → Met i) → Met g
      step zero ih gs = absurd (omega (arith, gs.0))
      step (suc m) ih gs =
          ⊎_elim (λ (e : top (prior R w (suc m)) m ≡ 0). ([], (gs, tt, tt), omega (arith, ending-step R w m)))
          (λ r.
          ⊎_elim
          (λ (e : R r.0 (suc m) ≡ true).
          let q = ih r.0 (omega (arith, r.1.1)) (r.1.0, omega (arith, r.1.1)) in
          (r.0 ∷ q.0, (gs, e, q.1), omega (arith, ending-step R w m, q.2, r.2, prior_is R w r.0 (suc m) e)))
          (λ (e : R r.0 (suc m) ≡ false). ([], (gs, tt, tt), omega (arith, ending-step R w m, r.2, prior-not R w r.0 (suc m) e)))
          (test (R r.0 (suc m))))
          (top-met (prior R w (suc m)) m)

  pub heaviest_is : Order R (Goals n) → IsHeaviest R n w (heaviest R n w)
  unfolding Met
  heaviest_is o = record { most = most; met = met }
    where
      most : (c : List ℕ) → IsChain R n c → weight w c ≤ heaviest R n w
      most [] h = omega arith
      most (g ∷ c) h = omega (arith, chain_le o c g h, heaviest-top R w n, le_top (ending R w) n g h.0)

      met : (c : List ℕ) × IsChain R n c × (weight w c ≡ heaviest R n w)
      met =
          ⊎_elim (λ e. ([], tt, omega (arith, heaviest-top R w n)))
          (λ r. let q = chain_met r.0 r.1 in (r.0 ∷ q.0, q.1, omega (arith, q.2, r.2, heaviest-top R w n)))
          (top-met (ending R w) n)

  pub heaviest_unique : Order R (Goals n) → (C : ℕ) → IsHeaviest R n w C → C ≡ heaviest R n w
  heaviest_unique o C h =
      let k = heaviest_is o in
      let a = k.met in
      let b = h.met in
      omega (arith, h.most a.0 a.1, a.2, k.most b.0 b.1, b.2)
