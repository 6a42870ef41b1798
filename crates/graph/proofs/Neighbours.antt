-- Goals each of which waits for the one before it alone take the most passes.
use mathlib.Core.Path.{◌≡◌}
use mathlib.Core.Bool.{true, false}
use mathlib.Core.Logic.{⊎_elim, dite}
use Prim.Native.Nat.{ℕ, zero, suc, ◌+◌, ◌^◌, ◌≤◌, ◌<◌}
use native.Mathlib.Decide.{dec_lt}
use native.Mathlib.Omega.{arith}
use lib.Pow.{pow_pos, pow_mono}
use borrow.Author.Tests.{eq-eqb, eqb-true}
use Rattle.logic.proofs.Bools.{is_false}
use Rattle.sets.specs.Sets.{goal_limit}
use Rattle.graph.specs.Passes.{after, adds_none, passes, pass_limit, ClosedWaits, neighbours}
use Rattle.graph.proofs.Passes.{pass_keeps, pass_adds, pass-only}
use Rattle.graph.proofs.Theorems.{none_in, none_out, passes-only}

module _ (n : ℕ) where
  -- after m passes the goals wait for those up to 2 ^ m before them
  ahead_out : (m i j : ℕ) → after n neighbours m i j ≡ true → (i < j) × (j ≤ i + 2 ^ m)
  ahead_out zero i j e = let z = eqb-true (suc i) j e in (omega arith, omega arith)
  ahead_out (suc m) i j e =
      ⊎_elim (λ u. let r = ahead_out m i j u in (r.0, omega (arith, r.1)))
      (λ r.
      let p = ahead_out m i r.0 r.2 in
      let q = ahead_out m r.0 j r.3 in
      (omega (arith, p.0, q.0), omega (arith, p.1, q.1)))
      (pass-only n (after n neighbours m) i j e)

  ahead_in : (m i j : ℕ) → 1 ≤ i → i < j → j ≤ n → j ≤ i + 2 ^ m → after n neighbours m i j ≡ true
  ahead_in zero i j a b c d = eq-eqb (suc i) j (omega arith)
  ahead_in (suc m) i j a b c d =
      dite (dec_lt (i + 2 ^ m) j)
      (λ l.
      let k = i + 2 ^ m in
      let pos = pow_pos m in
      pass_adds n (after n neighbours m) i k j (omega arith, omega arith) (ahead_in m i k a (omega arith) (omega arith) (omega arith))
      (ahead_in m k j (omega arith) l c (omega arith)))
      (λ l. pass_keeps n (after n neighbours m) i j (ahead_in m i j a b c (omega arith)))

  all_there : (m : ℕ) → n ≤ 2 ^ m + 1 → ClosedWaits n (after n neighbours m)
  all_there m h i j k a b c p q =
      ahead_in m i k a.0 (omega (arith, (ahead_out m i j p).0, (ahead_out m j k q).0)) c.1 (omega (arith, a.0, c.1))

  one_lacks : (m : ℕ) → 2 ^ m + 1 < n → ClosedWaits n (after n neighbours m) → ⊥
  one_lacks m h c =
      let k = 1 + 2 ^ m in
      let pos = pow_pos m in
      let r = c 1 k (suc k) (omega arith, omega arith) (omega arith, omega arith) (omega arith, omega arith)
      (ahead_in m 1 k (omega arith) (omega arith) (omega arith) (omega arith)) (ahead_in m k (suc k) (omega arith) (omega arith) (omega arith) (omega arith)) in
      absurd (omega (arith, (ahead_out m 1 (suc k) r).1))

  neighbours-passes : (m : ℕ) → 2 ^ m + 1 < n → n ≤ 2 ^ suc m + 1 → passes n neighbours ≡ suc (suc m)
  neighbours-passes m l h = passes-only n neighbours (suc (suc m)) (omega arith) (none_in n neighbours (suc m) (all_there (suc m) h)) adds
    where
      adds : (k : ℕ) → 1 ≤ k → k < suc (suc m) → adds_none n neighbours k ≡ false
      adds zero a b = absurd (omega arith)
      adds (suc k) a b =
          is_false (adds_none n neighbours (suc k)) (λ e. one_lacks k (omega (arith, pow_mono {i = k} {j = m} (omega arith))) (none_out n neighbours k e))

-- 02: "never above 6": 6 are reached, from 18 goals on
pub limit_reached : (n : ℕ) → 18 ≤ n → n ≤ goal_limit → passes n neighbours ≡ pass_limit
limit_reached n a b = neighbours-passes n 4 (omega arith) (omega arith)
