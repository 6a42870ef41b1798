-- k × T is at most W + (k − 1) × C.
use mathlib.Core.Path.{◌≡◌, refl, sym, ap, ◌∙◌, subst}
use mathlib.Core.Bool.{Bool, true, false, not, ◌||◌, cond, true≢false, false≢true}
use mathlib.Core.Logic.{◌⊎◌, inl, inr, ⊎_elim}
use Prim.Native.Nat.{ℕ, zero, suc, ◌+◌, ◌*◌, ◌-◌, ◌≤◌, ◌<◌}
use native.Mathlib.Omega.{arith}
use native.Mathlib.Nat.{mul-le-mul_left, eq-or-lt_of_le}
use lib.ListN.{length, replicate, length-replicate}
use borrow.Author.Tests.{leb-true, leb-false, not-false}
use Rattle.schedule.specs.Range.{Goals, Order, total}
use Rattle.schedule.specs.Heaviest.{heaviest}
use Rattle.dispatch_rule.specs.declared.Head.{Head}
use Rattle.dispatch_rule.specs.Rule.{State, idle, start, count, on, ready, busy, ends, assigned, tick}
use Rattle.dispatch_rule.specs.Validity.{In, Valid}
use Rattle.dispatch_rule.specs.Run.{working, after, Done, LastWorking}
use Rattle.logic.proofs.Bools.{test, or-false}
use Rattle.schedule.proofs.Range.{strong, each_at, each-not, total-add, total_eq, top_le, top_mono, top_falls}
use Rattle.schedule.proofs.Heaviest.{ending, prior, ending-step, heaviest-top, prior_is, prior-not, ending_mono, heaviest_mono}
use Rattle.dispatch_rule.proofs.Taking.{left_on, left_off, count_there}
use Rattle.dispatch_rule.proofs.Working.{busy-total, all-or-idle}
use Rattle.dispatch_rule.proofs.Ticks.{rem, Open, done_or, tk, valid-tick, long_tick, rem-tick, spare, works, done_works}

module _ (R : ℕ → ℕ → Bool) (n : ℕ) (t : ℕ → ℕ) where
  -- no chain of ended goals has weight
  ended_zero : (s : State) → Order R (Goals n) → Valid R n t s → (g : ℕ) → s.ended g ≡ true → ending R (rem t s) g ≡ 0
  ended_zero s o v = strong (λ g. s.ended g ≡ true → ending R (rem t s) g ≡ 0) step
    where
      step : (g : ℕ) → ((i : ℕ) → i < g → s.ended i ≡ true → ending R (rem t s) i ≡ 0) → s.ended g ≡ true → ending R (rem t s) g ≡ 0
      step zero ih e = refl
      step (suc m) ih e =
          let p : rem t s (suc m) ≡ 0 = ap (λ b. cond b 0 (left_on s.heads (suc m) (t (suc m)))) e in
          let q = top_le (prior R (rem t s) (suc m)) m 0 pred in
          omega (arith, ending-step R (rem t s) m)
        where
          pred : (i : ℕ) → Goals m i → prior R (rem t s) (suc m) i ≤ 0
          pred i a =
              ⊎_elim
              (λ r.
              let b = v.known (suc m) e in
              let c = each_at (λ i. not (R i (suc m)) || s.ended i) n i (v.before (suc m) e) (a.0, omega (arith, a.1, b.1)) in
              let d : s.ended i ≡ true = sym (ap (λ y. not y || s.ended i) r) ∙ c in
              omega (arith, prior_is R (rem t s) i (suc m) r, ih i (omega (arith, a.1)) d))
              (λ r. omega (arith, prior-not R (rem t s) i (suc m) r)) (test (R i (suc m)))

module _ (R : ℕ → ℕ → Bool) (n : ℕ) (t : ℕ → ℕ) (o : Order R (Goals n)) (least : (g : ℕ) → Goals n g → 1 ≤ t g) (s : State) (v : Valid R n t s) where
  abbrev next : State
  next = tick R n t s

  abbrev old : ℕ → ℕ
  old = rem t s

  abbrev new : ℕ → ℕ
  new = rem t (tick R n t s)

  new_le : (i : ℕ) → Goals n i → new i ≤ old i
  new_le i a = omega (arith, rem-tick R n t o least s v i a)

  was_ended : (g : ℕ) → s.ended g ≡ true → ending R new g ≡ 0
  was_ended g e = ended_zero R n t (tick R n t s) o (valid-tick R n t o least s v) g (ap (λ b. b || ends (assigned R n t s) g) e)

  module _ (h : Head) (i : In h (assigned R n t s)) (z : h.goal ≡ 0) where
    Falls : ℕ → Type 0
    Falls g = Goals n g → s.ended g ≡ false → ending R new g < ending R old g

    -- each value that g can follow is 0 or falls
    each_falls : (g m : ℕ) → suc m ≡ g → g ≤ n → ((j : ℕ) → j < g → Falls j) → (j : ℕ) → Goals m j → (prior R new g j ≡ 0) ⊎ (prior R new g j < prior R old g j)
    unfolding Falls
    each_falls g m q l ih j a =
        ⊎_elim
        (λ r.
        ⊎_elim (λ e. inl (prior_is R new j g r ∙ was_ended j e))
        (λ e. inr (omega (arith, prior_is R new j g r, prior_is R old j g r, ih j (omega (arith, a.1)) (a.0, omega (arith, a.1)) e)))
        (test (s.ended j)))
        (λ r. inl (prior-not R new j g r)) (test (R j g))

    -- If a head is idle after the taking, the heaviest chain up to each goal that has not ended falls.
    falls : (g : ℕ) → Falls g
    unfolding Falls
    falls = strong Falls step
      where
        step : (g : ℕ) → ((j : ℕ) → j < g → Falls j) → Falls g
        step zero ih a e = absurd (omega (arith, a.0))
        step (suc m) ih a e = ⊎_elim on-head off_head (test (on (assigned R n t s) (suc m)))
          where
            on-head : on (assigned R n t s) (suc m) ≡ true → ending R new (suc m) < ending R old (suc m)
            on-head c =
                omega (
                  arith,
                  ending-step R new m,
                  ending-step R old m,
                  rem-tick R n t o least s v (suc m) a,
                  leb-true 1 (count (assigned R n t s) (suc m)) c,
                  top_mono (prior R new (suc m)) (prior R old (suc m)) m
                      (λ j b.
                      ⊎_elim
                      (λ r. omega (arith, prior_is R new j (suc m) r, prior_is R old j (suc m) r, ending_mono R n new old new_le j (omega (arith, b.1, a.1))))
                      (λ r. omega (arith, prior-not R new j (suc m) r)) (test (R j (suc m)))),
                )

            off_head : on (assigned R n t s) (suc m) ≡ false → ending R new (suc m) < ending R old (suc m)
            off_head c =
                ⊎_elim (λ rd. absurd (omega (arith, leb-false 1 (count (assigned R n t s) (suc m)) c, spare R n t o least s v h i z (suc m) a e rd)))
                (λ rd.
                let p = each-not (λ j. not (R j (suc m)) || s.ended j) n rd in
                let q = or-false (not (R p.0 (suc m))) (s.ended p.0) p.2 in
                let r = not-false (R p.0 (suc m)) q.0 in
                let l = o.rising p.0 (suc m) p.1 a r in
                omega (
                  arith,
                  ending-step R new m,
                  ending-step R old m,
                  new_le (suc m) a,
                  top_falls (prior R new (suc m)) (prior R old (suc m)) m p.0 (p.1.0, omega arith)
                      (omega (arith, prior_is R new p.0 (suc m) r, prior_is R old p.0 (suc m) r, ih p.0 l p.1 q.1))
                      (each_falls (suc m) m refl a.1 ih),
                ))
                (test (ready R n s.ended (suc m)))

    pub heaviest_falls : Open n s → heaviest R n new < heaviest R n old
    unfolding Falls
    heaviest_falls (g, a, e) =
        omega (
          arith,
          heaviest-top R new n,
          heaviest-top R old n,
          top_falls (ending R new) (ending R old) n g a (falls g a e)
              (λ j b. ⊎_elim (λ u. inl (was_ended j u)) (λ u. inr (falls j b u)) (test (s.ended j))),
        )

  -- what is worked in this tick
  pub work : total new n + working R n t s ≡ total old n
  work =
      let a = total-add new (count (assigned R n t s)) n in
      let b = total_eq (λ g. new g + count (assigned R n t s) g) old n (λ g a. rem-tick R n t o least s v g a) in
      let c = busy-total (assigned R n t s) n (λ h i. ⊎_elim inl (λ b. inr b.goals) ((tk R n t o least s v).fine h i)) in
      omega arith

  -- One tick of suc j heads, while some goal has not ended.
  pub potential : (j : ℕ) → length s.heads ≡ suc j → Open n s → (total new n + j * heaviest R n new) + suc j ≤ total old n + j * heaviest R n old
  potential j k p =
      ⊎_elim
      (λ (q : busy (assigned R n t s) ≡ length (assigned R n t s)).
      omega (arith, work, (tk R n t o least s v).long, mul-le-mul_left j (heaviest_mono R n new old new_le)))
      (λ (r : (h : Head) × In h (assigned R n t s) × (h.goal ≡ 0)).
      omega (arith, work, works R n t o least s v (omega arith) p, mul-le-mul_left j (heaviest_falls r.0 r.1 r.2 p)))
      (all-or-idle (assigned R n t s))

module _ (R : ℕ → ℕ → Bool) (n : ℕ) (t : ℕ → ℕ) (o : Order R (Goals n)) (least : (g : ℕ) → Goals n g → 1 ≤ t g) where
  pub after-valid : (s : State) → Valid R n t s → (m : ℕ) → Valid R n t (after R n t m s)
  after-valid s v zero = v
  after-valid s v (suc m) = valid-tick R n t o least (after R n t m s) (after-valid s v m)

  pub after_long : (s : State) → Valid R n t s → (m : ℕ) → length (after R n t m s).heads ≡ length s.heads
  after_long s v zero = refl
  after_long s v (suc m) = long_tick R n t o least (after R n t m s) (after-valid s v m) ∙ after_long s v m

  -- what has not ended after a tick had not before it
  open_back : (s : State) → Open n (tick R n t s) → Open n s
  open_back s (g, a, e) = (g, a, (or-false (s.ended g) (ends (assigned R n t s) g) e).0)

  open_earlier : (s : State) (m i : ℕ) → i ≤ m → Open n (after R n t m s) → Open n (after R n t i s)
  open_earlier s zero i l p = subst (λ x. Open n (after R n t x s)) (let e : 0 ≡ i = omega arith in e) p
  open_earlier s (suc m) i l p =
      ⊎_elim (λ (e : i ≡ suc m). subst (λ x. Open n (after R n t x s)) (sym e) p)
      (λ (q : i < suc m). open_earlier s m i (omega arith) (open_back (after R n t m s) p)) (eq-or-lt_of_le l)

  abbrev Φ : ℕ → State → ℕ
  Φ j s = total (rem t s) n + j * heaviest R n (rem t s)

  sum_up : (s : State) → Valid R n t s → (j : ℕ) → length s.heads ≡ suc j → (m : ℕ) → Open n (after R n t m s)
      → Φ j (after R n t (suc m) s) + suc j * suc m ≤ Φ j s
  sum_up s v j k zero p = omega (arith, potential R n t o least s v j k p)
  sum_up s v j k (suc m) p =
      omega (
        arith,
        sum_up s v j k m (open_back (after R n t m s) p),
        potential R n t o least (after R n t (suc m) s) (after-valid s v (suc m)) j (after_long s v (suc m) ∙ k) p,
      )

  -- while a head works, some goal has not ended
  working_open : (s : State) → Valid R n t s → 1 ≤ working R n t s → Open n s
  working_open s v w = ⊎_elim (λ d. absurd (omega (arith, done_works R n t o least s v d))) (λ p. p) (done_or n s)

  -- ---- a start
  start_none : (k g : ℕ) → 1 ≤ g → count (replicate k idle) g ≡ 0
  start_none zero g l = refl
  start_none (suc k) g l = count_there idle (replicate k idle) g (λ q. omega arith) ∙ start_none k g l

  start_in : (k : ℕ) (h : Head) → In h (replicate k idle) → h ≡ idle
  start_in zero h i = absurd i
  start_in (suc k) h (inl e) = e
  start_in (suc k) h (inr i) = start_in k h i

  pub start-valid : (k : ℕ) → Valid R n t (start k)
  start-valid k =
      record {
        fine = λ h i. inl (start_in k h i);
        once = λ g l. omega (arith, start_none k g l);
        known = λ g e. absurd (false≢true e);
        before = λ g e. absurd (false≢true e);
      }

  start-rem : (k g : ℕ) → Goals n g → rem t (start k) g ≡ t g
  start-rem k g a = left_off (replicate k idle) g (t g) (start_none k g a.0)

  start_Φ : (j k : ℕ) → Φ j (start k) ≤ total t n + j * heaviest R n t
  start_Φ j k =
      omega (
        arith,
        total_eq (rem t (start k)) t n (λ g a. start-rem k g a),
        mul-le-mul_left j (heaviest_mono R n (rem t (start k)) t (λ g a. omega (arith, start-rem k g a))),
      )

  -- Tick m + 1 from a start works: k (m + 1) is at most W + (k − 1) C.
  pub bound : (k : ℕ) → 1 ≤ k → (m : ℕ) → 1 ≤ working R n t (after R n t m (start k)) → k * suc m ≤ total t n + (k - 1) * heaviest R n t
  bound zero l m w = absurd (omega arith)
  bound (suc j) l m w =
      let e : suc j - 1 ≡ j = omega arith in
      let p = working_open (after R n t m (start (suc j))) (after-valid (start (suc j)) (start-valid (suc j)) m) w in
      rw e
      (omega (arith, sum_up (start (suc j)) (start-valid (suc j)) j (length-replicate (suc j) idle) m p, start_Φ j (suc j)))

  pub last_bound : (k T : ℕ) → 1 ≤ k → LastWorking R n t (start k) T → k * T ≤ total t n + (k - 1) * heaviest R n t
  last_bound k zero l w = omega arith
  last_bound k (suc m) l w = bound k l m (w.works m (omega arith))

  -- ---- there is a last working tick
  progress : (s : State) → Valid R n t s → 1 ≤ length s.heads → (m : ℕ)
      → Done n (after R n t m s) ⊎ (total (rem t (after R n t m s)) n + m ≤ total (rem t s) n)
  progress s v l zero = inr (omega arith)
  progress s v l (suc m) = pick (progress s v l m) (done_or n (after R n t m s))
    where
      x : State
      x = after R n t m s

      pick : Done n x ⊎ (total (rem t x) n + m ≤ total (rem t s) n) → Done n x ⊎ Open n x
          → Done n (tick R n t x) ⊎ (total (rem t (tick R n t x)) n + suc m ≤ total (rem t s) n)
      pick _ (inl d) = inl (λ g a. ap (λ b. b || ends (assigned R n t x) g) (d g a))
      pick (inl d) (inr p) = absurd (true≢false (sym (d p.0 p.1) ∙ p.2))
      pick (inr q) (inr p) =
          inr (omega (arith, work R n t o least x (after-valid s v m), works R n t o least x (after-valid s v m) (omega (arith, after_long s v m)) p))

  first_done : (s : State) (m : ℕ) → Done n (after R n t m s)
      → (T : ℕ) × Done n (after R n t T s) × ((i : ℕ) → i < T → Open n (after R n t i s))
  first_done s zero d = (0, d, λ i l. absurd (omega arith))
  first_done s (suc m) d =
      ⊎_elim (λ e. first_done s m e) (λ p. (suc m, d, λ i l. open_earlier s m i (omega arith) p)) (done_or n (after R n t m s))

  done_later : (s : State) (T m : ℕ) → T ≤ m → Done n (after R n t T s) → Done n (after R n t m s)
  done_later s T m l d = ⊎_elim (λ e. e) (λ p. let q = open_earlier s m T l p in absurd (true≢false (sym (d q.0 q.1) ∙ q.2))) (done_or n (after R n t m s))

  pub last-working : (s : State) → Valid R n t s → 1 ≤ length s.heads → (T : ℕ) × LastWorking R n t s T × Done n (after R n t T s)
  last-working s v l =
      let W = total (rem t s) n in
      let d : Done n (after R n t (suc W) s) = ⊎_elim (λ d. d) (λ q. absurd (omega arith)) (progress s v l (suc W)) in
      let r = first_done s (suc W) d in (
        r.0,
        record {
          works = λ m q. works R n t o least (after R n t m s) (after-valid s v m) (omega (arith, after_long s v m)) (r.2 m q);
          rests = λ m q. done_works R n t o least (after R n t m s) (after-valid s v m) (done_later s r.0 m q r.1);
        },
        r.1,
      )
