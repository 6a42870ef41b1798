-- The members that pass a test: which goals stand in them, and that they fit R and the house form as all of them do.
use mathlib.Core.Path.{◌≡◌, sym, ap, ◌∙◌}
use mathlib.Core.Bool.{Bool, true, false, not, true≢false, not-not}
use mathlib.Core.Logic.{◌⊎◌, inl, inr, ⊎_elim}
use Prim.Native.Nat.{ℕ, ◌<◌}
use native.Mathlib.Omega.{arith}
use Rattle.expression.specs.Expr.{Expr, Members, one, more, NoJoin, Ascend, House, HouseM, least, least_m}
use Rattle.expression.specs.Form.{joined, pick}
use Rattle.expression.proofs.Fits.{In, InM, Cross, Fits, FitsM}
use Rattle.logic.proofs.Bools.{test, by_test}
use Rattle.expression.proofs.Least.{least_m_in, least_m_le}

-- ---- the join of one or more members
pub joined_in : (k : Bool) (ms : Members) (i : ℕ) → In i (joined k ms) → InM i ms
joined_in k (one e) i p = p
joined_in k (more e ms) i p = p

pub in_joined : (k : Bool) (ms : Members) (i : ℕ) → InM i ms → In i (joined k ms)
in_joined k (one e) i p = p
in_joined k (more e ms) i p = p

pub joined-fits : (R : ℕ → ℕ → Bool) (k : Bool) (ms : Members) → FitsM R k ms → Fits R (joined k ms)
joined-fits R k (one e) f = f
joined-fits R k (more e ms) f = f

pub joined_house : (k : Bool) (ms : Members) → HouseM k ms → House (joined k ms)
joined_house k (one e) h = h.0
joined_house k (more e ms) h = h

-- ---- the smallest goal
pub ascend : (k : Bool) (e : Expr) (ms : Members) → (k ≡ false → (j : ℕ) → InM j ms → least e < j) → Ascend k e ms
ascend k e ms h q = h q (least_m ms) (least_m_in ms)

module _ (p : Expr → Bool) where
  -- i stands in a member that passes the test
  abbrev pub InP : ℕ → Members → Type 0
  InP i (one m) = (p m ≡ true) × In i m
  InP i (more m ms) = ((p m ≡ true) × In i m) ⊎ InP i ms

  pub inp_in : (ms : Members) (i : ℕ) → InP i ms → InM i ms
  inp_in (one m) i h = h.1
  inp_in (more m ms) i (inl h) = inl h.1
  inp_in (more m ms) i (inr h) = inr (inp_in ms i h)

  pub pick_in : (e : Expr) (ms : Members) (i : ℕ) → InM i (pick p e ms) → In i e ⊎ InP i ms
  pick_in e (one m) i = by_test (λ z. InM i z → In i e ⊎ InP i (one m)) (p m) (λ h. ⊎_elim inl (λ q. inr (h, q))) (λ h q. inl q)
  pick_in e (more m ms) i =
      by_test (λ z. InM i z → In i e ⊎ InP i (more m ms)) (p m)
      (λ h. ⊎_elim inl (λ q. inr (⊎_elim (λ r. inl (h, r)) inr (pick_in m ms i q))))
      (λ h q. ⊎_elim inl (λ r. inr (inr r)) (pick_in e ms i q))

  pub in_pick : (e : Expr) (ms : Members) (i : ℕ) → In i e ⊎ InP i ms → InM i (pick p e ms)
  in_pick e (one m) i = by_test (λ z. In i e ⊎ InP i (one m) → InM i z) (p m)
      (λ h. ⊎_elim inl (λ q. inr q.1))
      (λ h. ⊎_elim (λ q. q) (λ q. absurd (true≢false (sym q.0 ∙ h))))
  in_pick e (more m ms) i = by_test (λ z. In i e ⊎ InP i (more m ms) → InM i z) (p m)
      (λ h. ⊎_elim inl (λ q. inr (in_pick m ms i (⊎_elim (λ r. inl r.1) inr q))))
      (λ h. ⊎_elim (λ q. in_pick e ms i (inl q)) (⊎_elim (λ q. absurd (true≢false (sym q.0 ∙ h))) (λ q. in_pick e ms i (inr q))))

  module _ (R : ℕ → ℕ → Bool) (k : Bool) where
    pub pick-fits : (e : Expr) (ms : Members) → Fits R e → FitsM R k ms → Cross R k (λ i. In i e) (λ j. InP j ms) → FitsM R k (pick p e ms)
    pick-fits e (one m) f g x = by_test (FitsM R k) (p m) (λ h. (f, g, λ i j q r. x i j q (h, r))) (λ h. f)
    pick-fits e (more m ms) f g x =
        by_test (FitsM R k) (p m)
        (λ h. (f, pick-fits m ms g.0 g.1 (λ i j q r. g.2 i j q (inp_in ms j r)), λ i j q r. x i j q (⊎_elim (λ s. inl (h, s)) inr (pick_in m ms j r))))
        (λ h. pick-fits e ms f g.1 (λ i j q r. x i j q (inr r)))

  module _ (k : Bool) where
    pub pick_house : (e : Expr) (ms : Members) → House e → NoJoin k e → HouseM k ms → (k ≡ false → (j : ℕ) → InP j ms → least e < j) → HouseM k (pick p e ms)
    pick_house e (one m) w n h l = by_test (HouseM k) (p m) (λ t. (w, n, ascend k e (one m) (λ q j r. l q j (t, r)), h)) (λ t. (w, n))
    pick_house e (more m ms) w n h l =
        by_test (HouseM k) (p m)
        (λ t. (
          w,
          n,
          ascend k e (pick p m ms) (λ q j r. l q j (⊎_elim (λ s. inl (t, s)) inr (pick_in m ms j r))),
          pick_house m ms h.0 h.1 h.3 (λ q j r. omega (arith, h.2 q, least_m_le ms j (inp_in ms j r))),
        ))
        (λ t. pick_house e ms w n h.3 (λ q j r. l q j (inr r)))

    -- several are left: they are joined the k way, and so the whole is no join of the other kind
    pub pick_joins : (e : Expr) (ms : Members) (i : ℕ) → InP i ms → NoJoin (not k) (joined k (pick p e ms))
    pick_joins e (one m) i h =
        by_test (λ z. NoJoin (not k) (joined k z)) (p m) (λ t. sym (not-not k)) (λ t. absurd (true≢false (sym h.0 ∙ t)))
    pick_joins e (more m ms) i h =
        by_test (λ z. NoJoin (not k) (joined k z)) (p m)
        (λ t. sym (not-not k))
        (λ t. ⊎_elim (λ g. absurd (true≢false (sym g.0 ∙ t))) (λ g. pick_joins e ms i g) h)

-- each goal stands in a member that passes the test or in one that does not
pub in_inp : (p : Expr → Bool) (ms : Members) (i : ℕ) → InM i ms → InP p i ms ⊎ InP (λ m. not (p m)) i ms
in_inp p (one m) i h = ⊎_elim (λ t. inl (t, h)) (λ t. inr (ap not t, h)) (test (p m))
in_inp p (more m ms) i (inl h) = ⊎_elim (λ t. inl (inl (t, h))) (λ t. inr (inl (ap not t, h))) (test (p m))
in_inp p (more m ms) i (inr h) = ⊎_elim (λ q. inl (inr q)) (λ q. inr (inr q)) (in_inp p ms i h)
