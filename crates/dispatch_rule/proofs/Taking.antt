-- The first half of a tick: the idle heads take goals.
use mathlib.Core.Path.{◌≡◌, refl, sym, ap, ◌∙◌, subst}
use mathlib.Core.Bool.{Bool, true, false, not, ◌&&◌, ◌||◌, cond, true≢false, or-true}
use mathlib.Core.List.{List, [], ◌∷◌}
use mathlib.Core.Logic.{◌⊎◌, inl, inr, ⊎_elim}
use Prim.Native.Nat.{ℕ, suc, ◌+◌, ◌≤◌}
use native.Mathlib.Omega.{arith}
use lib.Dec.{eqb}
use lib.ListN.{length}
use borrow.Author.Tests.{eq-eqb, ne_eqb, eqb-true, eqb-false}
use Rattle.schedule.specs.Range.{Goals}
use Rattle.dispatch_rule.specs.declared.Head.{Head}
use Rattle.dispatch_rule.specs.Rule.{idle, count, ready, next, offer, taken}
use Rattle.dispatch_rule.specs.Validity.{In, Busy}
use Rattle.logic.proofs.Bools.{test, by_test, and-true, not-true, or-false}
use Rattle.logic.proofs.Lowest.{Lowest, Nothing, lowest_is}
use Rattle.schedule.proofs.Range.{same, other}

-- The ticks left of goal g on the row, and d if it is on none.
abbrev pub left_on : List Head → ℕ → ℕ → ℕ
left_on [] g d = d
left_on (h ∷ hs) g d = cond (eqb g h.goal) h.left (left_on hs g d)

module _ (h : Head) (hs : List Head) (g : ℕ) where
  pub count-here : g ≡ h.goal → count (h ∷ hs) g ≡ suc (count hs g)
  count-here e = omega (arith, same g h.goal e)

  pub count_there : (g ≡ h.goal → ⊥) → count (h ∷ hs) g ≡ count hs g
  count_there e = omega (arith, other g h.goal e)

  pub left_here : (d : ℕ) → g ≡ h.goal → left_on (h ∷ hs) g d ≡ h.left
  left_here d e = ap (λ b. cond b h.left (left_on hs g d)) (eq-eqb g h.goal e)

  pub left_there : (d : ℕ) → (g ≡ h.goal → ⊥) → left_on (h ∷ hs) g d ≡ left_on hs g d
  left_there d e = ap (λ b. cond b h.left (left_on hs g d)) (ne_eqb g h.goal e)

-- is it the same goal?
pub same_or : (g x : ℕ) → (g ≡ x) ⊎ (g ≡ x → ⊥)
same_or g x = ⊎_elim (λ e. inl (eqb-true g x e)) (λ e. inr (eqb-false g x e)) (test (eqb g x))

-- off the row
pub left_off : (hs : List Head) (g d : ℕ) → count hs g ≡ 0 → left_on hs g d ≡ d
left_off [] g d z = refl
left_off (h ∷ hs) g d z =
    ⊎_elim (λ e. absurd (omega (arith, count-here h hs g e)))
    (λ e. left_there h hs g d e ∙ left_off hs g d (omega (arith, count_there h hs g e))) (same_or g h.goal)

module _ (R : ℕ → ℕ → Bool) (n : ℕ) (t : ℕ → ℕ) (E : ℕ → Bool) where
  -- a head's turn
  pub data Offered (B : ℕ → Bool) : Head → Head → Type 0 where
    kept : {h : Head} → 1 ≤ h.goal → Busy R n t E h → Offered B h h
    still : ((g : ℕ) → Goals n g → E g ≡ false → ready R n E g ≡ true → B g ≡ true) → Offered B idle idle
    given : (p : ℕ) → Goals n p → E p ≡ false → B p ≡ false → ready R n E p ≡ true → Offered B idle (record { goal = p; left = t p })

  free : (a b c : Bool) → a ≡ false → b ≡ false → c ≡ true → (not a && not b && c) ≡ true
  free a b c p q r = cc

  pub offer_is : (B : ℕ → Bool) (h : Head) → (h ≡ idle) ⊎ Busy R n t E h → Offered B h (offer R n t E B h)
  offer_is B h (inl e) = subst (λ x. Offered B x (offer R n t E B x)) (sym e) (pick (next R n E B) (lowest_is (λ g. not (E g) && not (B g) && ready R n E g) n))
    where
      pick : (p : ℕ) → Lowest (λ g. not (E g) && not (B g) && ready R n E g) n p ⊎ Nothing (λ g. not (E g) && not (B g) && ready R n E g) n p
          → Offered B idle (record { goal = p; left = cond (eqb p 0) 0 (t p) })
      pick p (inl l) =
          let u = and-true (not (E p) && not (B p)) (ready R n E p) l.passes in
          let v = and-true (not (E p)) (not (B p)) u.0 in
          let z : eqb p 0 ≡ false = ne_eqb p 0 (λ q. omega (arith, l.inside.0)) in
          subst (λ b. Offered B idle (record { goal = p; left = cond b 0 (t p) })) (sym z)
          (given p l.inside (not-true (E p) v.0) (not-true (B p) v.1) u.1)
      pick p (inr l) =
          subst (λ x. Offered B idle (record { goal = x; left = cond (eqb x 0) 0 (t x) })) (sym l.zero_is)
          (still
          (λ g a e r. ⊎_elim (λ b. b) (λ b. absurd (true≢false (sym (free (E g) (B g) (ready R n E g) e b r) ∙ l.none g a))) (test (B g))))
  offer_is B h (inr u) =
      by_test (λ x. Offered B h x) (eqb h.goal 0) (λ e. absurd (let z = eqb-true h.goal 0 e in omega (arith, u.goals.0)))
      (λ e. kept u.goals.0 u)

  -- what the turns of a row do
  pub record Taken (B : ℕ → Bool) (hs rs : List Head) : Type 0 where
    pub stay : (g : ℕ) → 1 ≤ g → B g ≡ true → count rs g ≡ count hs g
    pub once : (g : ℕ) → 1 ≤ g → B g ≡ false → count rs g ≤ 1
    pub same_left : (g : ℕ) → 1 ≤ g → left_on rs g (t g) ≡ left_on hs g (t g)
    pub fine : (h : Head) → In h rs → (h ≡ idle) ⊎ Busy R n t E h
    pub spare : (h : Head) → In h rs → h.goal ≡ 0 → (g : ℕ) → Goals n g → E g ≡ false → ready R n E g ≡ true → (B g ≡ true) ⊎ (1 ≤ count rs g)
    pub long : length rs ≡ length hs

  -- B holds what is on the row
  abbrev Covers : (ℕ → Bool) → List Head → Type 0
  Covers B hs = (g : ℕ) → 1 ≤ g → B g ≡ false → count hs g ≡ 0

  -- B with one goal more
  abbrev with_goal : (ℕ → Bool) → ℕ → ℕ → Bool
  with_goal B x g = B g || eqb g x

  was : (B : ℕ → Bool) (x g : ℕ) → B g ≡ true → with_goal B x g ≡ true
  was B x g e = ap (λ b. b || eqb g x) e

  now_in : (B : ℕ → Bool) (x g : ℕ) → g ≡ x → with_goal B x g ≡ true
  now_in B x g e = ap (λ b. B g || b) (eq-eqb g x e) ∙ or-true (B g)

  not_in : (B : ℕ → Bool) (x g : ℕ) → B g ≡ false → (g ≡ x → ⊥) → with_goal B x g ≡ false
  not_in B x g e f = cc (ne_eqb g x f)

  -- out of B and x, out of B and not x
  apart : (B : ℕ → Bool) (x g : ℕ) → with_goal B x g ≡ true → (B g ≡ true) ⊎ (g ≡ x)
  apart B x g e = ⊎_elim inl (λ f. inr (eqb-true g x (sym (ap (λ b. b || eqb g x) f) ∙ e))) (test (B g))

  tail_covers : (B : ℕ → Bool) (h : Head) (hs : List Head) (x : ℕ) → Covers B (h ∷ hs) → Covers (with_goal B x) hs
  tail_covers B h hs x cov g l e =
      let z : count (h ∷ hs) g ≡ 0 = cov g l (or-false (B g) (eqb g x) e).0 in
      omega arith

  -- a later head is idle: a goal that could be taken is on the row
  later : (B : ℕ → Bool) (k : Head) (rs : List Head) (g : ℕ) → (with_goal B k.goal g ≡ true) ⊎ (1 ≤ count rs g) → (B g ≡ true) ⊎ (1 ≤ count (k ∷ rs) g)
  later B k rs g (inl e) = ⊎_elim inl (λ q. inr (omega (arith, count-here k rs g q))) (apart B k.goal g e)
  later B k rs g (inr c) = inr (omega arith)

  unmoved : (B : ℕ → Bool) (h : Head) (hs rs : List Head) → (h ≡ idle) ⊎ Busy R n t E h
      → (h.goal ≡ 0 → (g : ℕ) → Goals n g → E g ≡ false → ready R n E g ≡ true → B g ≡ true) → Covers B (h ∷ hs)
      → Taken (with_goal B h.goal) hs rs → Taken B (h ∷ hs) (h ∷ rs)
  unmoved B h hs rs ok f cov r =
      record {
        stay = λ g l e. ap (λ x. cond (eqb g h.goal) 1 0 + x) (r.stay g l (was B h.goal g e));
        once =
            λ g l e.
            let z = cov g l e in
            let ne : g ≡ h.goal → ⊥ = λ q. omega (arith, count-here h hs g q) in
            omega (arith, count_there h rs g ne, r.once g l (not_in B h.goal g e ne));
        same_left = λ g l. ap (λ x. cond (eqb g h.goal) h.left x) (r.same_left g l);
        fine = λ x. fine x;
        spare = λ x. spare x;
        long = ap suc r.long;
      }
    where
      fine : (x : Head) → In x (h ∷ rs) → (x ≡ idle) ⊎ Busy R n t E x
      fine x (inl e) = subst (λ y. (y ≡ idle) ⊎ Busy R n t E y) (sym e) ok
      fine x (inr i) = r.fine x i

      spare : (x : Head) → In x (h ∷ rs) → x.goal ≡ 0 → (g : ℕ) → Goals n g → E g ≡ false → ready R n E g ≡ true → (B g ≡ true) ⊎ (1 ≤ count (h ∷ rs) g)
      spare x (inl e) z g a c d = inl (f (sym (ap (λ (y : Head). y.goal) e) ∙ z) g a c d)
      spare x (inr i) z g a c d = later B h rs g (r.spare x i z g a c d)

  module _ (least : (g : ℕ) → Goals n g → 1 ≤ t g) where
    moved : (B : ℕ → Bool) (p : ℕ) (hs rs : List Head) → Goals n p → E p ≡ false → B p ≡ false → ready R n E p ≡ true → Covers B (idle ∷ hs)
        → Taken (with_goal B p) hs rs → Taken B (idle ∷ hs) (record { goal = p; left = t p } ∷ rs)
    moved B p hs rs gs op b rd cov r =
        record {
          stay =
              λ g l e.
              let ne : g ≡ p → ⊥ = λ q. true≢false (sym e ∙ (ap B q ∙ b)) in
              omega (arith, count_there k rs g ne, r.stay g l (was B p g e), count_there idle hs g (λ q. omega arith));
          once =
              λ g l e.
              ⊎_elim
              (λ (q : g ≡ p). omega (arith, count-here k rs g q, r.stay g l (now_in B p g q), tail g l e))
              (λ (q : g ≡ p → ⊥). omega (arith, count_there k rs g q, r.once g l (not_in B p g e q))) (same_or g p);
          same_left =
              λ g l.
              ⊎_elim
              (λ (q : g ≡ p).
              left_here k rs g (t g) q ∙ (ap t (sym q) ∙ (sym (left_off hs g (t g) (tail g l (ap B q ∙ b))) ∙ sym (left_there idle hs g (t g) (λ w. omega arith)))))
              (λ (q : g ≡ p → ⊥). left_there k rs g (t g) q ∙ (r.same_left g l ∙ sym (left_there idle hs g (t g) (λ w. omega arith))))
              (same_or g p);
          fine = λ x. fine x;
          spare = λ x. spare x;
          long = ap suc r.long;
        }
      where
        k : Head
        k = record { goal = p; left = t p }

        tail : (g : ℕ) → 1 ≤ g → B g ≡ false → count hs g ≡ 0
        tail g l e = let z = cov g l e in omega (arith, count_there idle hs g (λ q. omega arith))

        fine : (x : Head) → In x (k ∷ rs) → (x ≡ idle) ⊎ Busy R n t E x
        fine x (inl e) =
            inr
            (subst (λ y. Busy R n t E y) (sym e)
            (record { goals = gs; open_yet = op; some_left = least p gs; not_above = omega arith; prepared = rd }))
        fine x (inr i) = r.fine x i

        spare : (x : Head) → In x (k ∷ rs) → x.goal ≡ 0 → (g : ℕ) → Goals n g → E g ≡ false → ready R n E g ≡ true
            → (B g ≡ true) ⊎ (1 ≤ count (k ∷ rs) g)
        spare x (inl e) z g a c d = absurd (let q : p ≡ 0 = sym (ap (λ (y : Head). y.goal) e) ∙ z in omega (arith, gs.0))
        spare x (inr i) z g a c d = later B k rs g (r.spare x i z g a c d)

    more : (B : ℕ → Bool) (h k : Head) (hs rs : List Head) → Offered B h k → Covers B (h ∷ hs) → Taken (with_goal B k.goal) hs rs → Taken B (h ∷ hs) (k ∷ rs)
    more B h k hs rs (kept {h = x} pos u) cov r = unmoved B x hs rs (inr u) (λ z. absurd (omega arith)) cov r
    more B h k hs rs (still f) cov r = unmoved B idle hs rs (inl refl) (λ z. f) cov r
    more B h k hs rs (given p gs e b rd) cov r = moved B p hs rs gs e b rd cov r

    pub taken_is : (B : ℕ → Bool) (hs : List Head) → ((h : Head) → In h hs → (h ≡ idle) ⊎ Busy R n t E h) → Covers B hs → Taken B hs (taken R n t E B hs)
    taken_is B [] ok cov =
        record {
          stay = λ g l e. refl;
          once = λ g l e. omega arith;
          same_left = λ g l. refl;
          fine = λ h i. absurd i;
          spare = λ h i. absurd i;
          long = refl;
        }
    taken_is B (h ∷ hs) ok cov =
        let k = offer R n t E B h in
        more B h k hs (taken R n t E (with_goal B k.goal) hs) (offer_is B h (ok h (inl refl))) cov
        (taken_is (with_goal B k.goal) hs (λ x i. ok x (inr i)) (tail_covers B h hs k.goal cov))
