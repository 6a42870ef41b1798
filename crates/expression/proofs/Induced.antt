-- The order as 01 words it is what `before` computes, and there is just one innermost part that holds both goals.
--     before_is            Once e → (before e i j ≡ true) ↔ Before e i j
--     innermost_is, innermost_unique     i and j stand in e → Innermost e i j p for just one p
use mathlib.Core.Path.{◌≡◌, refl, sym, ap, ap₂, ◌∙◌, subst}
use mathlib.Core.Bool.{Bool, true, false, ◌&&◌, ◌||◌, false≢true, or-true}
use mathlib.Core.List.{List, [], ◌∷◌}
use mathlib.Core.Logic.{◌⊎◌, inl, inr, ⊎_elim, dite, ◌↔◌}
use Prim.Native.Nat.{ℕ, zero, suc, ◌+◌, ◌≤◌, ◌<◌}
use native.Mathlib.Omega.{arith}
use native.Mathlib.Decide.{dec_lt}
use borrow.Author.Tests.{leb-true, le-leb}
use Rattle.expression.specs.Expr.{Expr, goal, join, Members, one, more, times, times_m, stands, stands_m, before, before_m, Once}
use Rattle.expression.specs.Induced.{listed, members, At, Part, itself, inside, Holds, Innermost, Sequence, Earlier, Before}
use Rattle.expression.proofs.Fits.{InM}
use Rattle.logic.proofs.Bools.{test, or-true as or_cases, and-true as and_both}
use Rattle.expression.proofs.Spec.{times_m_in, in_stands}

-- ---- members and what they hold
-- a number that stands in members stands in one of them
pub find : (ms : Members) (i : ℕ) → InM i ms → (a : ℕ) × (m : Expr) × At (listed ms) a m × Holds m i
find (one e) i p = (0, e, refl, in_stands e i p)
find (more e ms) i (inl p) = (0, e, refl, in_stands e i p)
find (more e ms) i (inr p) = let r = find ms i p in (suc r.0, r.1, r.2, r.3)

pub found : (ms : Members) (a : ℕ) (m : Expr) → At (listed ms) a m → (i : ℕ) → times m i ≤ times_m ms i
found (one e) zero m h i = omega (arith, ap (λ x. times x i) h)
found (one e) (suc a) m h i = absurd h
found (more e ms) zero m h i = omega (arith, ap (λ x. times x i) h)
found (more e ms) (suc a) m h i = omega (arith, found ms a m h i)

holds_times : (e : Expr) (i : ℕ) → Holds e i → 1 ≤ times e i
holds_times e i h = leb-true 1 (times e i) h

-- a number that stands in two of them stands in them twice
twice : (ms : Members) (a b : ℕ) (m m' : Expr) → At (listed ms) a m → At (listed ms) b m' → a < b → (i : ℕ) → times m i + times m' i ≤ times_m ms i
twice (one e) a zero m m' h g l i = absurd (omega arith)
twice (one e) a (suc b) m m' h g l i = absurd g
twice (more e ms) a zero m m' h g l i = absurd (omega arith)
twice (more e ms) zero (suc b) m m' h g l i = omega (arith, ap (λ x. times x i) h, found ms b m' g i)
twice (more e ms) (suc a) (suc b) m m' h g l i = omega (arith, twice ms a b m m' h g (omega arith) i)

-- so it stands in one only, if none stands twice
same_place : (ms : Members) → ((i : ℕ) → times_m ms i ≤ 1) → (i a b : ℕ) (m m' : Expr) → At (listed ms) a m → At (listed ms) b m' → Holds m i → Holds m' i → a ≡ b
same_place ms u i a b m m' h g p q =
    let n : 2 ≤ times m i + times m' i = omega (arith, holds_times m i p, holds_times m' i q) in
    dite (dec_lt a b) (λ l. absurd (omega (arith, twice ms a b m m' h g l i, u i)))
    (λ l. dite (dec_lt b a) (λ r. absurd (omega (arith, twice ms b a m' m g h r i, u i))) (λ r. omega arith))

-- what a member holds, its join holds
holds_up : (e : Expr) (a : ℕ) (m : Expr) → At (members e) a m → (i : ℕ) → Holds m i → Holds e i
holds_up (goal g) a m h i p = absurd h
holds_up (join k e ms) a m h i p = le-leb 1 (times (join k e ms) i) (omega (arith, found (more e ms) a m h i, holds_times m i p))

module _ (i j : ℕ) where
  -- ---- what `before` finds: a member that has i before j, or i's member earlier in a sequence
  abbrev Orders : Bool → List Expr → Type 0
  Orders k l = ((a : ℕ) × (m : Expr) × At l a m × Before m i j) ⊎ ((k ≡ true) × Earlier l i j)

  after : (k : Bool) (e : Expr) (l : List Expr) → Orders k l → Orders k (e ∷ l)
  after k e l (inl r) = inl (suc r.0, r.1, r.2, r.3)
  after k e l (inr r) =
      let x = r.1 in
      inr (
        r.0,
        record {
          a = suc x.a;
          b = suc x.b;
          left = x.left;
          right = x.right;
          at_a = x.at_a;
          at_b = x.at_b;
          holds_i = x.holds_i;
          holds_j = x.holds_j;
          earlier = omega (arith, x.earlier);
        },
      )

  across : (k : Bool) (e : Expr) (ms : Members) → (k && stands e i && stands_m ms j) ≡ true → Orders k (e ∷ listed ms)
  across k e ms h =
      let t = and_both (k && stands e i) (stands_m ms j) h in
      let s = and_both k (stands e i) t.0 in
      let r = find ms j (times_m_in ms j (leb-true 1 (times_m ms j) t.1)) in
      inr (
        s.0,
        record {
          a = 0;
          b = suc r.0;
          left = e;
          right = r.1;
          at_a = refl;
          at_b = r.2;
          holds_i = s.1;
          holds_j = r.3;
          earlier = omega arith;
        },
      )

  step : (k : Bool) (e : Expr) (ms : Members) → (before e i j ≡ true → Before e i j) → (before_m k ms i j ≡ true → Orders k (listed ms))
      → before_m k (more e ms) i j ≡ true → Orders k (e ∷ listed ms)
  step k e ms f g h =
      ⊎_elim
      (λ t. ⊎_elim (λ u. inl (0, e, refl, f u)) (λ u. after k e (listed ms) (g u)) (or_cases (before e i j) (before_m k ms i j) t))
      (λ t. across k e ms t)
      (or_cases (before e i j || before_m k ms i j) (k && stands e i && stands_m ms j) h)

  -- it is the innermost part, or that of the member is
  whole : (k : Bool) (e : Expr) (ms : Members) → Once (join k e ms) → Orders k (listed (more e ms)) → Before (join k e ms) i j
  whole k e ms u (inl (a, m, h, x)) =
      let y = x.innermost in
      record {
        part = x.part;
        innermost = record { part = inside a h y.part; holds_i = y.holds_i; holds_j = y.holds_j; no_member = y.no_member };
        sequence = x.sequence;
        earlier = x.earlier;
      }
  whole k e ms u (inr (t, x)) =
      record {
        part = join k e ms;
        innermost =
            record {
              part = itself;
              holds_i = holds_up (join k e ms) x.a x.left x.at_a i x.holds_i;
              holds_j = holds_up (join k e ms) x.b x.right x.at_b j x.holds_j;
              no_member =
                  λ c m h p q.
                  omega (
                    arith,
                    x.earlier,
                    same_place (more e ms) u i x.a c x.left m x.at_a h x.holds_i p,
                    same_place (more e ms) u j x.b c x.right m x.at_b h x.holds_j q,
                  );
            };
        sequence = t;
        earlier = x;
      }

  mutual
    before_forth : (e : Expr) → Once e → before e i j ≡ true → Before e i j
    before_forth (goal g) u h = absurd (false≢true h)
    before_forth (join k e ms) u h =
        whole k e ms u (step k e ms (λ t. before_forth e (λ i. omega (arith, u i)) t) (λ t. before_m_forth k ms (λ i. omega (arith, u i)) t) h)

    before_m_forth : (k : Bool) (ms : Members) → ((i : ℕ) → times_m ms i ≤ 1) → before_m k ms i j ≡ true → Orders k (listed ms)
    before_m_forth k (one e) u h = inl (0, e, refl, before_forth e u h)
    before_m_forth k (more e ms) u h =
        step k e ms (λ t. before_forth e (λ i. omega (arith, u i)) t) (λ t. before_m_forth k ms (λ i. omega (arith, u i)) t) h

  -- ---- the other way
  from_member : (k : Bool) (ms : Members) (a : ℕ) (m : Expr) → At (listed ms) a m → before m i j ≡ true → before_m k ms i j ≡ true
  from_member k (one e) zero m h t = sym (ap (λ x. before x i j) h) ∙ t
  from_member k (one e) (suc a) m h t = absurd h
  from_member k (more e ms) zero m h t = let s : before e i j ≡ true = sym (ap (λ x. before x i j) h) ∙ t in simp s
  from_member k (more e ms) (suc a) m h t = let s : before_m k ms i j ≡ true = from_member k ms a m h t in simp (s, or-true)

  from-earlier : (ms : Members) (a b : ℕ) (m m' : Expr) → At (listed ms) a m → At (listed ms) b m' → Holds m i → Holds m' j → a < b → before_m true ms i j ≡ true
  from-earlier (one e) a zero m m' h g p q l = absurd (omega arith)
  from-earlier (one e) a (suc b) m m' h g p q l = absurd g
  from-earlier (more e ms) a zero m m' h g p q l = absurd (omega arith)
  from-earlier (more e ms) zero (suc b) m m' h g p q l =
      let s : stands e i ≡ true = sym (ap (λ x. stands x i) h) ∙ p in
      let t : stands_m ms j ≡ true = le-leb 1 (times_m ms j) (omega (arith, found ms b m' g j, holds_times m' j q)) in
      simp (s, t, or-true)
  from-earlier (more e ms) (suc a) (suc b) m m' h g p q l =
      let s : before_m true ms i j ≡ true = from-earlier ms a b m m' h g p q (omega arith) in
      simp (s, or-true)

  up : (e : Expr) (a : ℕ) (m : Expr) → At (members e) a m → before m i j ≡ true → before e i j ≡ true
  up (goal g) a m h t = absurd h
  up (join k e ms) a m h t = from_member k (more e ms) a m h t

  here : (p : Expr) → Sequence p → Earlier (members p) i j → before p i j ≡ true
  here (goal g) s x = absurd s
  here (join k e ms) s x =
      subst (λ h. before_m h (more e ms) i j ≡ true) (sym s)
      (from-earlier (more e ms) x.a x.b x.left x.right x.at_a x.at_b x.holds_i x.holds_j x.earlier)

  before_back : (p : Expr) {e : Expr} → Part p e → Sequence p → Earlier (members p) i j → before e i j ≡ true
  before_back p itself s x = here p s x
  before_back p (inside {e} {m} a h q) s x = up e a m h (before_back p q s x)

  -- What `before` computes is the order that the expression induces.
  pub before_is : (e : Expr) → Once e → (before e i j ≡ true) ↔ Before e i j
  before_is e u = (before_forth e u, λ x. before_back x.part x.innermost.part x.sequence x.earlier)

-- ---- what a part holds, the whole holds
part_holds : (p : Expr) {e : Expr} → Part p e → (i : ℕ) → Holds p i → Holds e i
part_holds p itself i h = h
part_holds p (inside {e} {m} a h q) i t = holds_up e a m h i (part_holds p q i t)

at_unique : (l : List Expr) (a b : ℕ) (m m' : Expr) → At l a m → At l b m' → a ≡ b → m ≡ m'
at_unique [] a b m m' h g q = absurd h
at_unique (x ∷ l) zero zero m m' h g q = h ∙ sym g
at_unique (x ∷ l) zero (suc b) m m' h g q = absurd (omega arith)
at_unique (x ∷ l) (suc a) zero m m' h g q = absurd (omega arith)
at_unique (x ∷ l) (suc a) (suc b) m m' h g q = at_unique l a b m m' h g (omega arith)

same_member : (e : Expr) → Once e → (i a b : ℕ) (m m' : Expr) → At (members e) a m → At (members e) b m' → Holds m i → Holds m' i → m ≡ m'
same_member (goal g) u i a b m m' h k p q = absurd h
same_member (join k e ms) u i a b m m' h g p q = at_unique (members (join k e ms)) a b m m' h g (same_place (more e ms) u i a b m m' h g p q)

once_member : (e : Expr) → Once e → (a : ℕ) (m : Expr) → At (members e) a m → Once m
once_member (goal g) u a m h i = absurd h
once_member (join k e ms) u a m h i = omega (arith, u i, found (more e ms) a m h i)

module _ (i j : ℕ) where
  -- p holds both, and none of these members does
  abbrev Both : Expr → Type 0
  Both p = Holds p i × Holds p j

  abbrev None : List Expr → Type 0
  None l = (a : ℕ) (m : Expr) → At l a m → Holds m i → Holds m j → ⊥

  -- ---- there is an innermost part that holds both,
  abbrev Some : List Expr → Type 0
  Some l = (a : ℕ) × (m : Expr) × (p : Expr) × At l a m × Innermost m i j p

  look : (e : Expr) (l : List Expr) → (Both e → (p : Expr) × Innermost e i j p) → Some l ⊎ None l → Some (e ∷ l) ⊎ None (e ∷ l)
  look e l f (inl r) = inl (suc r.0, r.1, r.2, r.3, r.4)
  look e l f (inr n) = ⊎_elim (λ t. let b = and_both (stands e i) (stands e j) t in let r = f b in inl (0, e, r.0, refl, r.1)) (λ t. inr (neither t))
      (test (stands e i && stands e j))
    where
      neither : (stands e i && stands e j) ≡ false → None (e ∷ l)
      neither t zero m h p q = false≢true (sym t ∙ ap₂ ◌&&◌ (sym (ap (λ x. stands x i) h) ∙ p) (sym (ap (λ x. stands x j) h) ∙ q))
      neither t (suc a) m h p q = n a m h p q

  settle : (e : Expr) → Both e → Some (members e) ⊎ None (members e) → (p : Expr) × Innermost e i j p
  settle e b (inl (a, m, p, h, x)) = (p, record { part = inside a h x.part; holds_i = x.holds_i; holds_j = x.holds_j; no_member = x.no_member })
  settle e b (inr n) = (e, record { part = itself; holds_i = b.0; holds_j = b.1; no_member = n })

  mutual
    innermost_of : (e : Expr) → Both e → (p : Expr) × Innermost e i j p
    innermost_of (goal g) b = settle (goal g) b (inr (λ a m h. absurd h))
    innermost_of (join k e ms) b = settle (join k e ms) b (look e (listed ms) (λ c. innermost_of e c) (innermost_among ms))

    innermost_among : (ms : Members) → Some (listed ms) ⊎ None (listed ms)
    innermost_among (one e) = look e [] (λ c. innermost_of e c) (inr (λ a m h. absurd h))
    innermost_among (more e ms) = look e (listed ms) (λ c. innermost_of e c) (innermost_among ms)

  pub innermost_is : (e : Expr) → Holds e i → Holds e j → (p : Expr) × Innermost e i j p
  innermost_is e p q = innermost_of e (p, q)

  -- ---- and only one, if no number stands twice
  top : (p q : Expr) → None (members p) → Both q → Part q p → p ≡ q
  top p q n b itself = refl
  top p q n b (inside {e} {m} a h r) = absurd (n a m h (part_holds q r i b.0) (part_holds q r j b.1))

  below : (p q : Expr) (e m : Expr) (a : ℕ) → Once e → At (members e) a m → Part p m → Both p → None (members q) → Both q → (Part q m → p ≡ q) → Part q e → p ≡ q
  below p q e m a u h r b n c f itself = absurd (n a m h (part_holds p r i b.0) (part_holds p r j b.1))
  below p q e m a u h r b n c f (inside {m = m'} a' g s) =
      f (subst (λ x. Part q x) (same_member e u i a' a m' m g h (part_holds q s i c.0) (part_holds p r i b.0)) s)

  only : (p q : Expr) {e : Expr} → Once e → None (members p) → Both p → None (members q) → Both q → Part p e → Part q e → p ≡ q
  only p q u n b n' b' itself s = top p q n b' s
  only p q u n b n' b' (inside {e} {m} a h r) s =
      below p q e m a u h r b n' b' (λ t. only p q (once_member e u a m h) n b n' b' r t) s

  pub innermost_unique : (e p q : Expr) → Once e → Innermost e i j p → Innermost e i j q → p ≡ q
  innermost_unique e p q u x y = only p q u x.no_member (x.holds_i, x.holds_j) y.no_member (y.holds_i, y.holds_j) x.part y.part
