-- T5: the search for the first N finds the first if there is one.
use mathlib.Core.Path.{◌≡◌, refl, sym, ap, ap₂, ◌∙◌, subst}
use mathlib.Core.Bool.{Bool, true, cond}
use mathlib.Core.Option.{Option, none, some}
use mathlib.Core.Logic.{◌⊎◌, inl, inr, ⊎_elim}
use Prim.Native.Nat.{ℕ, zero, suc, ◌+◌, ◌≤◌, ◌<◌}
use native.Mathlib.Nat.{eq-or-lt_of_le}
use native.Mathlib.Omega.{arith}
use Rattle.expression.specs.Expr.{N, NoN, Goals}
use Rattle.expression.specs.Search.{Four, NotAfter, FirstN, or_else, first_in, is_n, first_n}
pub use Rattle.expression.specs.Search.{IsN}
use Rattle.logic.proofs.Bools.{by_test, and-true, not-true}

-- ---- the test is the record
module _ (R : ℕ → ℕ → Bool) {a b c d : ℕ} where
  pub is_n_lem : is_n R a b c d ≡ true → N R a b c d
  is_n_lem h =
      let t₁ = and-true _ _ h in
      let t₂ = and-true _ _ t₁.0 in
      let t₃ = and-true _ _ t₂.0 in
      let t₄ = and-true _ _ t₃.0 in
      let t₅ = and-true _ _ t₄.0 in
      let t₆ = and-true _ _ t₅.0 in
      let t₇ = and-true _ _ t₆.0 in
      let t₈ = and-true _ _ t₇.0 in
      let t₉ = and-true _ _ t₈.0 in
      let u₁ = and-true _ _ t₉.0 in
      let u₂ = and-true (R a c) (R b c) u₁.0 in
      record {
        ac = u₂.0;
        bc = u₂.1;
        bd = u₁.1;
        ab = not-true (R a b) t₉.1;
        ba = not-true (R b a) t₈.1;
        ad = not-true (R a d) t₇.1;
        da = not-true (R d a) t₆.1;
        cd = not-true (R c d) t₅.1;
        dc = not-true (R d c) t₄.1;
        ca = not-true (R c a) t₃.1;
        cb = not-true (R c b) t₂.1;
        db = not-true (R d b) t₁.1;
      }

  pub n_is : N R a b c d → is_n R a b c d ≡ true
  n_is n =
      simp (n.ac, n.bc, n.bd, n.ab, n.ba, n.ad, n.da, n.cd, n.dc, n.ca, n.cb, n.db)

-- ---- one loop
module _ {A : Type 0} where
  pub never : {x : A} → ◌≡◌ {A = Option A} none (some x) → ⊥
  never e = let z : ◌≡◌ {A = ℕ} 0 1 = cc in omega arith

  pub or-none : (x y : Option A) → or_else x y ≡ none → (x ≡ none) × (y ≡ none)
  or-none none y h = (refl, h)
  or-none (some x) y h = (h, cc)

  pub or_some : (x y : Option A) {z : A} → or_else x y ≡ some z → (x ≡ some z) ⊎ ((x ≡ none) × (y ≡ some z))
  or_some none y h = inr (refl, h)
  or_some (some x) y h = inl h

  module _ (f : ℕ → Option A) where
    pub first-none : (c a : ℕ) → first_in f a c ≡ none → (i : ℕ) → a ≤ i → i < a + c → f i ≡ none
    first-none zero a h i l u = absurd (omega arith)
    first-none (suc c) a h i l u =
        let t = or-none (f a) (first_in f (suc a) c) h in
        ⊎_elim (λ e. ap f (sym e) ∙ t.0) (λ g. first-none c (suc a) t.1 i g (omega arith)) (eq-or-lt_of_le l)

    pub none_first : (c a : ℕ) → ((i : ℕ) → a ≤ i → i < a + c → f i ≡ none) → first_in f a c ≡ none
    none_first zero a h = refl
    none_first (suc c) a h = rw (h a (omega arith) (omega arith)) (none_first c (suc a) (λ i l u. h i (omega arith) (omega arith)))

    -- what is found, and that nothing is found before it
    pub first_some : (c a : ℕ) {x : A} → first_in f a c ≡ some x
        → (i : ℕ) × (a ≤ i) × (i < a + c) × (f i ≡ some x) × ((j : ℕ) → a ≤ j → j < i → f j ≡ none)
    first_some zero a h = absurd (never h)
    first_some (suc c) a h =
        ⊎_elim (λ t. (a, omega arith, omega arith, t, λ j p q. absurd (omega arith)))
        (λ t.
        let r = first_some c (suc a) t.1 in (
          r.0,
          omega (arith, r.1),
          omega (arith, r.2),
          r.3,
          λ j p q. ⊎_elim (λ e. ap f (sym e) ∙ t.0) (λ g. r.4 j g q) (eq-or-lt_of_le p),
        ))
        (or_some (f a) (first_in f (suc a) c) h)

  -- a search finds the same where it looks at the same
  pub first_cong : (f g : ℕ → Option A) (a c : ℕ) → ((i : ℕ) → a ≤ i → i < a + c → f i ≡ g i) → first_in f a c ≡ first_in g a c
  first_cong f g a zero h = refl
  first_cong f g a (suc c) h =
      ap₂ (λ x y. or_else x y) (h a (omega arith) (omega arith)) (first_cong f g (suc a) c (λ i l u. h i (omega arith) (omega arith)))

-- ---- the four loops
-- two numbers compared, where the second is not below the first
upto : (x y : ℕ) {P : Type 0} → (y < x → ⊥) → (x ≡ y → P) → (x < y) ⊎ ((x ≡ y) × P)
upto x y f g = ⊎_elim (λ e. inr (e, g e)) inl (eq-or-lt_of_le (let n = f in omega arith))

level : {x y : ℕ} {P Q : Type 0} → (x < y) ⊎ ((x ≡ y) × P) → (y < x) ⊎ ((y ≡ x) × Q) → (x ≡ y) × P × Q
level (inl h) (inl g) = absurd (omega arith)
level (inl h) (inr g) = absurd (omega (arith, g.0))
level (inr h) (inl g) = absurd (omega (arith, h.0))
level (inr h) (inr g) = (h.0, h.1, g.1)

both_ways : (q r : Four) → NotAfter q r → NotAfter r q → q ≡ r
both_ways q r h g =
    let (ea, h, g) = level h g in
    let (eb, h, g) = level h g in
    let (ec, h, g) = level h g in
    let ed : q.d ≡ r.d = omega arith in
    λ i. record { a = ea i; b = eb i; c = ec i; d = ed i }

module _ (R : ℕ → ℕ → Bool) (n : ℕ) where
  -- what the loops over b, c and d find, and the innermost body
  abbrev hit : ℕ → ℕ → ℕ → ℕ → Option Four
  hit a b c d = cond (is_n R a b c d) (some (record { a = a; b = b; c = c; d = d })) none

  abbrev over_d : ℕ → ℕ → ℕ → Option Four
  over_d a b c = first_in (λ d. hit a b c d) 1 n

  abbrev over_c : ℕ → ℕ → Option Four
  over_c a b = first_in (λ c. over_d a b c) 1 n

  abbrev over_b : ℕ → Option Four
  over_b a = first_in (λ b. over_c a b) 1 n

  -- a loop that finds nothing: there is no N
  no_hit : (a b c d : ℕ) → hit a b c d ≡ none → N R a b c d → ⊥
  no_hit a b c d h x = never (sym h ∙ ap (λ t. cond t (some (record { a = a; b = b; c = c; d = d })) none) (n_is R x))

  no_d : (a b c : ℕ) → over_d a b c ≡ none → (d : ℕ) → Goals n d → N R a b c d → ⊥
  no_d a b c h d (l, u) = no_hit a b c d (first-none _ n 1 h d l (omega arith))

  no_c : (a b : ℕ) → over_c a b ≡ none → (c d : ℕ) → Goals n c → Goals n d → N R a b c d → ⊥
  no_c a b h c d (l, u) = no_d a b c (first-none _ n 1 h c l (omega arith)) d

  no_b : (a : ℕ) → over_b a ≡ none → (b c d : ℕ) → Goals n b → Goals n c → Goals n d → N R a b c d → ⊥
  no_b a h b c d (l, u) = no_c a b (first-none _ n 1 h b l (omega arith)) c d

  -- The search finds nothing exactly if there is no N,
  pub not_found : first_n R n ≡ none → NoN R (Goals n)
  not_found h a b c d (l, u) = no_b a (first-none _ n 1 h a l (omega arith)) b c d

  -- and what it finds is the first.
  pub found_first : (q : Four) → first_n R n ≡ some q → FirstN R n q
  found_first q h =
      let r₁ = first_some _ n 1 h in
      let r₂ = first_some _ n 1 r₁.3 in
      let r₃ = first_some _ n 1 r₂.3 in
      let r₄ = first_some _ n 1 r₃.3 in
      let a = r₁.0 in
      let b = r₂.0 in
      let c = r₃.0 in
      let d = r₄.0 in
      let w = this a b c d r₄.3 in
      subst (FirstN R n) w.0
      (record {
        is = (w.1, (r₁.1, omega (arith, r₁.2)), (r₂.1, omega (arith, r₂.2)), (r₃.1, omega (arith, r₃.2)), (r₄.1, omega (arith, r₄.2)));
        first =
            λ r (x, ga, gb, gc, gd).
            upto a r.a (λ l. no_b r.a (r₁.4 r.a ga.0 l) r.b r.c r.d gb gc gd x)
            (λ e. let y = subst (λ z. N R z r.b r.c r.d) (sym e) x in
            upto b r.b (λ l. no_c a r.b (r₂.4 r.b gb.0 l) r.c r.d gc gd y)
            (λ e. let z = subst (λ t. N R a t r.c r.d) (sym e) y in
            upto c r.c (λ l. no_d a b r.c (r₃.4 r.c gc.0 l) r.d gd z)
            (λ e. let v = subst (λ t. N R a b t r.d) (sym e) z in
            let f : r.d < d → ⊥ = λ l. no_hit a b c r.d (r₄.4 r.d gd.0 l) v in
            omega arith)));
      })
    where
      this : (a b c d : ℕ) → hit a b c d ≡ some q → (◌≡◌ {A = Four} (record { a = a; b = b; c = c; d = d }) q) × N R a b c d
      this a b c d = by_test (λ z. z ≡ some q → (◌≡◌ {A = Four} (record { a = a; b = b; c = c; d = d }) q) × N R a b c d) (is_n R a b c d)
          (λ t e. (cc, is_n_lem R t)) (λ t e. absurd (never e))

  pub found : (q : Four) → first_n R n ≡ some q → IsN R n q
  found q h = (found_first q h).is

  pub none_found : NoN R (Goals n) → first_n R n ≡ none
  none_found f = go (first_n R n) refl
    where
      go : (o : Option Four) → first_n R n ≡ o → first_n R n ≡ none
      go none e = e
      go (some q) e = let r = found q e in absurd (f q.a q.b q.c q.d r.1 r.2 r.3 r.4 r.0)

  -- There is only one first N, so it is found.
  pub first_found : (q : Four) → FirstN R n q → first_n R n ≡ some q
  first_found q x = go (first_n R n) refl
    where
      go : (o : Option Four) → first_n R n ≡ o → first_n R n ≡ some q
      go none e = let (y, ga, gb, gc, gd) = x.is in absurd (not_found e q.a q.b q.c q.d ga gb gc gd y)
      go (some r) e = let y = found_first r e in e ∙ ap some (both_ways r q (y.first q x.is) (x.first r y.is))
