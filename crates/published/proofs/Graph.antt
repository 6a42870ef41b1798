-- The sets P, Q, E(q), S and F of figure 1 for a strict order on the vertices: what stands in them.
use mathlib.Core.Path.{◌≡◌, refl, sym, ap, ◌∙◌, subst}
use mathlib.Core.Bool.{Bool, true, false, not, true≢false, beq}
use mathlib.Core.List.{List, [], ◌∷◌, map}
use mathlib.Core.Logic.{◌⊎◌, inl, inr, ⊎_elim}
use Prim.Native.Nat.{ℕ, ◌<◌}
use native.Mathlib.Omega.{arith}
use lib.ListN.{length}
use Rattle.expression.specs.Arrange.{Strict}
use Rattle.logic.proofs.Bools.{test, and-true, not-true, beq_true, beq_same}
use Rattle.published.specs.Sets.{◌is_in◌, every, any, among, subset}
use Rattle.published.specs.Figure1.{P, Q, E, S, F}
use Rattle.published.proofs.Lists.{every_in, in_every, any-true, any_false, none_any, those_in, in_those, those_le, those_fewer, map_in, in_map, in_among, out_among, subset_in, distinct_in, in_distinct}

module _ (R : ℕ → ℕ → Bool) (W : List ℕ) where
  -- ---- P: no vertex is before them
  pub p_in : (p : ℕ) → p is_in P R W → (p is_in W) × ((u : ℕ) → u is_in W → R u p ≡ false)
  p_in p m =
      let t = those_in (λ v. not (any (λ u. R u v) W)) W p m in
      (t.0, any_false (λ u. R u p) W (not-true (any (λ u. R u p) W) t.1))

  pub in_p : (p : ℕ) → p is_in W → ((u : ℕ) → u is_in W → R u p ≡ false) → p is_in P R W
  in_p p m f = in_those (λ v. not (any (λ u. R u v) W)) W p m (ap not (none_any (λ u. R u p) W f))

  -- ---- Q: some vertex is
  pub q_in : (q : ℕ) → q is_in Q R W → (q is_in W) × ((u : ℕ) × (u is_in W) × (R u q ≡ true))
  q_in q m = let t = those_in (λ v. any (λ u. R u v) W) W q m in (t.0, any-true (λ u. R u q) W t.1)

  -- a vertex is in the one or in the other
  pub p-or_q : (v : ℕ) → v is_in W → (v is_in P R W) ⊎ (v is_in Q R W)
  p-or_q v m =
      ⊎_elim (λ t. inr (in_those (λ v. any (λ u. R u v) W) W v m t)) (λ t. inl (in_those (λ v. not (any (λ u. R u v) W)) W v m (ap not t)))
      (test (any (λ u. R u v) W))

  pub p-not_q : (v : ℕ) → v is_in P R W → v is_in Q R W → ⊥
  p-not_q v m n = let t = (q_in v n).1 in true≢false (sym t.2 ∙ (p_in v m).1 t.0 t.1)

  -- ---- E(q)
  pub e_in : (q p : ℕ) → p is_in E R W q → (p is_in P R W) × (R p q ≡ true)
  e_in q p m = those_in (λ p. R p q) (P R W) p m

  pub in_e : (q p : ℕ) → p is_in P R W → R p q ≡ true → p is_in E R W q
  in_e q p m h = in_those (λ p. R p q) (P R W) p m h

  pub among_e : (q p : ℕ) → p is_in P R W → among p (E R W q) ≡ R p q
  among_e q p m =
      ⊎_elim (λ t. in_among (E R W q) p (in_e q p m t) ∙ sym t)
      (λ t. out_among (E R W q) p (λ h. true≢false (sym (e_in q p h).1 ∙ t)) ∙ sym t)
      (test (R p q))

  -- ---- F(s)
  pub f_in : (s : List ℕ) (v : ℕ) → v is_in F R W s → (v is_in Q R W) × ((p : ℕ) → p is_in P R W → among p s ≡ R p v)
  f_in s v m =
      let t = those_in (λ q. every (λ p. beq (among p s) (R p q)) (P R W)) (Q R W) v m in
      (t.0, λ p h. beq_true (among p s) (R p v) (every_in (λ p. beq (among p s) (R p v)) (P R W) t.1 p h))

  pub in_f : (s : List ℕ) (v : ℕ) → v is_in Q R W → ((p : ℕ) → p is_in P R W → among p s ≡ R p v) → v is_in F R W s
  in_f s v m f =
      in_those (λ q. every (λ p. beq (among p s) (R p q)) (P R W)) (Q R W) v m
      (in_every (λ p. beq (among p s) (R p v)) (P R W) (λ p h. beq_same (among p s) (R p v) (f p h)))

  pub f_vertex : (s : List ℕ) (v : ℕ) → v is_in F R W s → v is_in W
  f_vertex s v m = (q_in v (f_in s v m).0).0

  -- it waits for each of s
  pub f_waits : (s : List ℕ) (v p : ℕ) → v is_in F R W s → p is_in P R W → p is_in s → R p v ≡ true
  f_waits s v p m h n = sym ((f_in s v m).1 p h) ∙ in_among s p n

  -- and for no other vertex of P
  pub f_free : (s : List ℕ) (v p : ℕ) → v is_in F R W s → p is_in P R W → (p is_in s → ⊥) → R p v ≡ false
  f_free s v p m h n = sym ((f_in s v m).1 p h) ∙ out_among s p n

  -- ---- S
  pub s_in : (s : List ℕ) → s is_in S R W → (q : ℕ) × (q is_in Q R W) × (s ≡ E R W q)
  s_in s m = map_in (E R W) (Q R W) s (distinct_in (map (E R W) (Q R W)) s m)

  pub s_part : (s : List ℕ) → s is_in S R W → (p : ℕ) → p is_in s → p is_in P R W
  s_part s m p h = let t = s_in s m in (e_in t.0 p (subst (λ z. p is_in z) t.2 h)).0

  -- a vertex of Q is in F of one of them
  pub q_s : (q : ℕ) → q is_in Q R W → (s : List ℕ) × (s is_in S R W) × (q is_in F R W s)
  q_s q m =
      let t = in_distinct (map (E R W) (Q R W)) (E R W q) (in_map (E R W) (Q R W) q m) in
      let u = and-true (subset (E R W q) t.0) (subset t.0 (E R W q)) t.2 in (
        t.0,
        t.1,
        in_f t.0 q m
            (λ p h.
            ⊎_elim (λ w. in_among t.0 p (subset_in (E R W q) t.0 u.0 p (in_e q p h w)) ∙ sym w)
            (λ w. out_among t.0 p (λ n. true≢false (sym (e_in q p (subset_in t.0 (E R W q) u.1 p n)).1 ∙ w)) ∙ sym w)
            (test (R p q))),
      )

  -- in each F(S_i) there is a vertex
  pub s_f : (s : List ℕ) → s is_in S R W → (v : ℕ) × (v is_in F R W s)
  s_f s m =
      let t = s_in s m in
      (t.0, in_f s t.0 t.1 (λ p h. ap (λ z. among p z) t.2 ∙ among_e t.0 p h))

  module _ (o : Strict R (λ i. i is_in W)) where
    -- m is below the vertex x, or is x, and none of l is before it
    abbrev Lowest : List ℕ → ℕ → Type 0
    Lowest l x = (m : ℕ) × (m is_in W) × ((m ≡ x) ⊎ (R m x ≡ true)) × ((u : ℕ) → u is_in l → R u m ≡ false)

    lower : (y : ℕ) (l : List ℕ) (x : ℕ) → y is_in W → x is_in W → ((i : ℕ) → i is_in l → i is_in W) → Lowest l x → Lowest (y ∷ l) x
    lower y l x yw xw part (m, mw, at, low) =
        ⊎_elim
        (λ t. (
          y,
          yw,
          inr (⊎_elim (λ e. subst (λ z. R y z ≡ true) e t) (λ e. o.chained y m x yw mw xw t e) at),
          λ u h.
              ⊎_elim (λ e. ap (λ z. R z y) e ∙ o.unlike y yw)
              (λ n. ⊎_elim (λ w. absurd (true≢false (sym (o.chained u y m (part u n) yw mw w t) ∙ low u n))) (λ w. w) (test (R u y)))
              h,
        ))
        (λ t. (m, mw, at, λ u h. ⊎_elim (λ e. ap (λ z. R z m) e ∙ t) (λ n. low u n) h))
        (test (R y m))

    lowest : (l : List ℕ) → ((i : ℕ) → i is_in l → i is_in W) → (x : ℕ) → x is_in W → Lowest l x
    lowest [] part x h = (x, h, inl refl, λ u m. absurd m)
    lowest (y ∷ l) part x h = lower y l x (part y (inl refl)) h (λ i m. part i (inr m)) (lowest l (λ i m. part i (inr m)) x h)

    -- E(q) is not empty,
    pub e_some : (q : ℕ) → q is_in Q R W → (p : ℕ) × (p is_in E R W q)
    e_some q m =
        let t = q_in q m in
        let b = lowest W (λ i n. n) q t.0 in (
          b.0,
          in_e q b.0 (in_p b.0 b.1 b.3)
              (⊎_elim (λ e. absurd (true≢false (sym t.1.2 ∙ ap (R t.1.0) (sym e) ∙ b.3 t.1.0 t.1.1))) (λ h. h) b.2),
        )

    -- so none of S is,
    pub s_some : (s : List ℕ) → s is_in S R W → (p : ℕ) × (p is_in s)
    s_some s m = let t = s_in s m in let r = e_some t.0 t.1 in (r.0, subst (λ z. r.0 is_in z) (sym t.2) r.1)

    -- and each F(S_i) has fewer vertices
    pub f_fewer : (s : List ℕ) → s is_in S R W → length (F R W s) < length W
    f_fewer s m =
        let r = s_some s m in
        let p = p_in r.0 (s_part s m r.0 r.1) in
        omega (
          arith,
          those_le (λ q. every (λ p. beq (among p s) (R p q)) (P R W)) (Q R W),
          those_fewer (λ v. any (λ u. R u v) W) W r.0 p.0 (none_any (λ u. R u r.0) W p.1),
        )

    -- a strict order on the vertices of F(S_i)
    pub f_strict : (s : List ℕ) → Strict R (λ i. i is_in F R W s)
    f_strict s =
        record {
          unlike = λ i m. o.unlike i (f_vertex s i m);
          chained = λ i j k a b c. o.chained i j k (f_vertex s i a) (f_vertex s j b) (f_vertex s k c);
        }
