-- Section 3.2 of document 003: where the conditions of lemmas 1 and 3 hold, the expression that is built set by set has the order.
use mathlib.Core.Path.{◌≡◌, refl, sym, ap, ◌∙◌, subst}
use mathlib.Core.Bool.{Bool, true, false, not, true≢false}
use mathlib.Core.List.{List, [], ◌∷◌, map}
use mathlib.Core.Logic.{◌⊎◌, inl, inr, ⊎_elim, ◌↔◌, ◌≢◌}
use Prim.Native.Nat.{ℕ}
use Rattle.expression.specs.Expr.{Expr, goal, join, one}
use Rattle.expression.specs.Arrange.{Strict}
use Rattle.expression.proofs.Fits.{In, Apart, Fits}
use Rattle.logic.proofs.Bools.{test}
use Rattle.published.specs.Sets.{◌is_in◌, Disjoint, Subset, those, subset}
use Rattle.published.specs.Figure1.{P, Q, E, S, F, lemma1, lemma3}
use Rattle.published.specs.Linear.{group, inwards, meets, after, built}
use Rattle.published.proofs.Lists.{those_in, in_those, Pair, pair-those, pair-two, map_in, in_map, in_subset, subset-false, distinct-pair}
use Rattle.published.proofs.Graph.{p_in, p-or_q, p-not_q, f_in, f_vertex, f_waits, f_free, s_part, s_some, q_s}
use Rattle.published.proofs.Lemmas.{read_1, read_3, lemma_2_of}
use Rattle.published.proofs.Groups.{InOne, Beside, beside_sym, group_in, in_group, group-fits, meets_in, in_meets, unmet, Inwards, inwards_in, in_inwards, inwards-row}

-- e uses each vertex of l once and no other, and has the order R on them
pub record Compiled (R : ℕ → ℕ → Bool) (l : List ℕ) (e : Expr) : Type 0 where
  pub covers : (i : ℕ) → In i e ↔ (i is_in l)
  pub fits : Fits R e

module _ (R : ℕ → ℕ → Bool) (W : List ℕ) (o : Strict R (λ i. i is_in W)) where
  -- ---- vertices in order
  in_order_lem : (i j : ℕ) → i is_in W → j is_in W → R i j ≡ true → Apart R true i j
  in_order_lem i j wi wj h =
      record {
        differ = λ e. true≢false (sym h ∙ ap (R i) (sym e) ∙ o.unlike i wi);
        forth = h;
        back = ⊎_elim (λ t. absurd (true≢false (sym (o.chained i j i wi wj wi h t) ∙ o.unlike i wi))) (λ t. t) (test (R j i));
      }

  -- no vertex is in F of two sets, if one of them is not a subset of the other
  f_differ : (s t : List ℕ) → s is_in S R W → subset s t ≡ false → (i : ℕ) → i is_in F R W s → i is_in F R W t → ⊥
  f_differ s t ms h i a b =
      let r = subset-false s t h in
      let p = s_part R W s ms r.0 r.1 in
      true≢false (sym (f_waits R W s i r.0 a p r.1) ∙ f_free R W t i r.0 b p r.2)

  -- ---- the expressions es after the sets ss
  pub record Built (ss : List (List ℕ)) (es : List Expr) : Type 0 where
    pub fits : (e : Expr) → e is_in es → Fits R e
    pub beside : Pair (Beside R) es
    -- they hold the vertices of P and of F of the sets
    pub into : (i : ℕ) → InOne i es → (i is_in P R W) ⊎ ((s : List ℕ) × (s is_in ss) × (i is_in F R W s))
    pub first : (i : ℕ) → i is_in P R W → InOne i es
    pub later : (i : ℕ) (s : List ℕ) → s is_in ss → i is_in F R W s → InOne i es
    -- one that holds a vertex of F(s) holds all of s
    pub whole : (e : Expr) → e is_in es → (i : ℕ) → In i e → (s : List ℕ) → s is_in ss → i is_in F R W s → (p : ℕ) → p is_in s → In p e
    -- a set that is in none of ss holds all the vertices of P in one of them, or none
    pub alike : (t : List ℕ) → t is_in S R W → ((s : List ℕ) → s is_in ss → subset t s ≡ false) → (e : Expr) → e is_in es → (p q : ℕ) → In p e → In q e → p is_in P R W
        → q is_in P R W → p is_in t → q is_in t

  -- ---- at first the vertices of P stand beside each other
  module _ (d : Pair ◌≢◌ W) where
    start_beside : (l : List ℕ) → ((i : ℕ) → i is_in l → i is_in P R W) → Pair ◌≢◌ l → Pair (Beside R) (map goal l)
    start_beside [] h n = tt
    start_beside (x ∷ l) h n = (
      (λ y m i j p q.
          let r = map_in goal l y m in
          let q' : j ≡ r.0 = subst (λ z. In j z) r.2 q in
          let px = p_in R W x (h x (inl refl)) in
          let pz = p_in R W r.0 (h r.0 (inr r.1)) in
          record {
            differ = λ e. n.0 r.0 r.1 (sym p ∙ e ∙ q');
            forth = ap (λ z. R z j) p ∙ ap (R x) q' ∙ pz.1 x px.0;
            back = ap (λ z. R z i) q' ∙ ap (R r.0) p ∙ px.1 r.0 pz.0;
          }),
      start_beside l (λ i m. h i (inr m)) n.1,
    )

    start : Built [] (map goal (P R W))
    start =
        record {
          fits = λ e m. let r = map_in goal (P R W) e m in subst (Fits R) (sym r.2) (o.unlike r.0 (p_in R W r.0 r.1).0);
          beside = start_beside (P R W) (λ i m. m) (pair-those ◌≢◌ _ W d);
          into = λ i x. let r = map_in goal (P R W) x.0 x.1 in inl (subst (λ z. z is_in P R W) (sym (subst (λ z. In i z) r.2 x.2)) r.1);
          first = λ i m. (goal i, in_map goal (P R W) i m, refl);
          later = λ i s m. absurd m;
          whole = λ e m i p s n. absurd n;
          alike =
              λ t mt h e m p q a b pp pq n.
              let r = map_in goal (P R W) e m in
              let a' : p ≡ r.0 = subst (λ z. In p z) r.2 a in
              let b' : q ≡ r.0 = subst (λ z. In q z) r.2 b in
              subst (λ z. z is_in t) (a' ∙ sym b') n;
        }

  -- ---- one more set
  module _ (c1 : lemma1 R W ≡ true) (c3 : lemma3 R W ≡ true) where
    module _ (s : List ℕ) (ms : s is_in S R W) (l : List (List ℕ)) (ml : (t : List ℕ) → t is_in l → t is_in S R W) (row : (t : List ℕ) → t is_in l → subset s t ≡ false)
        (es : List Expr) (b : Built l es) (v : Expr) (c : Compiled R (F R W s) v) where
      abbrev met : List Expr
      met = those (meets s) es

      abbrev left : List Expr
      left = those (λ e. not (meets s e)) es

      abbrev all : Expr
      all = group met

      -- each vertex of s stands in what is met
      s_met : (p : ℕ) → p is_in s → InOne p met
      s_met p m =
          let r = b.first p (s_part R W s ms p m) in
          (r.0, in_those (meets s) es r.0 r.1 (in_meets s r.0 p m r.2), r.2)

      some : InOne (s_some R W o s ms).0 met
      some = s_met (s_some R W o s ms).0 (s_some R W o s ms).1

      s_all : (p : ℕ) → p is_in s → In p all
      s_all p m = let r = s_met p m in in_group met p r.0 r.1 r.2

      all-met : (i : ℕ) → In i all → InOne i met
      all-met i p = group_in met some.0 some.1 i p

      -- besides s there stand in it vertices of F of sets inside s
      abbrev Inner : ℕ → Type 0
      Inner i = (t : List ℕ) × (t is_in l) × (i is_in F R W t) × Subset t s

      all_in : (i : ℕ) → In i all → (i is_in s) ⊎ Inner i
      all_in i h =
          let r = all-met i h in
          let e = r.0 in
          let m = those_in (meets s) es e r.1 in
          let p = meets_in s e m.1 in
          let pp = s_part R W s ms p.0 p.1 in
          ⊎_elim
          (λ ip. inl (b.alike s ms row e m.0 p.0 i p.2 r.2 pp ip p.1))
          (λ x.
          let t = x.0 in
          let mt = ml t x.1 in
          let q = s_some R W o t mt in
          let pq = s_part R W t mt q.0 q.1 in
          let qs = b.alike s ms row e m.0 p.0 q.0 p.2 (b.whole e m.0 i r.2 t x.1 x.2 q.0 q.1) pp pq p.1 in
          inr (
            t,
            x.1,
            x.2,
            ⊎_elim (λ d. absurd (d q.0 q.1 qs)) (⊎_elim (λ u. u) (λ u. absurd (true≢false (sym (in_subset s t u) ∙ row t x.1)))) (read_1 R W c1 t s mt ms),
          ))
          (b.into i (e, m.0, r.2))

      -- all of it comes before F(s)
      all-before : (i j : ℕ) → In i all → j is_in F R W s → (i is_in W) × (R i j ≡ true)
      all-before i j h m =
          ⊎_elim (λ n. let p = s_part R W s ms i n in ((p_in R W i p).0, f_waits R W s j i m p n))
          (λ x. (f_vertex R W x.0 i x.2, read_3 R W c3 x.0 s (ml x.0 x.1) ms x.3 (row x.0 x.1) i j x.2 m))
          (all_in i h)

      abbrev next : Expr
      next = join true all (one v)

      more_fits : Fits R next
      more_fits = (
        group-fits R met some.0 some.1 (λ e m. b.fits e (those_in (meets s) es e m).0) (pair-those (Beside R) (meets s) es b.beside),
        c.fits,
        λ i j p q.
            let m = (c.covers j).0 q in
            let h = all-before i j p m in
            in_order_lem i j h.0 (f_vertex R W s j m) h.1,
      )

      -- what is left is beside all of it, and beside F(s)
      left-all : (e : Expr) → e is_in left → (i j : ℕ) → In i all → In j e → Apart R false i j
      left-all e m i j p q =
          let r = all-met i p in
          let n = those_in (λ e. not (meets s e)) es e m in
          let k = those_in (meets s) es r.0 r.1 in
          ⊎_elim (λ x. let w = meets_in s r.0 k.1 in absurd (unmet s e n.1 w.0 w.1 (subst (λ z. In w.0 z) x w.2)))
          (λ x. x i j r.2 q) (pair-two (Beside R) (beside_sym R) es b.beside r.0 e k.0 n.0)

      left_later : (e : Expr) → e is_in left → (i j : ℕ) → i is_in F R W s → In j e → Apart R false i j
      left_later e m i j mi q =
          let n = those_in (λ e. not (meets s e)) es e m in
          ⊎_elim
          (λ pj.
          record {
            differ = λ x. p-not_q R W j pj (subst (λ z. z is_in Q R W) x (f_in R W s i mi).0);
            forth = (p_in R W j pj).1 i (f_vertex R W s i mi);
            back = f_free R W s i j mi pj (λ h. unmet s e n.1 j h q);
          })
          (λ x.
          let t = x.0 in
          let d : Disjoint s t = λ p h g. unmet s e n.1 p h (b.whole e n.0 j q t x.1 x.2 p g) in
          record {
            differ = λ w. f_differ s t ms (row t x.1) i mi (subst (λ z. z is_in F R W t) (sym w) x.2);
            forth = lemma_2_of R W o s t ms d i j mi x.2;
            back = lemma_2_of R W o t s (ml t x.1) (λ p h g. d p g h) j i x.2 mi;
          })
          (b.into j (e, n.0, q))

      -- where the goals of es stand now
      kept : (i : ℕ) → InOne i es → InOne i (next ∷ left)
      kept i (e, m, p) =
          ⊎_elim (λ h. (next, inl refl, inl (in_group met i e (in_those (meets s) es e m h) p)))
          (λ h. (e, inr (in_those (λ e. not (meets s e)) es e m (ap not h)), p)) (test (meets s e))

      shift : (i : ℕ) → (i is_in P R W) ⊎ ((t : List ℕ) × (t is_in l) × (i is_in F R W t)) → (i is_in P R W) ⊎ ((t : List ℕ) × (t is_in (s ∷ l)) × (i is_in F R W t))
      shift i = ⊎_elim inl (λ x. inr (x.0, inr x.1, x.2))

      more_into : (i : ℕ) → In i next → (i is_in P R W) ⊎ ((t : List ℕ) × (t is_in (s ∷ l)) × (i is_in F R W t))
      more_into i (inl p) = ⊎_elim (λ n. inl (s_part R W s ms i n)) (λ x. inr (x.0, inr x.1, x.2)) (all_in i p)
      more_into i (inr p) = inr (s, inl refl, (c.covers i).0 p)

      into' : (i : ℕ) → InOne i (next ∷ left) → (i is_in P R W) ⊎ ((t : List ℕ) × (t is_in (s ∷ l)) × (i is_in F R W t))
      into' i (e, inl m, p) = more_into i (subst (λ z. In i z) m p)
      into' i (e, inr m, p) = shift i (b.into i (e, (those_in (λ e. not (meets s e)) es e m).0, p))

      later' : (i : ℕ) (t : List ℕ) → t is_in (s ∷ l) → i is_in F R W t → InOne i (next ∷ left)
      later' i t (inl e) m = (next, inl refl, inr ((c.covers i).1 (subst (λ z. i is_in F R W z) e m)))
      later' i t (inr n) m = kept i (b.later i t n m)

      more_whole : (i : ℕ) → In i next → (t : List ℕ) → t is_in (s ∷ l) → i is_in F R W t → (p : ℕ) → p is_in t → In p next
      more_whole i h t (inl e) m p n = inl (s_all p (subst (λ z. p is_in z) e n))
      more_whole i (inl h) t (inr g) m p n =
          let r = all-met i h in
          let k = those_in (meets s) es r.0 r.1 in
          inl (in_group met p r.0 r.1 (b.whole r.0 k.0 i r.2 t g m p n))
      more_whole i (inr h) t (inr g) m p n = absurd (f_differ s t ms (row t g) i ((c.covers i).0 h) m)

      whole' : (e : Expr) → e is_in (next ∷ left) → (i : ℕ) → In i e → (t : List ℕ) → t is_in (s ∷ l) → i is_in F R W t → (p : ℕ) → p is_in t → In p e
      whole' e (inl m) i h t g f p n = subst (λ z. In p z) (sym m) (more_whole i (subst (λ z. In i z) m h) t g f p n)
      whole' e (inr m) i h t (inl g) f p n =
          let k = those_in (λ e. not (meets s e)) es e m in
          let fs = subst (λ z. i is_in F R W z) g f in
          absurd
          (⊎_elim (λ q. p-not_q R W i q (f_in R W s i fs).0) (λ x. f_differ s x.0 ms (row x.0 x.1) i fs x.2) (b.into i (e, k.0, h)))
      whole' e (inr m) i h t (inr g) f p n = b.whole e (those_in (λ e. not (meets s e)) es e m).0 i h t g f p n

      -- the vertices of P in the new expression are those of s
      more_p : (p : ℕ) → In p next → p is_in P R W → p is_in s
      more_p p (inl h) m = ⊎_elim (λ n. n) (λ x. absurd (p-not_q R W p m (f_in R W x.0 p x.2).0)) (all_in p h)
      more_p p (inr h) m = absurd (p-not_q R W p m (f_in R W s p ((c.covers p).0 h)).0)

      alike' : (t : List ℕ) → t is_in S R W → ((u : List ℕ) → u is_in (s ∷ l) → subset t u ≡ false) → (e : Expr) → e is_in (next ∷ left) → (p q : ℕ) → In p e → In q e
          → p is_in P R W → q is_in P R W → p is_in t → q is_in t
      alike' t mt h e (inl m) p q a a' pp pq n =
          let ps = more_p p (subst (λ z. In p z) m a) pp in
          let qs = more_p q (subst (λ z. In q z) m a') pq in
          ⊎_elim (λ d. absurd (d p ps n))
          (⊎_elim (λ u. u q qs) (λ u. absurd (true≢false (sym (in_subset t s u) ∙ h s (inl refl))))) (read_1 R W c1 s t ms mt)
      alike' t mt h e (inr m) p q a a' pp pq n =
          b.alike t mt (λ u g. h u (inr g)) e (those_in (λ e. not (meets s e)) es e m).0 p q a a' pp pq n

      step : Built (s ∷ l) (after s v es)
      step =
          record {
            fits = λ e. ⊎_elim (λ m. subst (Fits R) (sym m) more_fits) (λ m. b.fits e (those_in (λ e. not (meets s e)) es e m).0);
            beside = (
              (λ e m i j p q. ⊎_elim (λ h. left-all e m i j h q) (λ h. left_later e m i j ((c.covers i).0 h) q) p),
              pair-those (Beside R) (λ e. not (meets s e)) es b.beside,
            );
            into = into';
            first = λ i m. kept i (b.first i m);
            later = later';
            whole = whole';
            alike = alike';
          }

    -- ---- all sets
    module _ (d : Pair ◌≢◌ W) (f : List ℕ → Expr) (sub : (s : List ℕ) → s is_in S R W → Compiled R (F R W s) (f (F R W s))) where
      all_sets : (l : List (List ℕ)) → ((t : List ℕ) → t is_in l → t is_in S R W) → Inwards l → Built l (built R f W l)
      all_sets [] m r = start d
      all_sets (s ∷ l) m r =
          step s (m s (inl refl)) l (λ t n. m t (inr n)) r.0 (built R f W l) (all_sets l (λ t n. m t (inr n)) r.1) (f (F R W s)) (sub s (m s (inl refl)))

      pub built_compiled : (x : ℕ) → x is_in W → Compiled R W (group (built R f W (inwards (S R W))))
      built_compiled x mx =
          let es = built R f W (inwards (S R W)) in
          let b = all_sets (inwards (S R W)) (inwards_in (S R W)) (inwards-row (S R W) (distinct-pair (map (E R W) (Q R W)))) in
          let back : (i : ℕ) → i is_in W → InOne i es
          = λ i m. ⊎_elim (b.first i) (λ q. let r = q_s R W i q in b.later i r.0 (in_inwards (S R W) r.0 r.1) r.2) (p-or_q R W i m) in
          let w = back x mx in
          record {
            covers =
                λ i. (
                  (λ p. ⊎_elim (λ q. (p_in R W i q).0) (λ y. f_vertex R W y.0 i y.2) (b.into i (group_in es w.0 w.1 i p))),
                  (λ m. let r = back i m in in_group es i r.0 r.1 r.2),
                );
            fits = group-fits R es w.0 w.1 b.fits b.beside;
          }
