-- Lemmas 1, 2 and 3 of document 003 for any vertices: lemma 2 holds of every strict order, the conditions of lemmas 1 and 3 hold where there is no N.
use mathlib.Core.Path.{◌≡◌, sym, ap, ap₂, ◌∙◌}
use mathlib.Core.Bool.{Bool, true, false, not, ◌||◌, ◌&&◌, true≢false, or-true}
use mathlib.Core.List.{List}
use mathlib.Core.Logic.{◌⊎◌, inl, inr, ⊎_elim}
use Prim.Native.Nat.{ℕ}
use lib.Dec.{eqb}
use borrow.Author.Tests.{eqb-true}
use Rattle.expression.specs.Expr.{NoN}
use Rattle.expression.specs.Arrange.{Strict}
use Rattle.logic.proofs.Bools.{test, and-true, not-true, or-true as or_cases}
use Rattle.published.specs.Sets.{◌is_in◌, Disjoint, Subset, every, subset, inside, disjoint}
use Rattle.published.specs.Figure1.{P, S, F, lemma1, lemma3}
use Rattle.published.proofs.Lists.{every_in, in_every, in_subset, subset_in, subset-false, disjoint_in, disjoint-false}
use Rattle.published.proofs.Graph.{p_in, f_vertex, f_waits, f_free, s_part, s_f, s_some}

module _ (R : ℕ → ℕ → Bool) (W : List ℕ) where
  -- ---- what the two conditions say
  pub read_1 : lemma1 R W ≡ true → (a b : List ℕ) → a is_in S R W → b is_in S R W → Disjoint a b ⊎ (Subset a b ⊎ Subset b a)
  read_1 h a b ma mb =
      ⊎_elim
      (λ t. ⊎_elim (λ u. inl (disjoint_in a b u)) (λ u. inr (inl (subset_in a b u))) (or_cases (disjoint a b) (subset a b) t))
      (λ t. inr (inr (subset_in b a t)))
      (or_cases (disjoint a b || subset a b) (subset b a)
      (every_in (λ b. disjoint a b || subset a b || subset b a) (S R W)
      (every_in (λ a. every (λ b. disjoint a b || subset a b || subset b a) (S R W)) (S R W) h a ma) b mb))

  pub read_3 : lemma3 R W ≡ true → (a b : List ℕ) → a is_in S R W → b is_in S R W → Subset a b → subset b a ≡ false
      → (u v : ℕ) → u is_in F R W a → v is_in F R W b → R u v ≡ true
  read_3 h a b ma mb i j u v mu mv =
      let t = every_in (λ b. not (inside a b) || every (λ u. every (λ v. eqb u v || R u v) (F R W b)) (F R W a)) (S R W)
      (every_in (λ a. every (λ b. not (inside a b) || every (λ u. every (λ v. eqb u v || R u v) (F R W b)) (F R W a)) (S R W)) (S R W) h a ma) b mb in
      let n : inside a b ≡ true = ap₂ ◌&&◌ (in_subset a b i) (ap not j) in
      ⊎_elim (λ e. absurd (true≢false (sym n ∙ not-true (inside a b) e)))
      (λ e.
      ⊎_elim (λ w. absurd (differ (eqb-true u v w))) (λ w. w)
      (or_cases (eqb u v) (R u v)
      (every_in (λ v. eqb u v || R u v) (F R W b) (every_in (λ u. every (λ v. eqb u v || R u v) (F R W b)) (F R W a) e u mu) v mv)))
      (or_cases (not (inside a b)) (every (λ u. every (λ v. eqb u v || R u v) (F R W b)) (F R W a)) t)
    where
      -- v waits for a vertex of b that u does not wait for
      differ : u ≡ v → ⊥
      differ e =
          let r = subset-false b a j in
          let p = s_part R W b mb r.0 r.1 in
          true≢false (sym (f_waits R W b v r.0 mv p r.1) ∙ ap (R r.0) (sym e) ∙ f_free R W a u r.0 mu p r.2)

  module _ (o : Strict R (λ i. i is_in W)) where
    -- ---- Lemma 2: "For each non-intersecting pair of sets S_i, S_j in S, there are no edges between a vertex in F(S_i) and a vertex in F(S_j)."
    pub lemma_2_of : (a b : List ℕ) → a is_in S R W → Disjoint a b → (u v : ℕ) → u is_in F R W a → v is_in F R W b → R u v ≡ false
    lemma_2_of a b ma d u v mu mv =
        let r = s_some R W o a ma in
        let p = s_part R W a ma r.0 r.1 in
        ⊎_elim
        (λ h.
        absurd
        (true≢false
        (sym
        (o.chained r.0 u v (p_in R W r.0 p).0 (f_vertex R W a u mu) (f_vertex R W b v mv) (f_waits R W a u r.0 mu p r.1) h)
        ∙ f_free R W b v r.0 mv p (d r.0 r.1))))
        (λ h. h)
        (test (R u v))

    module _ (free : NoN R (λ i. i is_in W)) where
      -- two vertices of P and two others that would be an N
      no_four : (a b c d : ℕ) → a is_in P R W → b is_in P R W → c is_in W → d is_in W → R a c ≡ true → R b c ≡ true → R b d ≡ true → R a d ≡ false → R d c ≡ false → ⊥
      no_four a b c d ma mb mc md ac bc bd ad dc =
          let pa = p_in R W a ma in
          let pb = p_in R W b mb in
          free a b c d pa.0 pb.0 mc md
          (record {
            ac = ac;
            bc = bc;
            bd = bd;
            ab = pb.1 a pa.0;
            ba = pa.1 b pb.0;
            ad = ad;
            da = pa.1 d md;
            cd = ⊎_elim (λ h. absurd (true≢false (sym (o.chained a c d pa.0 mc md ac h) ∙ ad))) (λ h. h) (test (R c d));
            dc = dc;
            ca = pa.1 c mc;
            cb = pb.1 c mc;
            db = pb.1 d md;
          })

      -- ---- Lemma 1: two sets of S that intersect, and neither is a subset of the other, give an N
      crossing : (a b : List ℕ) → a is_in S R W → b is_in S R W → disjoint a b ≡ false → subset a b ≡ false → subset b a ≡ false → ⊥
      crossing a b ma mb h i j =
          let both = disjoint-false a b h in
          let left = subset-false a b i in
          let right = subset-false b a j in
          let u = s_f R W a ma in
          let v = s_f R W b mb in
          let x = left.0 in
          let y = right.0 in
          let px = s_part R W a ma x left.1 in
          let py = s_part R W b mb y right.1 in
          let p = s_part R W a ma both.0 both.1 in
          let uw = f_vertex R W a u.0 u.1 in
          let vw = f_vertex R W b v.0 v.1 in
          no_four x both.0 u.0 v.0 px p uw vw (f_waits R W a u.0 x u.1 px left.1) (f_waits R W a u.0 both.0 u.1 p both.1)
          (f_waits R W b v.0 both.0 v.1 p both.2) (f_free R W b v.0 x v.1 px left.2)
          (⊎_elim
          (λ w.
          absurd
          (true≢false
          (sym (o.chained y v.0 u.0 (p_in R W y py).0 vw uw (f_waits R W b v.0 y v.1 py right.1) w)
          ∙ f_free R W a u.0 y u.1 py right.2)))
          (λ w. w)
          (test (R v.0 u.0)))

      pub lemma1_holds : lemma1 R W ≡ true
      lemma1_holds =
          in_every (λ a. every (λ b. disjoint a b || subset a b || subset b a) (S R W)) (S R W)
          (λ a ma. in_every (λ b. disjoint a b || subset a b || subset b a) (S R W) (λ b mb. go a b ma mb))
        where
          go : (a b : List ℕ) → a is_in S R W → b is_in S R W → (disjoint a b || subset a b || subset b a) ≡ true
          go a b ma mb =
              ⊎_elim (λ h. ap (λ z. z || subset a b || subset b a) h)
              (λ h.
              ⊎_elim (λ i. ap₂ (λ y z. y || z || subset b a) h i)
              (λ i. ⊎_elim (λ j. ap₂ (λ y z. y || z || subset b a) h i ∙ j) (λ j. absurd (crossing a b ma mb h i j)) (test (subset b a)))
              (test (subset a b)))
              (test (disjoint a b))

      -- ---- Lemma 3: u of F(S_i) that is not before v of F(S_j), for S_i inside S_j, gives an N
      inside-before : (a b : List ℕ) → a is_in S R W → b is_in S R W → Subset a b → subset b a ≡ false → (u v : ℕ) → u is_in F R W a → v is_in F R W b → R u v ≡ true
      inside-before a b ma mb i j u v mu mv =
          let r = s_some R W o a ma in
          let p = s_part R W a ma r.0 r.1 in
          let out = subset-false b a j in
          let q = s_part R W b mb out.0 out.1 in
          ⊎_elim (λ h. h)
          (λ h.
          absurd
          (no_four out.0 r.0 v u q p (f_vertex R W b v mv) (f_vertex R W a u mu) (f_waits R W b v out.0 mv q out.1)
          (f_waits R W b v r.0 mv p (i r.0 r.1)) (f_waits R W a u r.0 mu p r.1) (f_free R W a u out.0 mu q out.2) h))
          (test (R u v))

      pub lemma3_holds : lemma3 R W ≡ true
      lemma3_holds =
          in_every (λ a. every (λ b. not (inside a b) || every (λ u. every (λ v. eqb u v || R u v) (F R W b)) (F R W a)) (S R W)) (S R W)
          (λ a ma.
          in_every (λ b. not (inside a b) || every (λ u. every (λ v. eqb u v || R u v) (F R W b)) (F R W a)) (S R W)
          (λ b mb. go a b ma mb))
        where
          go : (a b : List ℕ) → a is_in S R W → b is_in S R W → (not (inside a b) || every (λ u. every (λ v. eqb u v || R u v) (F R W b)) (F R W a)) ≡ true
          go a b ma mb =
              ⊎_elim
              (λ h.
              let t = and-true (subset a b) (not (subset b a)) h in
              let g : every (λ u. every (λ v. eqb u v || R u v) (F R W b)) (F R W a) ≡ true
              = in_every (λ u. every (λ v. eqb u v || R u v) (F R W b)) (F R W a)
              (λ u mu.
              in_every (λ v. eqb u v || R u v) (F R W b)
              (λ v mv.
              ap (λ z. eqb u v || z) (inside-before a b ma mb (subset_in a b t.0) (not-true (subset b a) t.1) u v mu mv) ∙ or-true (eqb u v))) in
              ap₂ (λ y z. not y || z) h g)
              (λ h. ap (λ y. not y || every (λ u. every (λ v. eqb u v || R u v) (F R W b)) (F R W a)) h)
              (test (inside a b))
