-- Figure 1 and section 3.2 for any vertices: the calls end, no N answers true, and true has the linear expression.
use mathlib.Core.Path.{◌≡◌, refl, ap, ap₂}
use mathlib.Core.Bool.{Bool, true, ◌&&◌}
use mathlib.Core.List.{List, [], ◌∷◌}
use mathlib.Core.Logic.{inl, inr, ◌↔◌, ◌≢◌}
use Prim.Native.Nat.{ℕ, zero, suc, ◌≤◌}
use native.Mathlib.Omega.{arith}
use lib.ListN.{length}
use Rattle.expression.specs.Expr.{Expr, NoN}
use Rattle.expression.specs.Arrange.{Strict}
use Rattle.expression.proofs.NoN.{no_n}
use Rattle.logic.proofs.Bools.{and-true}
use Rattle.published.specs.Sets.{◌is_in◌, every}
use Rattle.published.specs.Figure1.{Q, S, F, lemma1, lemma3, udg_deep, udg_compilable_WLOP}
use Rattle.published.specs.Linear.{group, inwards, after, built, linear_deep, linear}
use Rattle.published.proofs.Lists.{every_in, in_every, every-same, Pair, pair-those}
use Rattle.published.proofs.Graph.{f_vertex, f_strict, f_fewer, s_f}
use Rattle.published.proofs.Lemmas.{lemma1_holds, lemma3_holds}
use Rattle.published.proofs.Groups.{inwards_in}
use Rattle.published.proofs.Linear.{Compiled, built_compiled}

module _ (R : ℕ → ℕ → Bool) where
  -- ---- as many calls as there are vertices are enough: more change nothing
  udg_steady : (k j : ℕ) (W : List ℕ) → Strict R (λ i. i is_in W) → length W ≤ k → length W ≤ j → udg_deep R k W ≡ udg_deep R j W
  udg_steady zero zero W o h g = refl
  udg_steady zero (suc j) [] o h g = refl
  udg_steady zero (suc j) (x ∷ W) o h g = absurd (omega arith)
  udg_steady (suc k) zero [] o h g = refl
  udg_steady (suc k) zero (x ∷ W) o h g = absurd (omega arith)
  udg_steady (suc k) (suc j) W o h g =
      ap (λ z. lemma1 R W && lemma3 R W && z)
      (every-same (λ s. udg_deep R k (F R W s)) (λ s. udg_deep R j (F R W s)) (S R W)
      (λ s m. udg_steady k j (F R W s) (f_strict R W o s) (omega (arith, f_fewer R W o s m)) (omega (arith, f_fewer R W o s m))))

  built-same : (f g : List ℕ → Expr) (W : List ℕ) (l : List (List ℕ)) → ((s : List ℕ) → s is_in l → f (F R W s) ≡ g (F R W s)) → built R f W l ≡ built R g W l
  built-same f g W [] h = refl
  built-same f g W (s ∷ l) h = ap₂ (after s) (h s (inl refl)) (built-same f g W l (λ t m. h t (inr m)))

  linear_steady : (k j : ℕ) (W : List ℕ) → Strict R (λ i. i is_in W) → length W ≤ k → length W ≤ j → linear_deep R k W ≡ linear_deep R j W
  linear_steady zero zero W o h g = refl
  linear_steady zero (suc j) [] o h g = refl
  linear_steady zero (suc j) (x ∷ W) o h g = absurd (omega arith)
  linear_steady (suc k) zero [] o h g = refl
  linear_steady (suc k) zero (x ∷ W) o h g = absurd (omega arith)
  linear_steady (suc k) (suc j) W o h g =
      ap group
      (built-same (λ U. linear_deep R k U) (λ U. linear_deep R j U) W (inwards (S R W))
      (λ s n.
      let m = inwards_in (S R W) s n in
      linear_steady k j (F R W s) (f_strict R W o s) (omega (arith, f_fewer R W o s m)) (omega (arith, f_fewer R W o s m))))

  -- Figure 1 calls itself on each F(S_i),
  pub figure_1_unfolds : (W : List ℕ) → Strict R (λ i. i is_in W)
      → udg_compilable_WLOP R W ≡ (lemma1 R W && lemma3 R W && every (λ s. udg_compilable_WLOP R (F R W s)) (S R W))
  figure_1_unfolds [] o = refl
  figure_1_unfolds (x ∷ W) o =
      ap (λ z. lemma1 R (x ∷ W) && lemma3 R (x ∷ W) && z)
      (every-same (λ s. udg_deep R (length W) (F R (x ∷ W) s)) (λ s. udg_compilable_WLOP R (F R (x ∷ W) s)) (S R (x ∷ W))
      (λ s m.
      udg_steady (length W) (length (F R (x ∷ W) s)) (F R (x ∷ W) s) (f_strict R (x ∷ W) o s) (omega (arith, f_fewer R (x ∷ W) o s m)) (omega arith)))

  -- and section 3.2 too.
  pub linear_unfolds : (W : List ℕ) → Strict R (λ i. i is_in W) → linear R W ≡ group (built R (linear R) W (inwards (S R W)))
  linear_unfolds [] o = refl
  linear_unfolds (x ∷ W) o =
      ap group
      (built-same (λ U. linear_deep R (length W) U) (linear R) (x ∷ W) (inwards (S R (x ∷ W)))
      (λ s n.
      let m = inwards_in (S R (x ∷ W)) s n in
      linear_steady (length W) (length (F R (x ∷ W) s)) (F R (x ∷ W) s) (f_strict R (x ∷ W) o s) (omega (arith, f_fewer R (x ∷ W) o s m)) (omega arith)))

  -- ---- where there is no N the answer is true
  no_n_deep : (k : ℕ) (W : List ℕ) → Strict R (λ i. i is_in W) → NoN R (λ i. i is_in W) → udg_deep R k W ≡ true
  no_n_deep zero W o free = refl
  no_n_deep (suc k) W o free =
      ap₂ ◌&&◌ (ap₂ ◌&&◌ (lemma1_holds R W o free) (lemma3_holds R W o free))
      (in_every (λ s. udg_deep R k (F R W s)) (S R W)
      (λ s m.
      no_n_deep k (F R W s) (f_strict R W o s)
      (λ a b c d ha hb hc hd. free a b c d (f_vertex R W s a ha) (f_vertex R W s b hb) (f_vertex R W s c hc) (f_vertex R W s d hd))))

  -- ---- where the answer is true the linear expression has the order
  deep_compiled : (k : ℕ) (W : List ℕ) → Strict R (λ i. i is_in W) → Pair ◌≢◌ W → length W ≤ k → (x : ℕ) → x is_in W → udg_deep R k W ≡ true
      → Compiled R W (linear_deep R k W)
  deep_compiled zero [] o d h x m t = absurd m
  deep_compiled zero (y ∷ W) o d h x m t = absurd (omega arith)
  deep_compiled (suc k) W o d h x m t =
      let u = and-true (lemma1 R W && lemma3 R W) (every (λ s. udg_deep R k (F R W s)) (S R W)) t in
      let c = and-true (lemma1 R W) (lemma3 R W) u.0 in
      built_compiled R W o c.0 c.1 d (λ U. linear_deep R k U)
      (λ s n.
      let v = s_f R W s n in
      deep_compiled k (F R W s) (f_strict R W o s) (pair-those ◌≢◌ _ (Q R W) (pair-those ◌≢◌ _ W d)) (omega (arith, f_fewer R W o s n)) v.0 v.1
      (every_in (λ s. udg_deep R k (F R W s)) (S R W) u.1 s n))
      x m

  pub linear_compiled : (W : List ℕ) → Strict R (λ i. i is_in W) → Pair ◌≢◌ W → (x : ℕ) → x is_in W → udg_compilable_WLOP R W ≡ true → Compiled R W (linear R W)
  linear_compiled W o d x m t = deep_compiled (length W) W o d (omega arith) x m t

  -- Figure 1 answers true exactly if there is no N among the vertices.
  true_no_n : (W : List ℕ) → Strict R (λ i. i is_in W) → Pair ◌≢◌ W → udg_compilable_WLOP R W ≡ true → NoN R (λ i. i is_in W)
  true_no_n W o d t a b c e ha hb hc he n =
      let f = linear_compiled W o d a ha t in
      no_n R n (linear R W) f.fits ((f.covers a).1 ha) ((f.covers b).1 hb) ((f.covers c).1 hc) ((f.covers e).1 he)

  pub udg_no_n : (W : List ℕ) → Strict R (λ i. i is_in W) → Pair ◌≢◌ W → (udg_compilable_WLOP R W ≡ true) ↔ NoN R (λ i. i is_in W)
  udg_no_n W o d = (true_no_n W o d, no_n_deep (length W) W o)
