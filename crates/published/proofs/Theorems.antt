-- The published decision is the annotator's: figure 1, lemmas 1 to 3 and the linear expression of document 003, for the goals 1 to n and any strict order on them.
use mathlib.Core.Path.{◌≡◌, refl, sym, ap, ◌∙◌}
use mathlib.Core.Bool.{Bool, true, false, true≢false}
use mathlib.Core.List.{List, [], ◌∷◌}
use mathlib.Core.Option.{Option, none, some}
use mathlib.Core.Logic.{◌⊎◌, inl, inr, ⊎_elim, ◌↔◌, ◌≢◌}
use Prim.Native.Nat.{ℕ, zero, suc, ◌≤◌}
use native.Mathlib.Omega.{arith}
use Rattle.expression.specs.Expr.{Expr, UsesOnce, Matches, Goals, HouseForm, NoN, Order}
use Rattle.expression.specs.Form.{form, up_from}
use Rattle.expression.specs.Text.{text}
use Rattle.expression.specs.Arrange.{Strict, form_any}
use Rattle.expression.specs.Restore.{restore}
use Rattle.expression.specs.Search.{Four, first_n}
use Rattle.expression.proofs.Fits.{In, Fits}
use Rattle.logic.proofs.Bools.{test}
use Rattle.expression.proofs.Exists.{Member, member_up, up_member}
use Rattle.expression.proofs.Spec.{fits-once, fits-before}
use Rattle.expression.proofs.Theorems.{of_in, order_no_n, form_any_lem, has_expression_any, order_strict, form_unique, form_any_is}
use Rattle.expression.proofs.Search.{not_found, none_found}
use Rattle.expression.proofs.Restore.{restored}
use Rattle.published.specs.Sets.{◌is_in◌, Disjoint, Subset, subset}
use Rattle.published.specs.Figure1.{S, F, figure1}
use Rattle.published.specs.Linear.{udg_expr}
use Rattle.published.proofs.Lists.{Pair, subset_in}
use Rattle.published.proofs.Lemmas.{read_1, read_3, lemma1_holds, lemma3_holds, lemma_2_of}
use Rattle.published.proofs.Linear.{Compiled}
use Rattle.published.proofs.Deep.{linear_compiled, udg_no_n}

-- ---- the vertices 1 to n; `Member` is `∈` at the numbers
member_in : (l : List ℕ) (i : ℕ) → Member i l → i is_in l
member_in [] i m = m
member_in (x ∷ l) i m = ⊎_elim inl (λ h. inr (member_in l i h)) m

in_member : (l : List ℕ) (i : ℕ) → i is_in l → Member i l
in_member [] i m = m
in_member (x ∷ l) i m = ⊎_elim inl (λ h. inr (in_member l i h)) m

module _ (n : ℕ) where
  goals_in : (i : ℕ) → i is_in up_from 1 n → Goals n i
  goals_in i m = let t = member_up n 1 i (in_member (up_from 1 n) i m) in (t.0, omega (arith, t.1))

  in_goals : (i : ℕ) → Goals n i → i is_in up_from 1 n
  in_goals i g = member_in (up_from 1 n) i (up_member n 1 i g.0 (omega (arith, g.1)))

up_distinct : (c a : ℕ) → Pair ◌≢◌ (up_from a c)
up_distinct zero a = tt
up_distinct (suc c) a = ((λ y m e. omega (arith, (member_up c (suc a) y (in_member (up_from (suc a) c) y m)).0, e)), up_distinct c (suc a))

module _ (R : ℕ → ℕ → Bool) (n : ℕ) where
  -- an expression over these vertices uses each goal once and has the order
  of_compiled : (e : Expr) → ((i : ℕ) → In i e ↔ (i is_in up_from 1 n)) → Fits R e → UsesOnce n e × Matches R n e
  of_compiled e c f =
      let g : (i : ℕ) → In i e ↔ Goals n i = λ i. (λ p. goals_in n i ((c i).0 p), λ p. (c i).1 (in_goals n i p)) in
      (of_in n e (fits-once R e f) g, λ i j p q. fits-before R e f i j ((g i).1 p) ((g j).1 q))

  list_no_n : NoN R (Goals n) ↔ NoN R (λ i. i is_in up_from 1 n)
  list_no_n = (
    (λ h a b c d ma mb mc md. h a b c d (goals_in n a ma) (goals_in n b mb) (goals_in n c mc) (goals_in n d md)),
    λ h a b c d ma mb mc md. h a b c d (in_goals n a ma) (in_goals n b mb) (in_goals n c mc) (in_goals n d md),
  )

  module _ (o : Strict R (Goals n)) where
    listed : Strict R (λ i. i is_in up_from 1 n)
    listed =
        record {
          unlike = λ i m. o.unlike i (goals_in n i m);
          chained = λ i j k a b c. o.chained i j k (goals_in n i a) (goals_in n j b) (goals_in n k c);
        }

    -- ---- Figure 1 answers true exactly if there is no N,
    pub figure_1 : (figure1 R n ≡ true) ↔ NoN R (Goals n)
    figure_1 =
        let u = udg_no_n R (up_from 1 n) listed (up_distinct n 1) in
        (λ t. list_no_n.1 (u.0 t), λ h. u.1 (list_no_n.0 h))

    -- so exactly if "the given UDG can be compiled into a linear expression without loss of parallelism",
    pub figure_1_expression : 1 ≤ n → (figure1 R n ≡ true) ↔ ((e : Expr) × UsesOnce n e × Matches R n e)
    figure_1_expression h =
        let x = has_expression_any R n o h in
        (λ t. x.1 (figure_1.0 t), λ e. figure_1.1 (x.0 e))

    -- and exactly if the search for refusal 13 finds nothing.
    pub figure_1_first_n : (figure1 R n ≡ true) ↔ (first_n R n ≡ none)
    figure_1_first_n = (λ t. none_found R n (figure_1.0 t), λ h. figure_1.1 (not_found R n h))

    -- Where it answers false, the search finds four goals.
    pub figure_1_refuses : figure1 R n ≡ false → (q : Four) × (first_n R n ≡ some q)
    figure_1_refuses t = go (first_n R n) refl
      where
        go : (x : Option Four) → first_n R n ≡ x → (q : Four) × (first_n R n ≡ some q)
        go none h = absurd (true≢false (sym (figure_1_first_n.1 h) ∙ t))
        go (some q) h = (q, h)

    -- ---- Lemma 2: "For each non-intersecting pair of sets S_i, S_j in S, there are no edges between a vertex in F(S_i) and a vertex in F(S_j)."
    pub lemma_2 : (Si Sj : List ℕ) → Si is_in S R (up_from 1 n) → Sj is_in S R (up_from 1 n) → Disjoint Si Sj
        → (u v : ℕ) → u is_in F R (up_from 1 n) Si → v is_in F R (up_from 1 n) Sj → (R u v ≡ false) × (R v u ≡ false)
    lemma_2 Si Sj mi mj d u v mu mv = (
      lemma_2_of R (up_from 1 n) listed Si Sj mi d u v mu mv,
      lemma_2_of R (up_from 1 n) listed Sj Si mj (λ p a b. d p b a) v u mv mu,
    )

    module _ (e : Expr) (uses : UsesOnce n e) (order : Matches R n e) where
      free : NoN R (λ i. i is_in up_from 1 n)
      free = list_no_n.0 (order_no_n R n e uses order)

      -- ---- Lemma 1: "The given UDG can be compiled into a linear expression without loss of parallelism, only if, for each S_i, S_j in S," they do not intersect, "or one
      -- must be a subset of the other".
      pub lemma_1 : (Si Sj : List ℕ) → Si is_in S R (up_from 1 n) → Sj is_in S R (up_from 1 n) → Disjoint Si Sj ⊎ (Subset Si Sj ⊎ Subset Sj Si)
      lemma_1 Si Sj mi mj = read_1 R (up_from 1 n) (lemma1_holds R (up_from 1 n) listed free) Si Sj mi mj

      -- ---- Lemma 3: for S_i inside S_j, and u, v with "u ≠ v and u in F(S_i) and v in F(S_j)", (u, v) is an edge; "else, the given UDG cannot be compiled".
      pub lemma_3 : (Si Sj : List ℕ) → Si is_in S R (up_from 1 n) → Sj is_in S R (up_from 1 n) → Subset Si Sj → (Subset Sj Si → ⊥)
          → (u v : ℕ) → u ≢ v → u is_in F R (up_from 1 n) Si → v is_in F R (up_from 1 n) Sj → R u v ≡ true
      lemma_3 Si Sj mi mj a b u v ne mu mv =
          read_3 R (up_from 1 n) (lemma3_holds R (up_from 1 n) listed free) Si Sj mi mj a
          (⊎_elim (λ t. absurd (b (subset_in Sj Si t))) (λ t. t) (test (subset Sj Si))) u v mu mv

    -- ---- Where figure 1 answers true,
    module _ (h : 1 ≤ n) (t : figure1 R n ≡ true) where
      compiled : Compiled R (up_from 1 n) (udg_expr R n)
      compiled = linear_compiled R (up_from 1 n) listed (up_distinct n 1) 1 (in_goals n 1 (omega arith, h)) t

      -- the expression that section 3.2 builds uses each goal once and has the order,
      pub udg_expression : UsesOnce n (udg_expr R n) × Matches R n (udg_expr R n)
      udg_expression = of_compiled (udg_expr R n) compiled.covers compiled.fits

      -- so that, restored to house form, it is the house form of the order,
      pub udg_house : HouseForm R n (restore (udg_expr R n))
      udg_house =
          let r = restored R (udg_expr R n) compiled.fits in
          let c = of_compiled (restore (udg_expr R n))
          (λ i. (λ p. (compiled.covers i).0 ((r.covers i).0 p), λ p. (r.covers i).1 ((compiled.covers i).1 p))) r.fits in
          record { uses = c.0; order = c.1; house = r.house }

      -- `form_any`.
      pub udg_form : restore (udg_expr R n) ≡ form_any R n
      udg_form = form_unique R n (restore (udg_expr R n)) (form_any R n) udg_house (form_any_lem R n o (figure_1.0 t) h)

  -- The order of a clause goes up, and its form is `form`: so it is the annotator's text.
  pub udg_text : Order R (Goals n) → 1 ≤ n → figure1 R n ≡ true → text (restore (udg_expr R n)) ≡ text (form R n)
  udg_text o h t =
      let s = order_strict R (Goals n) o in
      ap text (udg_form s h t ∙ form_any_is R n o ((figure_1 s).0 t) h)
