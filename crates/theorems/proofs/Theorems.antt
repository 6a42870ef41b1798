-- The theorems on the whole product: for every well-formed record, on the definitions that the operations' promises cite. Every name in a statement is one of specs/.
--     T8            form_says_same, others-differ: the form's text is checked "same", the text of every other house form "differs"; same_text
--     T9            order_graph_lem, order_chains: the order operation gives the order of the chains of waits
--     passes        order_passes_lem, first-pass, after-passes, one-pass-order, few-passes, no_passes: the number of passes that the order operation gives (02, 5)
--     T12           check_says, its five equivalences check_15 to check_differs, answer_says: the check of an expression, in `Check.antt`
--     document 003  published_decides, published_text: figure 1 decides as the operation does, and section 3.2 gives its text
--     goal text     calls_agree: the part is the one that the other call names
-- T6 is `demand` of the crate `form`, T10 stands in `mel`: both speak of the operation already.
use Rattle.std.specs.Prelude.{Result, Ok, Err}
use mathlib.Core.Path.{◌≡◌, refl, sym, ap, ◌∙◌, subst}
use mathlib.Core.Bool.{Bool, true}
use mathlib.Core.List.{List, []}
use mathlib.Core.Logic.{◌↔◌}
use mathlib.Core.Option.{Option, none, some}
use Prim.Native.Nat.{ℕ, ◌≤◌}
use native.Mathlib.Omega.{arith}
use denote.Ref.{Bor}
use Rattle.sets.specs.Sets.{goal_limit}
use Rattle.graph.specs.Graph.{ahead, graph_of}
use Rattle.graph.specs.Passes.{after, FirstThatAddsNone, pass_limit}
use Rattle.graph.specs.declared.Graph.{Graph}
use Rattle.graph.proofs.Rows.{rows_say}
use Rattle.record_rules.specs.declared.Refusal.{Refusal}
use Rattle.record_fields.specs.Fields.{goal_count}
use Rattle.record_rules.specs.Reading.{reading}
use Rattle.record.specs.WellFormed.{WellFormed}
use Rattle.record.proofs.WellFormed.{well_formed_fine}
use Rattle.expression.specs.Expr as E
use Rattle.expression.specs.Expr.{Expr, Goals, UsesOnce, House, HouseForm, Order}
use Rattle.expression.specs.Form.{form}
use Rattle.expression.specs.Restore.{restore}
use Rattle.expression.specs.Search.{Four, first_n}
use Rattle.expression.specs.Text.{text}
use Rattle.expression.proofs.Theorems.{has-order_is, form_unique, order_strict}
use Rattle.order.specs.Order as O
use Rattle.order.specs.Order.{before}
use Rattle.order.proofs.Theorems.{before_is, before-order, passes_are, passes-order, passes-one-order, passes_limit}
use Rattle.record_rules.specs.Outcome.{Outcome, refused, accepted, values, outcome}
use Rattle.record_rules.proofs.Outcomes.{told_apart, one_value}
use Rattle.form.specs.Form.{or_thirteen, form_text, form_answer}
use Rattle.form.specs.Demand.{HasForm}
use Rattle.form.proofs.Outcomes.{thirteen-none}
use Rattle.form.proofs.Theorems.{settles, the_form, found-thirteen, thirteen-found, demand}
use Rattle.expression_grammar.specs.Check.{same, differs, first_differ, verdict, judged, checked}
use Rattle.expression_grammar.proofs.Differences.{same-order}
use Rattle.expression_grammar.proofs.Written.{written_read}
use Rattle.expression_grammar.proofs.Theorems.{form-same}
use Rattle.published.specs.Figure1.{figure1}
use Rattle.published.specs.Linear.{udg_expr}
use Rattle.published.proofs.Theorems.{figure_1_first_n, udg_text}
use Rattle.record_text.specs.declared.Span.{Span}
use Rattle.record_text.specs.Texts.{goal_text, no_span, text_part}
use Rattle.annotator.specs.Answers.{order_graph, order_passes, check}
use Rattle.annotator.proofs.Answers.{order_fine, passes_fine, passes_refused}
use Rattle.record_text.specs.Part.{PartAt}
use Rattle.annotator.proofs.Checks.{check_fine}
pub use Rattle.theorems.proofs.Check.{check_says, check_15, check_16, check_17, check-same, check_differs, answer_says}

-- a text is accepted only where there is no N
accepted_text : (o : Option Four) (u t : List ℕ) → or_thirteen o u ≡ accepted t → (o ≡ none) × (u ≡ t)
accepted_text none u t e = (refl, one_value e)
accepted_text (some q) u t e = absurd (told_apart e)

module _ (b : List ℕ) (w : WellFormed b) where
  abbrev R : ℕ → ℕ → Bool
  R = before b

  abbrev n : ℕ
  n = goal_count b

  fine : reading b ≡ Ok tt
  fine = well_formed_fine b w

  house_form : (f : Expr) → HasForm b f → HouseForm R n f
  house_form f h =
      record {
        uses = h.expresses.uses;
        order =
            (has-order_is R n f h.expresses.uses).1
            (λ i j p q. let x = h.expresses.order i j p q in (λ y. (before_is b i j).1 (x.0 y), λ y. x.1 ((before_is b i j).0 y)));
        house = h.house;
      }

  checks_as : (t : List ℕ) → checked n R t ≡ check b t
  checks_as t = check_fine b t fine

  -- ---- T8, round trip: the check of the text that the form operation writes says "same",
  pub form_says_same : (t : List ℕ) → form_text b ≡ accepted t → check b t ≡ accepted same
  form_says_same t p =
      let s = accepted_text (first_n R n) (text (form R n)) t (sym (settles b w) ∙ p) in
      sym (checks_as t) ∙ ap (λ (u : List ℕ). checked n R u) (sym s.1) ∙ form-same R n (form R n) (the_form b w s.0) w.goals_to

  -- and of the text of every other house form that uses each goal once "differs", with the first pair that just one of the two orders has.
  pub others-differ : (f : Expr) → HasForm b f → (e : Expr) → House e → UsesOnce n e → (e ≡ f → ⊥)
      → (i : ℕ) × (j : ℕ) × (first_differ n R (E.before e) ≡ some (i, j)) × (check b (text e) ≡ accepted (differs i j))
  unfolding checked
  others-differ f h e g u d = go (first_differ n R (E.before e)) refl
    where
      says : check b (text e) ≡ accepted (verdict (first_differ n R (E.before e)))
      says = sym (checks_as (text e)) ∙ ap (λ r. judged n R r) (written_read n e u w.goals_to)

      go : (o : Option (ℕ × ℕ)) → first_differ n R (E.before e) ≡ o
          → (i : ℕ) × (j : ℕ) × (first_differ n R (E.before e) ≡ some (i, j)) × (check b (text e) ≡ accepted (differs i j))
      go none q =
          absurd
          (d
          (form_unique R n e f (record { uses = u; order = (same-order n R (E.before e)).0 q; house = g })
          (house_form f h)))
      go (some p) q = (p.0, p.1, q, says ∙ ap (λ o. accepted (verdict o)) q)

  -- the form that others differ from is the one that is written
  pub same_text : (f : Expr) → HasForm b f → form_text b ≡ accepted (text f)
  same_text f h = go (first_n R n) refl
    where
      go : (o : Option Four) → first_n R n ≡ o → form_text b ≡ accepted (text f)
      go none e =
          settles b w ∙ thirteen-none (text (form R n)) e
          ∙ ap (λ (x : Expr). accepted (text x)) (form_unique R n (form R n) f (the_form b w e) (house_form f h))
      go (some q) e = absurd (((demand b w).exactly []).0 (found-thirteen b w [] q e) f h.expresses)

  -- ---- T9: the order operation gives the graph of the record's order, which has i before j exactly if a chain of waits leads from i to j,
  pub order_graph_lem : order_graph b ≡ graph_of n R
  unfolding order_graph O.order
  order_graph_lem = sym (order_fine b fine refl)

  pub order_chains : (i j : ℕ) → Goals n i → Goals n j → (ahead (order_graph b).rows i j ≡ true) ↔ O.Before b i j
  order_chains i j p q =
      let e : ahead (order_graph b).rows i j ≡ R i j =
      ap (λ (g : Graph). ahead g.rows i j) order_graph_lem ∙ rows_say goal_limit n R i j w.goals_to p.0 p.1 q.0 q.1 in
      (λ t. (before_is b i j).0 (sym e ∙ t), λ c. e ∙ (before_is b i j).1 c)

  -- ---- 02, 5: the number of passes that the order operation gives
  pub order_passes_lem : order_passes b ≡ O.pass_count b
  order_passes_lem = sym (passes_fine b fine refl)

  -- "closed in passes, each adding exactly those waits that a chain of two waits standing at its start gives, and end with the first that adds none"
  pub first-pass : FirstThatAddsNone n (O.waits b) (order_passes b)
  first-pass = (passes_are b (order_passes b)).0 (sym order_passes_lem)

  -- "The order stays the same": what stands after them is the order
  pub after-passes : (i j : ℕ) → Goals n i → Goals n j → after n (O.waits b) (order_passes b) i j ≡ R i j
  after-passes i j p q = ap (λ (k : ℕ). after n (O.waits b) k i j) order_passes_lem ∙ passes-order b i j p q

  -- "1 exactly if the waits were closed already"
  pub one-pass-order : (order_passes b ≡ 1) ↔ ((i j : ℕ) → R i j ≡ O.waits b i j)
  one-pass-order = (λ e. (passes-one-order b).0 (sym order_passes_lem ∙ e), λ h. order_passes_lem ∙ (passes-one-order b).1 h)

  -- "never above 6"
  pub few-passes : (1 ≤ order_passes b) × (order_passes b ≤ pass_limit)
  few-passes = let l = passes_limit b w.goals_to in (omega (arith, order_passes_lem, l.0), omega (arith, order_passes_lem, l.1))

  -- ---- Document 003: figure 1 answers true exactly if the form operation does not answer 13,
  figure_none : (figure1 R n ≡ true) ↔ (first_n R n ≡ none)
  figure_none = figure_1_first_n R n (order_strict R (Goals n) (before-order b))

  pub published_decides : (buf : List ℕ) → (figure1 R n ≡ true) ↔ (form_answer b buf ≡ refused 13 0 → ⊥)
  published_decides buf = (λ t. there (figure_none.0 t), λ h. figure_none.1 (back h (first_n R n) refl))
    where
      there : first_n R n ≡ none → form_answer b buf ≡ refused 13 0 → ⊥
      there e h = let (q, f) = thirteen-found b w buf h in let k = sym e ∙ f in let z : ◌≡◌ {A = ℕ} 0 1 = cc in omega arith

      back : (form_answer b buf ≡ refused 13 0 → ⊥) → (o : Option Four) → first_n R n ≡ o → first_n R n ≡ none
      back h none e = e
      back h (some q) e = absurd (h (found-thirteen b w buf q e))

  -- and then the text written is that of section 3.2's linear expression, restored to house form.
  pub published_text : figure1 R n ≡ true → form_text b ≡ accepted (text (restore (udg_expr R n)))
  published_text t =
      settles b w ∙ thirteen-none (text (form R n)) (figure_none.0 t) ∙ ap accepted (sym (udg_text R n (before-order b) w.goals_from t))

-- of a refused record the number of passes is 0
pub no_passes : (b : List ℕ) (r : Refusal) → reading b ≡ Err r → order_passes b ≡ 0
no_passes b r e = sym (passes_refused b r e)

-- ---- Goal text: for any bytes and any number the part handed out is the one whose place and length the other call gives.
pub calls_agree : (s r : Bor (List ℕ)) (g : ℕ) (a : Result Span Refusal) → outcome a ≡ goal_text s.now g
    → PartAt s (text_part s.now g).place (text_part s.now g).size r
    → PartAt s (values no_span (outcome a)).value.place (values no_span (outcome a)).value.size r
unfolding text_part
calls_agree s r g a e p = subst (λ (o : Outcome Span). PartAt s (values no_span o).value.place (values no_span o).value.size r) (sym e) p
