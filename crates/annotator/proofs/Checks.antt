-- The check of an expression, case by case.
use Rattle.std.specs.Prelude.{Ok, Err}
use mathlib.Core.Path.{◌≡◌, refl, sym, ap, ap₂, ◌∙◌}
use mathlib.Core.List.{List}
use Prim.Native.Nat.{ℕ, ◌≤◌}
use Rattle.sets.specs.Sets.{goal_limit}
use Rattle.graph.specs.Graph.{ahead, rows_of, graph_of}
use Rattle.graph.specs.declared.Graph.{Graph}
use Rattle.record_rules.specs.declared.Refusal.{Refusal}
use Rattle.record_rules.specs.Reading.{reading}
use Rattle.record_rules.specs.Outcome.{Outcome, refused, accepted}
use Rattle.record_rules.proofs.Outcomes.{read_ok}
use Rattle.record_fields.specs.Fields.{goal_count}
use Rattle.expression.specs.Expr.{Expr}
use Rattle.expression.specs.Expr
use Rattle.expression_grammar.specs.TextRules.{read_text}
use Rattle.expression_grammar.specs.Check.{first_differ, checked}
use Rattle.expression_reading.specs.declared.Drawn.{Drawn}
use Rattle.expression_reading.specs.TextReading.{text_answer}
use Rattle.order_compare.specs.declared.Verdict.{Verdict}
use Rattle.order_compare.specs.Verdicts.{said, verdict_of}
use Rattle.order_compare.proofs.Rows.{checked_refused, checked_compared}
use Rattle.order.specs.Order
use Rattle.order.specs.Order.{before}
use Rattle.annotator.specs.Answers.{check}

-- the outcome of reading a text, from what the program answers
module _ (n : ℕ) where
  turned : (x : Outcome Expr) (r : Refusal) → Err r ≡ text_answer n x → x ≡ refused r.number r.place
  turned (refused k p) r f = cc
  turned (accepted e) r f = cc

  was_read : (x : Outcome Expr) (d : Drawn) → Ok d ≡ text_answer n x → (e : Expr) × (x ≡ accepted e) × (d.graph ≡ graph_of n (Expr.before e))
  was_read (refused k p) d f = cc
  was_read (accepted e) d f = (e, refl, cc)

module _ (b t : List ℕ) where
  -- the text is refused
  pub text_turned : (n : ℕ) (r : Refusal) → n ≡ goal_count b → Err r ≡ text_answer n (read_text n t) → refused r.number r.place ≡ checked (goal_count b) (before b) t
  text_turned n r q e =
      let h = turned n (read_text n t) r e in
      sym (checked_refused n (before b) t r.number r.place h) ∙ ap (λ (m : ℕ). checked m (before b) t) q

  -- the text is read, and its order compared with the record's
  pub text_compared : (n : ℕ) (d : Drawn) (g : Graph) (v : Verdict) → n ≡ goal_count b → n ≤ goal_limit → Ok d ≡ text_answer n (read_text n t)
      → g ≡ Order.order b → v ≡ said (first_differ n (ahead g.rows) (ahead d.graph.rows)) → accepted (verdict_of v) ≡ checked (goal_count b) (before b) t
  unfolding Order.order
  text_compared n d g v q l e h w =
      let (x, f, i) = was_read n (read_text n t) d e in
      let ours : g.rows ≡ rows_of goal_limit n (before b) = ap (λ (x : Graph). x.rows) h ∙ ap (λ (m : ℕ). rows_of goal_limit m (before b)) (sym q) in
      let theirs : d.graph.rows ≡ rows_of goal_limit n (Expr.before x) = ap (λ (x : Graph). x.rows) i in
      ap (λ (v : Verdict). accepted (verdict_of v)) (w ∙ ap₂ (λ (y z : List ℕ). said (first_differ n (ahead y) (ahead z))) ours theirs)
      ∙ sym (checked_compared n (before b) t x l f)
      ∙ ap (λ (m : ℕ). checked m (before b) t) q

  -- of an accepted record
  pub check_fine : reading b ≡ Ok tt → checked (goal_count b) (before b) t ≡ check b t
  unfolding check
  check_fine e = sym (read_ok b _ e)
