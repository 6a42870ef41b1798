-- The outcomes of reading and the order, case by case.
use Rattle.std.specs.Prelude.{Ok, Err}
use mathlib.Core.Path.{◌≡◌, sym, ap, ◌∙◌}
use mathlib.Core.List.{List}
use Prim.Native.Nat.{ℕ}
use Rattle.graph.specs.Graph.{edgeless}
use Rattle.graph.specs.declared.Graph.{Graph}
use Rattle.record_rules.specs.declared.Refusal.{Refusal}
use Rattle.record_rules.specs.Reading.{reading}
use Rattle.record_rules.specs.Outcome.{Outcome, refused, accepted, values}
use Rattle.record_rules.proofs.Outcomes.{read_ok, read_err}
use Rattle.record_fields.specs.Fields.{goal_count}
use Rattle.order.specs.Order
use Rattle.annotator.specs.Answers.{read, order_graph, passes, order_passes}

module _ (b : List ℕ) where
  pub read_fine : {n : ℕ} → reading b ≡ Ok tt → n ≡ goal_count b → accepted n ≡ read b
  unfolding read
  read_fine e n = ap accepted n ∙ sym (read_ok b _ e)

  pub read_refused : (r : Refusal) → reading b ≡ Err r → refused r.number r.place ≡ read b
  unfolding read
  read_refused r e = sym (read_err b _ r e)

  pub order_fine : {g : Graph} → reading b ≡ Ok tt → g ≡ Order.order b → g ≡ order_graph b
  unfolding order_graph
  order_fine e h = h ∙ ap (λ (o : Outcome Graph). (values (edgeless 0) o).value) (sym (read_ok b _ e))

  pub order_refused : {g : Graph} (r : Refusal) → reading b ≡ Err r → g ≡ edgeless 0 → g ≡ order_graph b
  unfolding order_graph
  order_refused r e h = h ∙ ap (λ (o : Outcome Graph). (values (edgeless 0) o).value) (sym (read_err b _ r e))

  -- the number of passes alone
  pub passes_fine : {k : ℕ} → reading b ≡ Ok tt → k ≡ Order.pass_count b → k ≡ order_passes b
  unfolding order_passes passes
  passes_fine e h = h ∙ ap (λ (o : Outcome ℕ). (values 0 o).value) (sym (read_ok b _ e))

  pub passes_refused : (r : Refusal) → reading b ≡ Err r → 0 ≡ order_passes b
  unfolding order_passes passes
  passes_refused r e = ap (λ (o : Outcome ℕ). (values 0 o).value) (sym (read_err b _ r e))
