-- The rows of the order, in both cases of the record.
use Rattle.std.specs.Prelude.{Result, Ok, Err}
use mathlib.Core.Path.{◌≡◌, sym, ap, ◌∙◌}
use mathlib.Core.List.{List}
use Prim.Native.Nat.{ℕ}
use Rattle.graph.specs.declared.Graph.{Graph}
use Rattle.record_fields.specs.Fields.{goal_count}
use Rattle.record_rules.specs.declared.Refusal.{Refusal}
use Rattle.record_rules.specs.Reading.{reading}
use Rattle.record_rules.specs.Outcome.{outcome, accepted}
use Rattle.record_rules.proofs.Outcomes.{told_apart, by_reading}
use Rattle.order.specs.Order.{order}
use Rattle.annotator.specs.Answers.{read, order_graph}
use Rattle.clause_facts.specs.Facts.{filled}
use Rattle.clause_facts.proofs.Filled.{filled_ok, filled_err}
use Rattle.lfj.proofs.After.{graph_is}

module _ (b : List ℕ) where
  -- ---- the rows of the order
  pub rows_fine : {x : Graph} (was : List ℕ) → reading b ≡ Ok tt → x ≡ order_graph b → x.rows ≡ filled b (order b).rows was
  rows_fine was f e = ap (λ (y : Graph). y.rows) (graph_is b f e) ∙ sym (filled_ok b (order b).rows was f)

  pub rows_refused : {s : Result ℕ Refusal} (x was : List ℕ) (r : Refusal) → outcome s ≡ read b → s ≡ Err r → was ≡ filled b x was
  unfolding read
  rows_refused x was r e f =
      by_reading b (accepted (goal_count b)) (λ o. outcome (Err r) ≡ o → was ≡ filled b x was)
      (λ u q h. sym (filled_err b x was u q)) (λ q h. absurd (told_apart h)) (ap outcome (sym f) ∙ e)
