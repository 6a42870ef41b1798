-- What settles an answer with little to compute: the waits of a record settle its form, and its annotation's text the call that writes it.
use Rattle.std.specs.Prelude.{Ok}
use mathlib.Core.Path.{◌≡◌, sym, ap, ap₂, ◌∙◌}
use mathlib.Core.Bool.{Bool}
use mathlib.Core.List.{List, ◌++◌}
use Prim.Native.Nat.{ℕ, ◌≤◌}
use native.Mathlib.Omega.{arith}
use lib.ListN.{length, drop}
use Rattle.sets.specs.Sets.{goal_limit}
use Rattle.graph.specs.Graph.{ahead, rows_of}
use Rattle.graph.proofs.Rows.{rows_say}
use Rattle.record_rules.specs.Reading.{reading}
use Rattle.record_fields.specs.Fields.{goal_count}
use Rattle.record.proofs.WellFormed.{fine_well_formed}
use Rattle.expression.specs.Expr.{Goals}
use Rattle.graph.specs.Closure.{closed}
use Rattle.expression.specs.Arrange.{form_any}
use Rattle.expression.specs.Search.{first_n}
use Rattle.expression.specs.Text.{text}
use Rattle.graph.proofs.Closure.{closed_agree}
use Rattle.order.specs.Order.{waits, before}
use Rattle.order.proofs.Theorems.{before-order}
use Rattle.record_rules.specs.Outcome.{accepted}
use Rattle.form.specs.Form.{or_thirteen, form_text, shown}
use Rattle.form.proofs.Outcomes.{form-fine, shown-fine}
use Rattle.form.proofs.Orders.{first-same, text_same}
use Rattle.mel.specs.Annotation as M
use Rattle.mel.proofs.Theorems.{length_enough}
use Rattle.starred_drafts.specs.Drafts.{annotates, mel_of, room}

module _ (b : List ℕ) (fine : reading b ≡ Ok tt) where
  -- of a record with the waits W
  pub formed : (W : ℕ → ℕ → Bool) → rows_of goal_limit (goal_count b) (waits b) ≡ rows_of goal_limit (goal_count b) W →
      let R = closed W (goal_count b) in
      (form_text b ≡ or_thirteen (first_n R (goal_count b)) (text (form_any R (goal_count b)))) × (shown b ≡ first_n R (goal_count b))
  unfolding before
  formed W e =
      let R = closed W (goal_count b) in
      let from = (fine_well_formed b fine).goals_from in (
        form-fine b fine ∙ sym (text_same R (before b) (goal_count b) agree from (before-order b)),
        shown-fine b fine ∙ sym (first-same R (before b) (goal_count b) agree from (before-order b)),
      )
    where
      waits_agree : (i j : ℕ) → Goals (goal_count b) i → Goals (goal_count b) j → W i j ≡ waits b i j
      waits_agree i j p q =
          let h = (fine_well_formed b fine).goals_to in
          sym (rows_say goal_limit (goal_count b) W i j h p.0 p.1 q.0 q.1) ∙ ap (λ (r : List ℕ). ahead r i j) (sym e)
          ∙ rows_say goal_limit (goal_count b) (waits b) i j h p.0 p.1 q.0 q.1

      agree : (i j : ℕ) → Goals (goal_count b) i → Goals (goal_count b) j → closed W (goal_count b) i j ≡ before b i j
      agree i j p q = closed_agree W (waits b) (goal_count b) waits_agree (goal_count b) (omega arith) i j p q

  -- of a record whose annotation is t
  pub annotated : (t : List ℕ) → M.mel b ≡ t → length t ≤ length room → mel_of b ≡ annotates (accepted (length t)) (t ++ drop (length t) room)
  annotated t e h =
      let w = length_enough b room (fine_well_formed b fine) (omega (arith, h, ap length e)) in
      ap₂ annotates (w.0 ∙ ap (λ (u : List ℕ). accepted (length u)) e) (w.1 ∙ ap (λ (u : List ℕ). u ++ drop (length u) room) e)
