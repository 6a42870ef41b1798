-- The goals that a goal is before, and the number of passes, case by case.
use Rattle.std.specs.Prelude.{Result, Ok, Err}
use mathlib.Core.Path.{◌≡◌, refl, sym, ap, ◌∙◌}
use mathlib.Core.Bool.{true, false, ◌&&◌}
use mathlib.Core.List.{List}
use Prim.Native.Nat.{ℕ, suc, ◌-◌}
use native.Mathlib.Omega.{arith}
use lib.Dec.{leb}
use lib.ListN.{get_or}
use Rattle.sets.specs.Sets.{goal_limit}
use Rattle.graph.specs.Graph.{edgeless, goals_of}
use Rattle.graph.specs.declared.Graph.{Graph}
use Rattle.graph.proofs.Rows.{row_at}
use Rattle.record_fields.specs.Fields.{goal_count}
use Rattle.record_rules.specs.declared.Refusal.{Refusal}
use Rattle.record_rules.specs.Reading.{reading}
use Rattle.record_rules.specs.Outcome.{Outcome, outcome, refused, accepted, read_then, values}
use Rattle.record_rules.proofs.Must.{between_low, between_high}
use Rattle.record_rules.proofs.Outcomes.{told_apart, one_value, read-refused, read-fine, by_reading, holds, fails}
use Rattle.record.proofs.WellFormed.{fine_well_formed}
use Rattle.order.specs.Order as Order
use Rattle.order.specs.Order.{before}
use Rattle.annotator.specs.Answers.{read, order_graph, passes, order_passes}
use Rattle.lfj_words.specs.Words.{refusal_word, word, read_word, after_word}
use Rattle.clause_facts.specs.Facts.{filled}
use Rattle.lfj.specs.Calls.{after}

module _ (b : List ℕ) where
  -- an accepted record was read without a refusal, and gives its goal count
  pub was_accepted : {s : Result ℕ Refusal} {n : ℕ} → outcome s ≡ read b → s ≡ Ok n → (reading b ≡ Ok tt) × (n ≡ goal_count b)
  unfolding read
  was_accepted {s} {n} e f =
      by_reading b (accepted (goal_count b)) (λ o. accepted n ≡ o → (reading b ≡ Ok tt) × (n ≡ goal_count b)) (λ r q h. absurd (told_apart (sym h))) (λ q h. (q, one_value h))
      (ap outcome (sym f) ∙ e)

  -- the word of a refused record
  refused_word_lem : (o : Outcome ℕ) {s : Result ℕ Refusal} {w : ℕ} (r : Refusal) → outcome s ≡ read b → s ≡ Err r → w ≡ refusal_word r.number r.place
      → w ≡ word (λ m. m) (read_then b o)
  unfolding read
  refused_word_lem o {s} {w} r e f h =
      by_reading b (accepted (goal_count b)) (λ x. refused r.number r.place ≡ x → w ≡ word (λ m. m) (read_then b o))
      (λ u q k. h ∙ ap (λ (x : Outcome ℕ). word (λ m. m) x) (k ∙ read-refused b o u refl q)) (λ q k. absurd (told_apart k)) (ap outcome (sym f) ∙ e)

  pub after-refused : {s : Result ℕ Refusal} {w : ℕ} (r : Refusal) (g : ℕ) → outcome s ≡ read b → s ≡ Err r → w ≡ refusal_word r.number r.place
      → w ≡ after_word (after b g)
  unfolding after_word after
  after-refused r g = refused_word_lem _ r

  pub passes-refused : {s : Result ℕ Refusal} {w : ℕ} (r : Refusal) → outcome s ≡ read b → s ≡ Err r → w ≡ refusal_word r.number r.place
      → w ≡ read_word (passes b)
  unfolding read_word passes
  passes-refused r = refused_word_lem _ r

  -- the number of passes of an accepted one
  pub passes-fine : {k : ℕ} → reading b ≡ Ok tt → k ≡ order_passes b → k ≡ read_word (passes b)
  unfolding read_word order_passes passes
  passes-fine f e = e ∙ (ap (λ (o : Outcome ℕ). (values 0 o).value) (sym is) ∙ ap (λ (o : Outcome ℕ). word (λ m. m) o) is)
    where
      is : accepted (Order.pass_count b) ≡ read_then b (accepted (Order.pass_count b))
      is = read-fine b _ refl f

  -- of a goal outside the record
  pub after_outside : {w : ℕ} (g : ℕ) → reading b ≡ Ok tt → leb 1 g && leb g (goal_count b) ≡ false → w ≡ refusal_word 14 0 → w ≡ after_word (after b g)
  unfolding after_word after
  after_outside g f t h = h ∙ ap (λ (x : Outcome ℕ). word (λ m. m) x) (fails 14 0 _ t ∙ read-fine b _ refl f)

  -- the row of a goal is the set of the goals that it is before
  pub row_is : (g : ℕ) → reading b ≡ Ok tt → leb 1 g && leb g (goal_count b) ≡ true → get_or (Order.order b).rows (g - 1) 0 ≡ goals_of (goal_count b) (before b g)
  unfolding Order.order
  row_is g f t =
      let low = between_low 1 (goal_count b) g t in
      let high = between_high 1 (goal_count b) g t in
      let most = (fine_well_formed b f).goals_to in
      let i : suc (g - 1) ≡ g = omega (arith, low) in
      row_at goal_limit (goal_count b) (before b) (g - 1) (omega (arith, low, high, most)) (omega (arith, low, high)) ∙ ap (λ (k : ℕ). goals_of (goal_count b) (before b k)) i

  after_word_lem : (g : ℕ) → reading b ≡ Ok tt → leb 1 g && leb g (goal_count b) ≡ true → goals_of (goal_count b) (before b g) ≡ after_word (after b g)
  unfolding after_word after
  after_word_lem g f t = ap (λ (y : Outcome ℕ). word (λ m. m) y) (holds 14 0 _ t ∙ read-fine b _ refl f)

  -- the graph of an accepted record
  pub graph_is : {x : Graph} → reading b ≡ Ok tt → x ≡ order_graph b → x ≡ Order.order b
  unfolding order_graph
  graph_is f e = e ∙ sym (ap (λ (o : Outcome Graph). (values (edgeless 0) o).value) (read-fine b _ refl f))

  pub after-row : {x : Graph} {w : ℕ} (g : ℕ) → reading b ≡ Ok tt → x ≡ order_graph b → leb 1 g && leb g (goal_count b) ≡ true
      → w ≡ get_or x.rows (g - 1) 0 → w ≡ after_word (after b g)
  after-row {x} {w} g f e t h = h ∙ ap (λ (y : Graph). get_or y.rows (g - 1) 0) (graph_is f e) ∙ row_is g f t ∙ after_word_lem g f t

  -- so `lfj_order` and `lfj_after` say the same: row g - 1 of the filled array is the set of goal g
  pub order-after : (was : List ℕ) (g : ℕ) → reading b ≡ Ok tt → leb 1 g && leb g (goal_count b) ≡ true
      → get_or (filled b (Order.order b).rows was) (g - 1) 0 ≡ after_word (after b g)
  unfolding filled
  order-after was g f t =
      ap (λ (o : Outcome (List ℕ)). get_or (values was o).value (g - 1) 0) (sym (read-fine b (accepted (Order.order b).rows) refl f)) ∙ row_is g f t ∙ after_word_lem g f t
