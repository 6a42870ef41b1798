-- What the operations of 01 answer, each as an outcome of the lent bytes (record_rules/specs/Outcome), and the outcome that the check's answer is.
-- Writing the form and its length have theirs in the crate `form`, writing MEL in `mel`, a goal's text in `record_text`.
use Rattle.std.specs.Prelude.{List, ℕ, Result, Ok, Err}
use Rattle.graph.specs.Graph.{edgeless}
use Rattle.graph.specs.declared.Graph.{Graph}
use Rattle.record_fields.specs.Fields.{goal_count}
use Rattle.record_rules.specs.declared.Refusal.{Refusal}
use Rattle.record_rules.specs.Outcome.{Outcome, refused, accepted, read_then, values}
use Rattle.order.specs.Order
use Rattle.order.specs.Order.{before}
use Rattle.expression_grammar.specs.Check.{checked}
use Rattle.expression_grammar.specs.Check
use Rattle.order_compare.specs.declared.Verdict.{Verdict}
use Rattle.order_compare.specs.Verdicts.{verdict_of}

-- ---- Reading: the goal count.
unfoldable pub read : List ℕ → Outcome ℕ
read b = read_then b (accepted (goal_count b))

-- ---- The order: beside the reading's answer the closed graph; of a refused record the graph without goals.
unfoldable pub order_graph : List ℕ → Graph
order_graph b = (values (edgeless 0) (read_then b (accepted (Order.order b)))).value

-- 02, 5: "Beside it the closure gives the number of passes"
unfoldable pub passes : List ℕ → Outcome ℕ
passes b = read_then b (accepted (Order.pass_count b))

-- the number alone, which is 0 of a refused record
unfoldable pub order_passes : List ℕ → ℕ
order_passes b = (values 0 (passes b)).value

-- ---- Check of an expression: "same", or "differs" with the first i, then j.
unfoldable pub check : List ℕ → List ℕ → Outcome Check.Verdict
check b t = read_then b (checked (goal_count b) (before b) t)

abbrev pub check_outcome : Result Verdict Refusal → Outcome Check.Verdict
check_outcome (Ok v) = accepted (verdict_of v)
check_outcome (Err r) = refused r.number r.place
