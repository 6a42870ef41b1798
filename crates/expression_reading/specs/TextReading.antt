-- What reading a text answers, as values: the paper's number and place with a refusal, else the order and the goals.
use Rattle.std.specs.Prelude.{◌≡◌, Bool, ◌&&◌, Option, None, Some, Result, Ok, Err, List, [], ℕ, suc, ◌+◌, ◌-◌, ◌<◌, ◌≤◌, leb, get_or}
use Rattle.std.proofs.Math.Option as Maybe
use Rattle.std.proofs.Math.Option.{none, some}
use Rattle.expression_grammar.specs.TextRules.{open_limit}
use Rattle.sets.specs.Sets.{has}
use Rattle.graph.specs.Graph.{goals_of, graph_of}
use Rattle.expression.specs.Expr.{Expr, times, stands, before}
use Rattle.expression_grammar.specs.Reader.{sign, reads, read}
use Rattle.expression_grammar.specs.Numbers.{Found, found, grown, numbers}
use Rattle.expression_grammar.specs.Numbers
use Rattle.record_rules.specs.Outcome.{Outcome, refused, accepted}
use Rattle.expression_number.specs.Nodes.{bit}
use Rattle.record_rules.specs.declared.Refusal.{Refusal}
use Rattle.expression_reading.specs.declared.Drawn.{Drawn}

-- the byte is one of `0` to `9`
abbrev pub is_digit : ℕ → Bool
is_digit b = leb 48 b && leb b 57

-- the number that begins at the place a
abbrev pub found_at : List ℕ → ℕ → Found
found_at s a = grown (found (get_or s a 0 - 48) a) (sign (get_or s (a + 1) 0))

abbrev pub value_at : List ℕ → ℕ → ℕ
value_at s a = (found_at s a).value

-- the leftmost number above n or met before
abbrev pub spot : Maybe.Option ℕ → Option ℕ
spot none = None
spot (some p) = Some p

abbrev pub fault_in : ℕ → List ℕ → Option ℕ
fault_in n s = spot (Numbers.fault n [] (numbers s))

-- the set tells the numbers up to w of a text's expression, and a word of 0 that they stand in it once and no other does
abbrev pub Counted : ℕ → List ℕ → ℕ → ℕ → Type 0
Counted w s set extra =
    (x : Expr) × (read open_limit s ≡ reads x) × ((i : ℕ) → i < w → has set i ≡ stands x (suc i)) × (extra ≡ 0 → (v : ℕ) → times x v ≤ bit set v)

-- The answer that a ruling on a text for n goals is: with an expression its order and its goals. "A refusal returns its number and a place", and nothing else.
abbrev pub text_answer : ℕ → Outcome Expr → Result Drawn Refusal
text_answer n (refused k p) = Err (record { number = k; place = p })
text_answer n (accepted e) = Ok (record { graph = graph_of n (before e); met = goals_of n (stands e) })
