-- What the readers of the cycle and of the whole text promise.
use Rattle.std.specs.Prelude.{◌≡◌, Bool, cond, Result, Ok, Err, List, ℕ, length}
use Rattle.std.proofs.Math.Option.{none}
use Rattle.expression_grammar.specs.TextRules.{open_limit}
use Rattle.expression.specs.Expr.{Expr}
use Rattle.expression_grammar.specs.Reader.{Front, Level, Phase, State, state, reads, stops, read}
use Rattle.expression_number.specs.declared.Node.{Node}
use Rattle.expression_number.specs.Nodes.{Told, Answer}

-- the state within a join of kind k of which the front f is read; g is the front of the groups where k is false
abbrev pub within : Bool → ℕ → List Level → Front → Front → Phase → State
within k d os g f x = state d os (cond k f g) (cond k none f) x

abbrev pub NoAnd : ℕ → Type 0
NoAnd b = (b ≡ 38) → ⊥

abbrev pub NoMark : ℕ → Type 0
NoMark b = ((b ≡ 38) → ⊥) × ((b ≡ 44) → ⊥)

abbrev pub Group : ℕ → List ℕ → ℕ → ℕ → List ℕ → Result Node ℕ → List ℕ → Type 0
Group w = Answer w (λ d os g f x. state d os g none x) NoAnd

abbrev pub Sequence : ℕ → List ℕ → ℕ → ℕ → List ℕ → Result Node ℕ → List ℕ → Type 0
Sequence w = Answer w (λ d os g f x. state d os none none x) NoMark

-- The whole text: the grammar's reader refuses it, and the rows are as before; or it accepts it with an expression of which the node and the rows tell.
abbrev pub Parsed : ℕ → List ℕ → List ℕ → Result Node ℕ → List ℕ → Type 0
Parsed w s rows (Err p) now = (read open_limit s ≡ stops p) × (now ≡ rows)
Parsed w s rows (Ok node) now = (x : Expr) × (read open_limit s ≡ reads x) × (node.end ≡ length s) × Told w x rows node.kind node.set node.extra now
