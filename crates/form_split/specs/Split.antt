-- The house form of a set of goals, for any strict order that rows of masks say.
use Rattle.std.specs.Prelude.{◌≡◌, Bool, true, cond, List, ℕ}
use Rattle.graph.specs.Graph.{has_goal, ahead}
use Rattle.expression.specs.Expr.{Expr, NoN}
use Rattle.expression.specs.Arrange.{Strict, form_on_any}
use Rattle.expression.specs.Text.{inner, text}

-- goal g is in the set m
abbrev pub Has : ℕ → ℕ → Type 0
Has m g = has_goal m g ≡ true

-- `prior` says of the goals of a set what `after` says, the other way round
abbrev pub Turned : List ℕ → List ℕ → ℕ → Type 0
Turned after prior set = (i j : ℕ) → Has set i → Has set j → ahead prior j i ≡ ahead after i j

-- the rows `after` say a strict order without an N on a set that is not empty
pub record Ordered (after prior : List ℕ) (set : ℕ) : Type 0 where
  pub strict : Strict (ahead after) (Has set)
  pub free : NoN (ahead after) (Has set)
  pub turned : Turned after prior set
  pub some : (g : ℕ) × Has set g

-- the house form of those of the goals 1 to w that are in a set
unfoldable pub form_of : ℕ → List ℕ → ℕ → Expr
form_of w after set = form_on_any (ahead after) w (has_goal set)

-- its text: as a member's, in parentheses unless it is a goal; or as the outermost
unfoldable pub form_text : ℕ → Bool → List ℕ → ℕ → List ℕ
form_text w nested after set = cond nested (inner (form_of w after set)) (text (form_of w after set))
