-- Document 003, section 3.2: the linear expression of a dependency graph.
use Rattle.std.specs.Prelude.{Bool, true, false, not, cond, List, [], ◌∷◌, map, ℕ, zero, suc, length}
use Rattle.expression.specs.Expr.{Expr, goal, join, Members, one, more, stands}
use Rattle.expression.specs.Form.{joined, up_from}
use Rattle.published.specs.Sets.{any, those, subset}
use Rattle.published.specs.Figure1.{P, S, F}

-- "&" between expressions: one alone is itself. Of none at all there is no expression, and 0 stands for it.
abbrev pub members : Expr → List Expr → Members
members e [] = one e
members e (f ∷ l) = more e (members f l)

abbrev pub group : List Expr → Expr
group [] = goal 0
group (e ∷ l) = joined false (members e l)

-- The sets of a list, so that none stands in front of one that holds it.
abbrev pub place : List ℕ → List (List ℕ) → List (List ℕ)
place s [] = s ∷ []
place s (t ∷ l) = let on = t ∷ place s l in cond (subset t s) (s ∷ t ∷ l) on

abbrev pub inwards : List (List ℕ) → List (List ℕ)
inwards [] = []
inwards (s ∷ l) = place s (inwards l)

-- A vertex of s stands in e.
abbrev pub meets : List ℕ → Expr → Bool
meets s e = any (stands e) s

-- The expressions es stand beside each other. Those with a vertex of s are joined by "&", and f comes after them; the others stay.
abbrev pub after : List ℕ → Expr → List Expr → List Expr
after s f es = join true (group (those (meets s) es)) (one f) ∷ those (λ e. not (meets s e)) es

module _ (R : ℕ → ℕ → Bool) where
  -- Step 3 for the sets of a list, the last first; f gives "the subexpressions for F(S_i)". First the vertices of P stand beside each other. Then, set by set,
  -- "& operators between all elements of S_i", and the subexpression for F(S_i) "after the subexpressions for S_i and for each F(S_j) such that S_j" is inside S_i.
  abbrev pub built : (List ℕ → Expr) → List ℕ → List (List ℕ) → List Expr
  built f W [] = map goal (P R W)
  built f W (s ∷ l) = after s (f (F R W s)) (built f W l)

  -- Steps 1 to 3, with calls at most k deep: "recursively compute" the expressions for F(S_i); a set comes after those inside it. Vertices of P in no set stay
  -- beside all else.
  abbrev pub linear_deep : ℕ → List ℕ → Expr
  linear_deep zero W = goal 0
  linear_deep (suc k) W = group (built (λ U. linear_deep k U) W (inwards (S R W)))

  abbrev pub linear : List ℕ → Expr
  linear W = linear_deep (length W) W

  -- The linear expression of the goals 1 to n.
  abbrev pub udg_expr : ℕ → Expr
  udg_expr n = linear (up_from 1 n)
