-- The text of an expression, as bytes (01, "House form").
use Rattle.std.specs.Prelude.{Bool, cond, List, [], ◌∷◌, ◌++◌, ℕ}
use Rattle.buffer.specs.Decimal.{decimal}
use Rattle.expression.specs.Expr.{Expr, goal, join, Members, one, more}

-- "`,` joins a sequence, `&` a group;" bytes 44 and 38.
abbrev pub mark : Bool → ℕ
mark k = cond k 44 38

abbrev mutual
  -- "Goals are decimal numbers without leading zero;" "every inner sequence or group has exactly one pair of parentheses," bytes 40 and 41: the text of
  -- a member.
  pub inner : Expr → List ℕ
  inner (goal g) = decimal g
  inner (join k e ms) = 40 ∷ (inner e ++ (mark k ∷ run k ms)) ++ (41 ∷ [])

  -- The texts of members, a mark between each two.
  pub run : Bool → Members → List ℕ
  run k (one e) = inner e
  run k (more e ms) = inner e ++ (mark k ∷ run k ms)

-- "the outermost none; no spaces."
abbrev pub text : Expr → List ℕ
text (goal g) = decimal g
text (join k e ms) = run k (more e ms)

-- 01: "Its longest text is 146 bytes.": a house form's, of up to 32 goals (T4, `text-fits` and `text-longest` of proofs/Theorems)
abbrev pub form_limit : ℕ
form_limit = 146
