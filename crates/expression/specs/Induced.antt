-- The order that an expression induces, as 01 words it: "i before j exactly if the innermost part that holds both is a sequence and i's member stands earlier".
-- `proofs/Induced.antt` shows that `before` of `Expr.antt`, which computes, is this order.
use Rattle.std.specs.Prelude.{◌≡◌, true, List, [], ◌∷◌, ℕ, zero, suc, ◌<◌}
use Rattle.expression.specs.Expr.{Expr, goal, join, Members, one, more, stands}

-- The members of an expression from left to right; a goal has none.
abbrev pub listed : Members → List Expr
listed (one e) = e ∷ []
listed (more e ms) = e ∷ listed ms

abbrev pub members : Expr → List Expr
members (goal g) = []
members (join k e ms) = listed (more e ms)

-- m stands at the place a of a list; the first place is 0.
abbrev pub At : List Expr → ℕ → Expr → Type 0
At [] a m = ⊥
At (x ∷ l) zero m = m ≡ x
At (x ∷ l) (suc a) m = At l a m

-- p is a part of e: e itself, or a part of a member of e.
pub data Part (p : Expr) : Expr → Type 0 where
  itself : Part p p
  inside : {e m : Expr} (a : ℕ) → At (members e) a m → Part p m → Part p e

-- p holds i.
abbrev pub Holds : Expr → ℕ → Type 0
Holds p i = stands p i ≡ true

-- p is the innermost part of e that holds both i and j: it holds both, and no member of it does.
pub record Innermost (e : Expr) (i j : ℕ) (p : Expr) : Type 0 where
  pub part : Part p e
  pub holds_i : Holds p i
  pub holds_j : Holds p j
  pub no_member : (a : ℕ) (m : Expr) → At (members p) a m → Holds m i → Holds m j → ⊥

-- p is a sequence.
abbrev pub Sequence : Expr → Type 0
Sequence (goal g) = ⊥
Sequence (join k e ms) = k ≡ true

-- Among these members, i's stands earlier than j's.
pub record Earlier (l : List Expr) (i j : ℕ) : Type 0 where
  pub a : ℕ
  pub b : ℕ
  pub left : Expr
  pub right : Expr
  pub at_a : At l a left
  pub at_b : At l b right
  pub holds_i : Holds left i
  pub holds_j : Holds right j
  pub earlier : a < b

-- The expression e induces: i before j.
pub record Before (e : Expr) (i j : ℕ) : Type 0 where
  pub part : Expr
  pub innermost : Innermost e i j part
  pub sequence : Sequence part
  pub earlier : Earlier (members part) i j
