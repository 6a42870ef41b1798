-- House form restored, for an expression in which no number stands twice: nested joins of one kind are made one, and the members of a group are sorted by their smallest
-- goals. Goals and order stay (`restore_times`, `restore_before` in `proofs/Theorems.antt`).
use Rattle.std.specs.Prelude.{Bool, ◌||◌, cond, leb}
use Rattle.std.specs.Bool.{beq}
use Rattle.expression.specs.Expr.{Expr, goal, join, Members, one, more, least}
use Rattle.expression.specs.Form.{joined}

-- The members that an expression puts into a k join around it: its own, if it is a k join, else itself.
abbrev pub parts : Bool → Expr → Members
parts k (goal g) = one (goal g)
parts k (join h e ms) = cond (beq h k) (more e ms) (one (join h e ms))

-- e goes in front of the member m of a k join: always in a sequence; in a group, if its smallest goal is not above that of m.
abbrev pub ahead : Bool → Expr → Expr → Bool
ahead k e m = k || leb (least e) (least m)

-- Put a member to others of a k join, before the first that it goes in front of.
abbrev pub put : Bool → Expr → Members → Members
put k e (one m) = cond (ahead k e m) (more e (one m)) (more m (one e))
put k e (more m ms) = let after = more m (put k e ms) in cond (ahead k e m) (more e (more m ms)) after

-- Put several.
abbrev pub merge : Bool → Members → Members → Members
merge k (one e) ms = put k e ms
merge k (more e es) ms = put k e (merge k es ms)

-- The same goals in the same order, in house form.
abbrev mutual
  pub restore : Expr → Expr
  restore (goal g) = goal g
  restore (join k e ms) = joined k (merge k (parts k (restore e)) (restore_m k ms))

  pub restore_m : Bool → Members → Members
  restore_m k (one e) = parts k (restore e)
  restore_m k (more e ms) = merge k (parts k (restore e)) (restore_m k ms)
