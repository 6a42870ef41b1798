-- The house form of an order R that has no N and goes from smaller numbers to larger, made by putting in one goal after another, the smallest first.
-- `form_is` in `proofs/Theorems.antt` says what it is, `form_unique` that there is no other.
use Rattle.std.specs.Prelude.{Bool, true, not, ◌&&◌, cond, List, [], ◌∷◌, ℕ, zero, suc}
use Rattle.std.specs.Bool.{beq}
use Rattle.expression.specs.Expr.{Expr, goal, join, Members, one, more}

-- The join of one or more members: one alone is itself.
abbrev pub joined : Bool → Members → Expr
joined k (one e) = e
joined k (more e ms) = join k e ms

-- e, and after it those of the members that pass the test.
abbrev pub pick : (Expr → Bool) → Expr → Members → Members
pick p e (one m) = cond (p m) (more e (one m)) (one e)
pick p e (more m ms) = let kept = more e (pick p m ms) in let left = pick p e ms in cond (p m) kept left

module _ (R : ℕ → ℕ → Bool) (v : ℕ) where
  -- The goal v, which is put in, is to every goal of e as to the other members of a k join: after all of them, or after none.
  abbrev mutual
    pub suits : Bool → Expr → Bool
    suits k (goal g) = beq (R g v) k
    suits k (join h e ms) = suits k e && suits_m k ms

    pub suits_m : Bool → Members → Bool
    suits_m k (one e) = suits k e
    suits_m k (more e ms) = suits k e && suits_m k ms

  -- e and those of ms that do not suit.
  abbrev pub unsuited : Bool → Expr → Members → Members
  unsuited k e ms = pick (λ m. not (suits k m)) e ms

  -- They stay joined the k way, and v is joined to them the other way.
  abbrev pub aside : Bool → Expr → Members → Expr
  aside k e ms = join (not k) (joined k (unsuited k e ms)) (one (goal v))

  -- After that come the members that suit.
  abbrev pub gather : Bool → Expr → Members → Members
  gather k e ms = pick (λ m. suits k m) (aside k e ms) ms

  -- Put v into an expression whose goals are all smaller. Members that suit stay; v goes into the only one that does not, or beside all those that do not.
  abbrev mutual
    pub insert : Expr → Expr
    insert (goal g) = join (R g v) (goal g) (one (goal v))
    insert (join k e ms) =
        let later = join k e (insert_m k ms) in
        let here = join k (insert e) ms in
        cond (suits k e) later (cond (suits_m k ms) here (joined k (gather k e ms)))

    pub insert_m : Bool → Members → Members
    insert_m k (one e) =
        let inside = one (insert e) in
        cond (suits k e) (more e (one (goal v))) inside
    insert_m k (more e ms) =
        let later = more e (insert_m k ms) in
        let here = more (insert e) ms in
        cond (suits k e) later (cond (suits_m k ms) here (gather k e ms))

-- The numbers of a list that pass the test p.
abbrev pub chosen : (ℕ → Bool) → List ℕ → List ℕ
chosen p [] = []
chosen p (x ∷ l) = let r = chosen p l in cond (p x) (x ∷ r) r

-- The numbers a, a + 1, ..: c of them.
abbrev pub up_from : ℕ → ℕ → List ℕ
up_from a zero = []
up_from a (suc c) = a ∷ up_from (suc a) c

module _ (R : ℕ → ℕ → Bool) where
  -- Put the goals of a list in, one after another.
  abbrev pub build : Expr → List ℕ → Expr
  build e [] = e
  build e (v ∷ l) = build (insert R v e) l

  -- The form of the goals of an ascending list; of none at all there is no form, and 0 stands for it.
  abbrev pub form_of : List ℕ → Expr
  form_of [] = goal 0
  form_of (g ∷ l) = build (goal g) l

  -- The form of those of the goals 1 to n that pass the test p.
  abbrev pub form_on : ℕ → (ℕ → Bool) → Expr
  form_on n p = form_of (chosen p (up_from 1 n))

  -- The form of the goals 1 to n.
  abbrev pub form : ℕ → Expr
  form n = form_on n (λ _. true)
