-- The house form of any strict order with no N, also against the numbers: the goals are put into a row that respects the order, the form of the places in the row is
-- made, the goals are written for the places, and house form is restored. `form_any_lem` in `proofs/Theorems.antt` says what it is.
use Rattle.std.specs.Prelude.{◌≡◌, Bool, true, false, cond, List, [], ◌∷◌, ℕ, zero, suc, length}
use Rattle.expression.specs.Expr.{Expr, goal, join, Members, one, more}
use Rattle.expression.specs.Form.{form, chosen, up_from}
use Rattle.expression.specs.Restore.{restore}

-- R is a strict order on the set S; it may go against the numbers. Outside of S nothing is asked of it.
pub record Strict (R : ℕ → ℕ → Bool) (S : ℕ → Type 0) : Type 0 where
  pub unlike : (i : ℕ) → S i → R i i ≡ false
  pub chained : (i j k : ℕ) → S i → S j → S k → R i j ≡ true → R j k ≡ true → R i k ≡ true

-- Other numbers written for those of an expression.
module _ (f : ℕ → ℕ) where
  abbrev mutual
    pub rename : Expr → Expr
    rename (goal g) = goal (f g)
    rename (join k e ms) = join k (rename e) (rename_m ms)

    pub rename_m : Members → Members
    rename_m (one e) = one (rename e)
    rename_m (more e ms) = more (rename e) (rename_m ms)

-- The number at a place of a list, the first at 0.
abbrev pub at : List ℕ → ℕ → ℕ
at [] i = 0
at (x ∷ l) zero = x
at (x ∷ l) (suc i) = at l i

-- The number at a place, the first at 1.
abbrev pub row : List ℕ → ℕ → ℕ
row l = at (0 ∷ l)

module _ (R : ℕ → ℕ → Bool) where
  -- The order of the places of a list.
  abbrev pub along : List ℕ → ℕ → ℕ → Bool
  along l i j = R (row l i) (row l j)

  -- Place v in front of the first that comes after it in the order.
  abbrev pub place : ℕ → List ℕ → List ℕ
  place v [] = v ∷ []
  place v (x ∷ l) = let on = x ∷ place v l in cond (R v x) (v ∷ x ∷ l) on

  -- All numbers of a list, so that none stands behind one that it comes before.
  abbrev pub arrange : List ℕ → List ℕ
  arrange [] = []
  arrange (x ∷ l) = place x (arrange l)

  -- The form of the numbers of a row: the form of its places, with the numbers written for them.
  abbrev pub form_row : List ℕ → Expr
  form_row l = restore (rename (row l) (form (along l) (length l)))

  -- The form of the numbers of a list, each of which stands in it once.
  abbrev pub form_list : List ℕ → Expr
  form_list l = form_row (arrange l)

  -- The form of those of the goals 1 to n that pass the test p.
  abbrev pub form_on_any : ℕ → (ℕ → Bool) → Expr
  form_on_any n p = form_list (chosen p (up_from 1 n))

  -- The form of the goals 1 to n.
  abbrev pub form_any : ℕ → Expr
  form_any n = form_on_any n (λ _. true)
