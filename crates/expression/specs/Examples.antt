-- Examples of orders and house forms; they hold by computation.
use Rattle.std.specs.Prelude.{◌≡◌, refl, true, false, ◌&&◌, [], ◌∷◌, ◌%◌, eqb, ltb, length}
use Rattle.buffer.specs.Decimal.{decimal, decimal_to}
use Rattle.expression.specs.Expr.{Expr, goal, join, one, more, before}
use Rattle.expression.specs.Text.{text}
use Rattle.expression.specs.Restore.{restore}
use Rattle.expression.specs.Arrange.{form_any, form_list}

-- (1,3)&2 has 1 before 3 and nothing else
abbrev small : Expr
small = join false (join true (goal 1) (one (goal 3))) (one (goal 2))

orders : (before small 1 3 ≡ true) × (before small 3 1 ≡ false) × (before small 1 2 ≡ false) × (before small 2 3 ≡ false)
orders = (refl, refl, refl, refl)

-- 3&(2&1) becomes 1&2&3; (3,2),1 becomes 3,2,1; 4&(3,(2,1))&5 becomes (3,2,1)&4&5
restored
    : (text (restore (join false (goal 3) (one (join false (goal 2) (one (goal 1)))))) ≡ 49 ∷ 38 ∷ 50 ∷ 38 ∷ 51 ∷ [])
    × (text (restore (join true (join true (goal 3) (one (goal 2))) (one (goal 1)))) ≡ 51 ∷ 44 ∷ 50 ∷ 44 ∷ 49 ∷ [])
    × (text (restore (join false (goal 4) (more (join true (goal 3) (one (join true (goal 2) (one (goal 1))))) (one (goal 5)))))
    ≡ 40 ∷ 51 ∷ 44 ∷ 50 ∷ 44 ∷ 49 ∷ 41 ∷ 38 ∷ 52 ∷ 38 ∷ 53 ∷ [])
unfolding decimal decimal_to
restored = (refl, refl, refl)

-- 3 before 1, and 2 beside: (3,1)&2; all backwards: 4,3,2,1; three goals of a list, 9 before 4: (9,4)&7; 32 goals
against-numbers
    : (text (form_any (λ i j. eqb i 3 && eqb j 1) 3) ≡ 40 ∷ 51 ∷ 44 ∷ 49 ∷ 41 ∷ 38 ∷ 50 ∷ [])
    × (text (form_any (λ i j. ltb j i) 4) ≡ 52 ∷ 44 ∷ 51 ∷ 44 ∷ 50 ∷ 44 ∷ 49 ∷ [])
    × (text (form_list (λ i j. eqb i 9 && eqb j 4) (4 ∷ 7 ∷ 9 ∷ [])) ≡ 40 ∷ 57 ∷ 44 ∷ 52 ∷ 41 ∷ 38 ∷ 55 ∷ [])
    × (length (text (form_any (λ i j. ltb j i && eqb (j % 2) 1) 32)) ≡ 146)
unfolding decimal decimal_to
against-numbers = (refl, refl, refl, refl)
