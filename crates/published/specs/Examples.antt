-- Document 003, section 2.4: its three examples, by computation. The letters A, B, C, .. are the goals 1, 2, 3, ..
use Rattle.std.specs.Prelude.{◌≡◌, refl, Bool, true, false, ◌&&◌, ◌||◌, List, [], ◌∷◌, ℕ, eqb}
use Rattle.std.proofs.Math.Option.{none, some}
use Rattle.buffer.specs.Decimal.{decimal, decimal_to}
use Rattle.expression.specs.Expr.{goal, join, one}
use Rattle.expression.specs.Text.{text}
use Rattle.expression.specs.Restore.{restore}
use Rattle.expression.specs.Arrange.{form_any}
use Rattle.expression.specs.Search.{first_n}
use Rattle.published.specs.Figure1.{P, Q, E, S, F, lemma1, lemma3, figure1}
use Rattle.published.specs.Linear.{udg_expr}

-- The edges of a list of pairs.
abbrev edges : List (ℕ × ℕ) → ℕ → ℕ → Bool
edges [] i j = false
edges (p ∷ l) i j = (eqb i p.0 && eqb j p.1) || edges l i j

-- Figure 2(a), (b), (c), closed under transitivity.
abbrev pub graph_a : ℕ → ℕ → Bool
graph_a = edges ((1, 2) ∷ (1, 3) ∷ (1, 4) ∷ (2, 4) ∷ (3, 4) ∷ [])

abbrev pub graph_b : ℕ → ℕ → Bool
graph_b = edges ((1, 2) ∷ (3, 2) ∷ (3, 5) ∷ (4, 5) ∷ [])

abbrev pub graph_c : ℕ → ℕ → Bool
graph_c = edges ((1, 2) ∷ (1, 4) ∷ (3, 4) ∷ [])

abbrev four : List ℕ
four = 1 ∷ 2 ∷ 3 ∷ 4 ∷ []

abbrev five : List ℕ
five = 1 ∷ 2 ∷ 3 ∷ 4 ∷ 5 ∷ []

-- The sets as the document gives them.
steps-a
    : (P graph_a four ≡ 1 ∷ []) × (Q graph_a four ≡ 2 ∷ 3 ∷ 4 ∷ []) × (S graph_a four ≡ (1 ∷ []) ∷ [])
    × (F graph_a four (1 ∷ []) ≡ 2 ∷ 3 ∷ 4 ∷ [])
    × (P graph_a (2 ∷ 3 ∷ 4 ∷ []) ≡ 2 ∷ 3 ∷ []) × (S graph_a (2 ∷ 3 ∷ 4 ∷ []) ≡ (2 ∷ 3 ∷ []) ∷ [])
    × (F graph_a (2 ∷ 3 ∷ 4 ∷ []) (2 ∷ 3 ∷ []) ≡ 4 ∷ [])
steps-a = (refl, refl, refl, refl, refl, refl, refl)

steps-b
    : (P graph_b five ≡ 1 ∷ 3 ∷ 4 ∷ []) × (E graph_b five 2 ≡ 1 ∷ 3 ∷ []) × (E graph_b five 5 ≡ 3 ∷ 4 ∷ [])
    × (S graph_b five ≡ (1 ∷ 3 ∷ []) ∷ (3 ∷ 4 ∷ []) ∷ []) × (lemma1 graph_b five ≡ false)
steps-b = (refl, refl, refl, refl, refl)

-- The document gives F({A}) = {B, D}, against its definition of F: D waits for C too.
steps-c
    : (P graph_c four ≡ 1 ∷ 3 ∷ []) × (S graph_c four ≡ (1 ∷ []) ∷ (1 ∷ 3 ∷ []) ∷ []) × (lemma1 graph_c four ≡ true)
    × (F graph_c four (1 ∷ []) ≡ 2 ∷ []) × (F graph_c four (1 ∷ 3 ∷ []) ≡ 4 ∷ []) × (lemma3 graph_c four ≡ false)
steps-c = (refl, refl, refl, refl, refl, refl)

-- The first has a form, A,(B&C),D; the second and the third are refused, with their first four goals.
examples
    : (figure1 graph_a 4 ≡ true)
    × (first_n graph_a 4 ≡ none)
    × (udg_expr graph_a 4 ≡ join true (goal 1) (one (join true (join false (goal 2) (one (goal 3))) (one (goal 4)))))
    × (text (restore (udg_expr graph_a 4)) ≡ 49 ∷ 44 ∷ 40 ∷ 50 ∷ 38 ∷ 51 ∷ 41 ∷ 44 ∷ 52 ∷ [])
    × (text (form_any graph_a 4) ≡ 49 ∷ 44 ∷ 40 ∷ 50 ∷ 38 ∷ 51 ∷ 41 ∷ 44 ∷ 52 ∷ [])
    × (figure1 graph_b 5 ≡ false)
    × (first_n graph_b 5 ≡ some (record { a = 1; b = 3; c = 2; d = 5 }))
    × (figure1 graph_c 4 ≡ false)
    × (first_n graph_c 4 ≡ some (record { a = 3; b = 1; c = 4; d = 2 }))
unfolding decimal decimal_to
examples = (refl, refl, refl, refl, refl, refl, refl, refl, refl)

-- Nested sets, ((1,3)&2),4; a vertex of P in no set, 1&(2,3); no vertex waits, 1&2&3.
abbrev nested : ℕ → ℕ → Bool
nested = edges ((1, 3) ∷ (1, 4) ∷ (2, 4) ∷ (3, 4) ∷ [])

others
    : (S nested four ≡ (1 ∷ []) ∷ (1 ∷ 2 ∷ []) ∷ [])
    × (figure1 nested 4 ≡ true)
    × (text (udg_expr nested 4) ≡ 40 ∷ 40 ∷ 49 ∷ 44 ∷ 51 ∷ 41 ∷ 38 ∷ 50 ∷ 41 ∷ 44 ∷ 52 ∷ [])
    × (figure1 (edges ((2, 3) ∷ [])) 3 ≡ true)
    × (text (udg_expr (edges ((2, 3) ∷ [])) 3) ≡ 40 ∷ 50 ∷ 44 ∷ 51 ∷ 41 ∷ 38 ∷ 49 ∷ [])
    × (text (restore (udg_expr (edges ((2, 3) ∷ [])) 3)) ≡ 49 ∷ 38 ∷ 40 ∷ 50 ∷ 44 ∷ 51 ∷ 41 ∷ [])
    × (figure1 (edges []) 3 ≡ true)
    × (text (udg_expr (edges []) 3) ≡ 49 ∷ 38 ∷ 50 ∷ 38 ∷ 51 ∷ [])
unfolding decimal decimal_to
others = (refl, refl, refl, refl, refl, refl, refl, refl)
