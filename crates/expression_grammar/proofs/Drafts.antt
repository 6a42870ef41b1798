-- Drafts of refusal 17, each shown from the words alone: no scan and no test is computed.
--     one-twice      "`1,1`: 17 at 2", for two goals
--     one-alone      "`1` with two goals: 17 at 1"
--     too_high       `2,12&1` for two goals: 17 at 2, the place of 12, whose digit 2 is no number
--     fine           `12` for twelve goals: no number is above n or met before; goal 1 is missing, 17 at 2
use mathlib.Core.Path.{refl}
use mathlib.Core.Bool.{true, false}
use mathlib.Core.List.{[], ◌∷◌}
use mathlib.Core.Logic.{inl, inr}
use Prim.Native.Nat.{ℕ, ◌<◌}
use native.Mathlib.Omega.{arith}
use Rattle.expression_grammar.specs.TextRules.{open_limit}
use Rattle.expression.specs.Expr.{goal, join, one}
use Rattle.expression_grammar.specs.Grammar.{Number, single, double, alone, several, last, group, number, Text}
use Rattle.expression_grammar.specs.Occurrences.{NumberAt, Wrong, Misused}

one_is : Number (49 ∷ []) 1
one_is = single 1 (omega arith) (omega arith)

two_is : Number (50 ∷ []) 2
two_is = single 2 (omega arith) (omega arith)

twelve_is : Number (49 ∷ 50 ∷ []) 12
twelve_is = double 1 2 (omega arith) (omega arith) (omega arith)

-- 1,1
abbrev one_one : Text open_limit (49 ∷ 44 ∷ 49 ∷ []) (join true (goal 1) (one (goal 1)))
one_one = several (group (alone (number one_is))) (last (group (alone (number one_is)))) refl

pub one-twice : Misused 2 (49 ∷ 44 ∷ 49 ∷ []) 2
one-twice = (join true (goal 1) (one (goal 1)), one_one, inl (record { wrong = (1, inr (refl, refl), inr (0, omega arith, inl (refl, refl))); leftmost = none_before }))
  where
    none_before : (q : ℕ) → q < 2 → Wrong 2 (NumberAt one_one) q → ⊥
    none_before q l (v, inl i, inl a) = omega (arith, i.1)
    none_before q l (v, inl i, inr (p, m, inl a)) = omega (arith, i.0)
    none_before q l (v, inl i, inr (p, m, inr a)) = omega (arith, i.0)
    none_before q l (v, inr i, a) = omega (arith, i.0)

-- 1
abbrev single_one : Text open_limit (49 ∷ []) (goal 1)
single_one = alone (group (alone (number one_is)))

pub one-alone : Misused 2 (49 ∷ []) 1
one-alone = (goal 1, single_one, inr (record { none_wrong = none_wrong; goal = 2; is_goal = (omega arith, omega arith); stands_not = refl; place = refl }))
  where
    none_wrong : (q : ℕ) → Wrong 2 (NumberAt single_one) q → ⊥
    none_wrong q (v, i, inl a) = omega (arith, i.1)
    none_wrong q (v, i, inr (p, m, a)) = omega (arith, i.0)

-- 2,12&1
abbrev mixed : Text open_limit (50 ∷ 44 ∷ 49 ∷ 50 ∷ 38 ∷ 49 ∷ []) (join true (goal 2) (one (join false (goal 12) (one (goal 1)))))
mixed = several {u = 50 ∷ []} {w = 49 ∷ 50 ∷ 38 ∷ 49 ∷ []} (group (alone (number two_is))) (last (group (several (number twelve_is) (last (number one_is)) refl))) refl

pub too_high : Misused 2 (50 ∷ 44 ∷ 49 ∷ 50 ∷ 38 ∷ 49 ∷ []) 2
too_high = (join true (goal 2) (one (join false (goal 12) (one (goal 1)))), mixed, inl (record { wrong = (12, inr (inl (refl, refl)), inl (omega arith)); leftmost = none_before }))
  where
    none_before : (q : ℕ) → q < 2 → Wrong 2 (NumberAt mixed) q → ⊥
    none_before q l (v, inl i, inl a) = omega (arith, i.1)
    none_before q l (v, inl i, inr (p, m, inl a)) = omega (arith, i.0)
    none_before q l (v, inl i, inr (p, m, inr (inl a))) = omega (arith, i.0, a.0)
    none_before q l (v, inl i, inr (p, m, inr (inr a))) = omega (arith, i.0, a.0)
    none_before q l (v, inr (inl i), a) = omega (arith, i.0)
    none_before q l (v, inr (inr i), a) = omega (arith, i.0)

-- 12
abbrev twelve : Text open_limit (49 ∷ 50 ∷ []) (goal 12)
twelve = alone (group (alone (number twelve_is)))

pub fine : Misused 12 (49 ∷ 50 ∷ []) 2
fine = (goal 12, twelve, inr (record { none_wrong = none_wrong; goal = 1; is_goal = (omega arith, omega arith); stands_not = refl; place = refl }))
  where
    none_wrong : (q : ℕ) → Wrong 12 (NumberAt twelve) q → ⊥
    none_wrong q (v, i, inl a) = omega (arith, i.1)
    none_wrong q (v, i, inr (p, m, a)) = omega (arith, i.0)
