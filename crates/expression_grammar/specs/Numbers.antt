-- The numbers of a text from left to right with their places, and refusal 17: "the leftmost number above n or met before (its first byte), else a goal
-- missing (the text's length)".
use Rattle.std.specs.Prelude.{Bool, false, ◌||◌, cond, List, [], ◌∷◌, ℕ, zero, suc, ◌+◌, ◌*◌, eqb, ltb, length}
use Rattle.std.proofs.Math.Option.{Option, none, some}
use Rattle.expression.specs.Expr.{Expr, times}
use Rattle.expression.specs.Search.{or_else}
use Rattle.expression_grammar.specs.Reader.{Sign, digit, joiner, opener, closer, other, sign}

-- A number and the place of its first byte.
pub record Found : Type 0 where
  pub value : ℕ
  pub place : ℕ

abbrev pub found : ℕ → ℕ → Found
found v p = record { value = v; place = p }

-- `scan t at o`: the numbers of t, whose first byte is at the place at; o is the number whose first digit stands just before it, if any.
abbrev pub fresh : Sign → ℕ → Option Found
fresh (digit v) at = some (found v at)
fresh (joiner k) at = none
fresh opener at = none
fresh closer at = none
fresh other at = none

abbrev pub grown : Found → Sign → Found
grown x (digit w) = found (10 * x.value + w) x.place
grown x (joiner k) = x
grown x opener = x
grown x closer = x
grown x other = x

abbrev pub scan : List ℕ → ℕ → Option Found → List Found
scan [] at none = []
scan [] at (some x) = x ∷ []
scan (b ∷ t) at none = scan t (suc at) (fresh (sign b) at)
scan (b ∷ t) at (some x) = grown x (sign b) ∷ scan t (suc at) none

abbrev pub numbers : List ℕ → List Found
numbers t = scan t 0 none

-- v is among them.
abbrev pub among : ℕ → List ℕ → Bool
among v [] = false
among v (w ∷ l) = eqb v w || among v l

-- The place of the first number above n or met before.
abbrev pub fault : ℕ → List ℕ → List Found → Option ℕ
fault n met [] = none
fault n met (x ∷ l) = let r = fault n (x.value ∷ met) l in cond (ltb n x.value || among x.value met) (some x.place) r

-- Some number from 1 to n does not stand in e.
abbrev pub missing : ℕ → Expr → Bool
missing zero e = false
missing (suc n) e = eqb (times e (suc n)) 0 || missing n e

-- The place of refusal 17 for the text t of e.
abbrev pub misuse : ℕ → List ℕ → Expr → Option ℕ
misuse n t e = or_else (fault n [] (numbers t)) (cond (missing n e) (some (length t)) none)
