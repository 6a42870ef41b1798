-- Finite sets, as lists.
use Rattle.std.specs.Prelude.{◌≡◌, Bool, true, false, not, ◌&&◌, ◌||◌, cond, List, [], ◌∷◌, ◌⊎◌, ℕ, eqb}

module _ {A : Type 0} where
  -- x stands in the list.
  infix 4 ◌is_in◌
  abbrev pub ◌is_in◌ : A → List A → Type 0
  x is_in [] = ⊥
  x is_in (y ∷ l) = (x ≡ y) ⊎ (x is_in l)

  -- All of the list pass the test p; one does; those that do.
  abbrev pub every : (A → Bool) → List A → Bool
  every p [] = true
  every p (x ∷ l) = p x && every p l

  abbrev pub any : (A → Bool) → List A → Bool
  any p [] = false
  any p (x ∷ l) = p x || any p l

  abbrev pub those : (A → Bool) → List A → List A
  those p [] = []
  those p (x ∷ l) = let r = those p l in cond (p x) (x ∷ r) r

-- Two sets of vertices do not intersect; the one is a subset of the other.
abbrev pub Disjoint : List ℕ → List ℕ → Type 0
Disjoint a b = (x : ℕ) → x is_in a → x is_in b → ⊥

abbrev pub Subset : List ℕ → List ℕ → Type 0
Subset a b = (x : ℕ) → x is_in a → x is_in b

-- Tests of sets of vertices: x is in a; a is a subset of b; a subset and not all of b; they do not intersect; they are the same.
abbrev pub among : ℕ → List ℕ → Bool
among x a = any (eqb x) a

abbrev pub subset : List ℕ → List ℕ → Bool
subset a b = every (λ x. among x b) a

abbrev pub inside : List ℕ → List ℕ → Bool
inside a b = subset a b && not (subset b a)

abbrev pub disjoint : List ℕ → List ℕ → Bool
disjoint a b = every (λ x. not (among x b)) a

abbrev pub same : List ℕ → List ℕ → Bool
same a b = subset a b && subset b a

-- A list of sets, each kept once.
abbrev pub distinct : List (List ℕ) → List (List ℕ)
distinct [] = []
distinct (s ∷ l) = let r = distinct l in cond (any (same s) r) r (s ∷ r)
