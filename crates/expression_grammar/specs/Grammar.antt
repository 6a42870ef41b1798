-- "Text accepted by the check": the grammar, as the paper words it. No reader is in it; `proofs/Theorems.antt` says which texts the reader takes.
use Rattle.std.specs.Prelude.{◌≡◌, Bool, true, false, ◌⊎◌, List, [], ◌∷◌, ◌++◌, ℕ, suc, ◌+◌, ◌*◌, ◌≤◌, ◌<◌, length, take}
use Rattle.expression.specs.Expr.{Expr, goal, join, Members, one, more}
use Rattle.expression.specs.Text.{mark}

-- "A number is a digit 1 to 9, then at most one further digit." (48 is `0`.)
pub data Number : List ℕ → ℕ → Type 0 where
  single : (v : ℕ) → 1 ≤ v → v < 10 → Number ((48 + v) ∷ []) v
  double : (v w : ℕ) → 1 ≤ v → v < 10 → w < 10 → Number ((48 + v) ∷ (48 + w) ∷ []) (10 * v + w)

-- "A sequence is groups joined by `,`; a group is primaries joined by `&`; a primary is a number, or a sequence in parentheses. Spare parentheses
-- are allowed." `Joined k d t e`: t, in which at most d parentheses are open at a time, is a text of e: for k = true a sequence, for k = false a group.
-- `Member true` is a group, as a member of a sequence; `Member false` is a primary, as a member of a group. `mark true` is `,`, `mark false` is `&`.
mutual
  pub data Joined : Bool → ℕ → List ℕ → Expr → Type 0 where
    -- one member alone is that member
    alone : {k : Bool} {d : ℕ} {t : List ℕ} {e : Expr} → Member k d t e → Joined k d t e
    -- two or more make a join
    several : {k : Bool} {d : ℕ} {t u w : List ℕ} {e : Expr} {ms : Members} → Member k d u e → Others k d w ms → t ≡ u ++ (mark k ∷ w) → Joined k d t (join k e ms)

  pub data Others : Bool → ℕ → List ℕ → Members → Type 0 where
    last : {k : Bool} {d : ℕ} {t : List ℕ} {e : Expr} → Member k d t e → Others k d t (one e)
    next : {k : Bool} {d : ℕ} {t u w : List ℕ} {e : Expr} {ms : Members} → Member k d u e → Others k d w ms → t ≡ u ++ (mark k ∷ w) → Others k d t (more e ms)

  pub data Member : Bool → ℕ → List ℕ → Expr → Type 0 where
    group : {d : ℕ} {t : List ℕ} {e : Expr} → Joined false d t e → Member true d t e
    number : {d : ℕ} {t : List ℕ} {n : ℕ} → Number t n → Member false d t (goal n)
    -- `(` and `)`
    parens : {d : ℕ} {t u : List ℕ} {e : Expr} → Joined true d u e → t ≡ 40 ∷ (u ++ (41 ∷ [])) → Member false (suc d) t e

-- t is a text of e. "At most 32 parentheses may be open at a time": d is 32 for the check.
abbrev pub Text : ℕ → List ℕ → Expr → Type 0
Text d t e = Joined true d t e

-- t is in the grammar.
abbrev pub Grammatical : ℕ → List ℕ → Type 0
Grammatical d t = (e : Expr) × Text d t e

-- Some text of the grammar, of any length, begins with p.
abbrev pub Begins : ℕ → List ℕ → Type 0
Begins d p = (q : List ℕ) × Grammatical d (p ++ q)

-- The place k of refusal 16: t is "not in the grammar", and k is "the first byte with which no text of the grammar, of any length, goes on, or the
-- text's length if it stops early".
pub record BadAt (d : ℕ) (t : List ℕ) (k : ℕ) : Type 0 where
  pub begins : Begins d (take k t)
  pub stops : ((k ≡ length t) × (Grammatical d t → ⊥)) ⊎ ((k < length t) × (Begins d (take (suc k) t) → ⊥))
