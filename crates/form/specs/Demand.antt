-- Demand 3, in 01's words. The record's order is the chain of waits, and an expression's order the one that 01 states.
use Rattle.std.specs.Prelude.{◌≡◌, List, ◌++◌, ◌⊎◌, ◌↔◌, ℕ, ◌≤◌, ◌<◌, length, drop}
use Rattle.std.proofs.Math.Option.{some}
use Rattle.record_fields.specs.Fields.{goal_count}
use Rattle.order.specs.Order as O
use Rattle.expression.specs.Expr.{Expr, UsesOnce, UsesFour, Goals, House}
use Rattle.expression.specs.Induced as I
use Rattle.expression.specs.Search.{Four, NotAfter}
use Rattle.expression.specs.Text.{form_limit, text}
use Rattle.record_rules.specs.Outcome.{refused, accepted}
use Rattle.form.specs.Form.{shown, form_answer, form_buffer}

-- 01: "It has the record's order if, for all goals i and j, it induces i before j exactly when the record has i before j."
abbrev pub HasOrder : List ℕ → Expr → Type 0
HasOrder b e = (i j : ℕ) → Goals (goal_count b) i → Goals (goal_count b) j → I.Before e i j ↔ O.Before b i j

-- an expression that uses each goal exactly once and has exactly the record's order
pub record Expresses (b : List ℕ) (e : Expr) : Type 0 where
  pub uses : UsesOnce (goal_count b) e
  pub order : HasOrder b e

-- 01: "goals a, b, c, d with a before c, b before c, b before d and no other order among the four"
pub record FourGoals (b : List ℕ) (q : Four) : Type 0 where
  pub goals : Goals (goal_count b) q.a × Goals (goal_count b) q.b × Goals (goal_count b) q.c × Goals (goal_count b) q.d
  pub distinct : (q.a ≡ q.b → ⊥) × (q.a ≡ q.c → ⊥) × (q.a ≡ q.d → ⊥) × (q.b ≡ q.c → ⊥) × (q.b ≡ q.d → ⊥) × (q.c ≡ q.d → ⊥)
  pub before : O.Before b q.a q.c × O.Before b q.b q.c × O.Before b q.b q.d
  pub no_ab : (O.Before b q.a q.b → ⊥) × (O.Before b q.b q.a → ⊥)
  pub no_ad : (O.Before b q.a q.d → ⊥) × (O.Before b q.d q.a → ⊥)
  pub no_cd : (O.Before b q.c q.d → ⊥) × (O.Before b q.d q.c → ⊥)
  pub no_back : (O.Before b q.c q.a → ⊥) × (O.Before b q.c q.b → ⊥) × (O.Before b q.d q.b → ⊥)

-- i is one of the four
abbrev pub OneOf : Four → ℕ → Type 0
OneOf q i = (i ≡ q.a) ⊎ ((i ≡ q.b) ⊎ ((i ≡ q.c) ⊎ (i ≡ q.d)))

-- 01: "For four goals the same is meant with those four alone."
pub record ExpressesFour (b : List ℕ) (q : Four) (e : Expr) : Type 0 where
  pub uses : UsesFour q.a q.b q.c q.d e
  pub order : (i j : ℕ) → OneOf q i → OneOf q j → I.Before e i j ↔ O.Before b i j

-- "No form": the four goals are the first such, and no expression of them alone has their order. The call answers 13 with them, whatever the buffer.
pub record NoForm (b : List ℕ) (q : Four) : Type 0 where
  pub shape : FourGoals b q
  pub first : (r : Four) → FourGoals b r → NotAfter q r
  pub alone : (e : Expr) → ExpressesFour b q e → ⊥
  pub answers : (buf : List ℕ) → (form_answer b buf ≡ refused 13 0) × (form_buffer b buf ≡ buf)
  pub shows : shown b ≡ some q

-- Otherwise: e is the house form of the record's order, and the only one. The call writes its text where the buffer holds it, and else names its length.
pub record HasForm (b : List ℕ) (e : Expr) : Type 0 where
  pub house : House e
  pub expresses : Expresses b e
  pub only : (e' : Expr) → House e' → Expresses b e' → e' ≡ e
  pub short : length (text e) ≤ form_limit
  pub writes : (buf : List ℕ) → length (text e) ≤ length buf
      → (form_answer b buf ≡ accepted (length (text e))) × (form_buffer b buf ≡ text e ++ drop (length (text e)) buf)
  pub names : (buf : List ℕ) → length buf < length (text e) → (form_answer b buf ≡ refused 12 (length (text e))) × (form_buffer b buf ≡ buf)

-- The call's answer to a buffer is `form_answer b buf`.
pub record Demand (b : List ℕ) : Type 0 where
  -- "no form", 13, exactly if no expression, however nested, uses each goal exactly once and has exactly the record's order
  pub exactly : (buf : List ℕ) → (form_answer b buf ≡ refused 13 0) ↔ ((e : Expr) → Expresses b e → ⊥)
  -- with it the first four goals
  pub without : (buf : List ℕ) → form_answer b buf ≡ refused 13 0 → (q : Four) × NoForm b q
  -- otherwise the form
  pub otherwise : (buf : List ℕ) → (form_answer b buf ≡ refused 13 0 → ⊥) → (e : Expr) × HasForm b e
