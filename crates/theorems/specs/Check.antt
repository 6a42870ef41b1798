-- What the check of an expression answers, in 01's words: "15 text empty or above 512 bytes (0); 16 not in the grammar, the limit on open parentheses included (..); 17 the
-- leftmost number above n or met before (its first byte), else a goal missing (the text's length). Then it says 'same', or 'differs' with the first i, then j, for which
-- just one of the two orders has i before j." No reader, scan or test is in it. The record's order is the chain of waits, and an expression's order the one that 01 states.
use Rattle.std.specs.Prelude.{◌≡◌, List, [], ◌⊎◌, ◌↔◌, ℕ, ◌≤◌, ◌<◌, length}
use Rattle.record_fields.specs.Fields.{goal_count}
use Rattle.order.specs.Order as O
use Rattle.expression.specs.Expr.{Expr, UsesOnce, Goals}
use Rattle.expression.specs.Induced as I
use Rattle.form.specs.Demand.{Expresses}
use Rattle.expression_grammar.specs.Grammar.{Text, BadAt}
use Rattle.record_rules.specs.Outcome.{Outcome, refused, accepted}
use Rattle.expression_grammar.specs.TextRules.{open_limit, expression_limit}
use Rattle.expression_grammar.specs.Check.{Verdict, same, differs}
use Rattle.annotator.specs.Answers.{check}
use Rattle.expression_grammar.specs.Occurrences.{Misused}

-- 1 to 512 bytes
abbrev pub Sized : List ℕ → Type 0
Sized t = (1 ≤ length t) × (length t ≤ expression_limit)

-- "just one of the two orders has i before j"
abbrev pub JustOne : List ℕ → Expr → ℕ → ℕ → Type 0
JustOne b e i j = (I.Before e i j × (O.Before b i j → ⊥)) ⊎ ((I.Before e i j → ⊥) × O.Before b i j)

-- "the first i, then j," of the goals 1 to n
pub record FirstDifference (b : List ℕ) (e : Expr) (i j : ℕ) : Type 0 where
  pub goals : Goals (goal_count b) i × Goals (goal_count b) j
  pub just_one : JustOne b e i j
  pub first : (p q : ℕ) → Goals (goal_count b) p → Goals (goal_count b) q → JustOne b e p q → (i < p) ⊎ ((i ≡ p) × (j ≤ q))

-- The five cases ..
pub data Case : Type 0 where
  refused_15 : Case
  refused_16 : ℕ → Case
  refused_17 : ℕ → Case
  says_same : Case
  says_differs : ℕ → ℕ → Case

-- .. the answer of each ..
abbrev pub answer : Case → Outcome Verdict
answer refused_15 = refused 15 0
answer (refused_16 p) = refused 16 p
answer (refused_17 p) = refused 17 p
answer says_same = accepted same
answer (says_differs i j) = accepted (differs i j)

-- .. and when it applies, for the record b and the text t.
abbrev pub Applies : List ℕ → List ℕ → Case → Type 0
Applies b t refused_15 = (t ≡ []) ⊎ (expression_limit < length t)
Applies b t (refused_16 p) = Sized t × BadAt open_limit t p
Applies b t (refused_17 p) = Sized t × Misused (goal_count b) t p
Applies b t says_same = Sized t × ((e : Expr) × Text open_limit t e × Expresses b e)
Applies b t (says_differs i j) = Sized t × ((e : Expr) × Text open_limit t e × UsesOnce (goal_count b) e × FirstDifference b e i j)

-- The check in words: each answer is given exactly if its case applies; one case applies, and only one.
pub record CheckSays (b t : List ℕ) : Type 0 where
  pub exactly : (c : Case) → (check b t ≡ answer c) ↔ Applies b t c
  pub one_case : (c : Case) × Applies b t c
  pub only_case : (c c' : Case) → Applies b t c → Applies b t c' → c ≡ c'
