-- The numbers of a text of the grammar, each with the place of its first byte, as the grammar reads them; and refusal 17 in 01's words: "the leftmost number above n or
-- met before (its first byte), else a goal missing (the text's length)". Nothing here computes; `proofs/Misuses.antt` shows that `misuse` of `Numbers.antt` is this.
use Rattle.std.specs.Prelude.{◌≡◌, Bool, List, [], ◌∷◌, ◌++◌, ◌⊎◌, ℕ, suc, ◌+◌, ◌≤◌, ◌<◌, length}
use Rattle.expression_grammar.specs.TextRules.{open_limit}
use Rattle.expression.specs.Expr.{Expr, Members, Goals, times}
use Rattle.expression_grammar.specs.Grammar.{Number, Joined, alone, several, Others, last, next, Member, group, number, parens, Text}

-- In a text that the grammar reads so, and whose first byte is at the place `at`, the number v stands with its first byte at the place p. One clause for each rule of the
-- grammar: only the rule `number` brings a number; in `u , w` and `u & w` the part w begins behind u and the mark, in `( u )` the part u begins behind the parenthesis.
abbrev mutual
  pub InJoined : {k : Bool} {d : ℕ} {t : List ℕ} {e : Expr} → Joined k d t e → ℕ → ℕ → ℕ → Type 0
  InJoined (alone m) at p v = InMember m at p v
  InJoined (several {u = u} m o q) at p v = InMember m at p v ⊎ InOthers o (suc (at + length u)) p v

  pub InOthers : {k : Bool} {d : ℕ} {t : List ℕ} {ms : Members} → Others k d t ms → ℕ → ℕ → ℕ → Type 0
  InOthers (last m) at p v = InMember m at p v
  InOthers (next {u = u} m o q) at p v = InMember m at p v ⊎ InOthers o (suc (at + length u)) p v

  pub InMember : {k : Bool} {d : ℕ} {t : List ℕ} {e : Expr} → Member k d t e → ℕ → ℕ → ℕ → Type 0
  InMember (group j) at p v = InJoined j at p v
  InMember (number {n = n} j) at p v = (p ≡ at) × (v ≡ n)
  InMember (parens j q) at p v = InJoined j (suc at) p v

-- In the text that is read so, the number v stands with its first byte at the place p.
abbrev pub NumberAt : {d : ℕ} {t : List ℕ} {e : Expr} → Text d t e → ℕ → ℕ → Type 0
NumberAt j p v = InJoined j 0 p v

-- The same said of the bytes alone, `number-run` of proofs/Runs.antt: at the place p is a run of digits that spells v, with no digit just before it or just behind it.
abbrev pub Digit : ℕ → Type 0
Digit x = (48 ≤ x) × (x ≤ 57)

pub record NumberRun (t : List ℕ) (p v : ℕ) : Type 0 where
  pub left : List ℕ
  pub digits : List ℕ
  pub right : List ℕ
  pub split : t ≡ left ++ (digits ++ right)
  pub place : p ≡ length left
  pub number : Number digits v
  pub starts : (l : List ℕ) (x : ℕ) → left ≡ l ++ (x ∷ []) → Digit x → ⊥
  pub ends : (x : ℕ) (r : List ℕ) → right ≡ x ∷ r → Digit x → ⊥

-- At the place p stands a number "above n or met before": one of the same value stands further left. N p v: the number v stands at p.
abbrev pub Wrong : ℕ → (ℕ → ℕ → Type 0) → ℕ → Type 0
Wrong n N p = (v : ℕ) × N p v × ((n < v) ⊎ ((q : ℕ) × (q < p) × N q v))

-- "the leftmost" such
pub record Leftmost (n : ℕ) (N : ℕ → ℕ → Type 0) (p : ℕ) : Type 0 where
  pub wrong : Wrong n N p
  pub leftmost : (q : ℕ) → q < p → Wrong n N q → ⊥

-- "else a goal missing (the text's length)"
pub record Missing (n : ℕ) (N : ℕ → ℕ → Type 0) (t : List ℕ) (e : Expr) (p : ℕ) : Type 0 where
  pub none_wrong : (q : ℕ) → Wrong n N q → ⊥
  pub goal : ℕ
  pub is_goal : Goals n goal
  pub stands_not : times e goal ≡ 0
  pub place : p ≡ length t

-- Refusal 17 for n goals at the place p.
abbrev pub Misuse : (n : ℕ) {d : ℕ} {t : List ℕ} {e : Expr} → Text d t e → ℕ → Type 0
Misuse n {t = t} {e = e} j p = Leftmost n (NumberAt j) p ⊎ Missing n (NumberAt j) t e p

-- 17 at the place p, for n goals: the text is in the grammar, and its numbers are misused so.
abbrev pub Misused : ℕ → List ℕ → ℕ → Type 0
Misused n t p = (e : Expr) × (j : Text open_limit t e) × Misuse n j p
