-- What the readers of numbers promise: the way of the grammar's reader over the text, and the numbers and the order of what is read.
use Rattle.std.specs.Prelude.{◌≡◌, true, false, ◌||◌, cond, Result, Ok, Err, List, ℕ, zero, suc, ◌+◌, ◌-◌, ◌<◌, ◌≤◌, leb, length, get_or, drop}
use Rattle.expression_grammar.specs.TextRules.{open_limit}
use Rattle.sets.specs.Sets.{has, single}
use Rattle.graph.specs.Graph.{behind, Words}
use Rattle.expression.specs.Expr.{Expr, goal, join, times, stands, before}
use Rattle.expression_grammar.specs.Reader.{Front, Level, Phase, due, done, State, state, stops, run}
use Rattle.expression_number.specs.declared.Kind.{Kind}
use Rattle.expression_number.specs.declared.Kind.TheVariants.{Goal, Group as Groups, Sequence as Sequences}
use Rattle.expression_number.specs.declared.Node.{Node}

-- the set of the number v, of those up to w
abbrev pub mask_of : ℕ → ℕ → ℕ
mask_of w v = cond (leb v w) (single (v - 1)) 0

-- not 0 if v is above w
abbrev pub extra_of : ℕ → ℕ → ℕ
extra_of w v = cond (leb v w) 0 1

-- the goal v, which ends before the place e
abbrev pub found : ℕ → ℕ → ℕ → Node
found w v e = record { kind = Goal; set = mask_of w v; extra = extra_of w v; end = e }

abbrev pub kind_of : Expr → Kind
kind_of (goal g) = Goal
kind_of (join true e ms) = Sequences
kind_of (join false e ms) = Groups

-- how often the number v is in a set, where bit i stands for i + 1: once or never
abbrev pub bit : ℕ → ℕ → ℕ
bit set zero = 0
bit set (suc i) = cond (has set i) 1 0

-- The node and the rows tell of x: its kind, the numbers up to w that stand in it, that they stand in it once and no other does if `extra` is 0,
-- and its order beside the rows from before; the rows are turned round.
pub record Told (w : ℕ) (x : Expr) (rows : List ℕ) (kind : Kind) (set extra : ℕ) (now : List ℕ) : Type 0 where
  pub kinds : kind ≡ kind_of x
  pub stand : (i : ℕ) → i < w → has set i ≡ stands x (suc i)
  pub once : extra ≡ 0 → (v : ℕ) → times x v ≤ bit set v
  pub order : (i j : ℕ) → i < w → j < w → behind now (suc i) (suc j) ≡ (behind rows (suc i) (suc j) || before x (suc i) (suc j))
  pub words : Words w now

-- from the place a in the state x the reader comes to the place e in the state y; it refuses at p
abbrev pub Comes : List ℕ → ℕ → State → ℕ → State → Type 0
Comes s a x e y = run (drop a s) a x ≡ run (drop e s) e y

abbrev pub Refuses : List ℕ → ℕ → State → ℕ → Type 0
Refuses s a x p = run (drop a s) a x ≡ stops p

-- A reader's answer at the place a, with `depth` parentheses open: where the grammar's reader refuses; or where it comes to, with an expression
-- of which the node and the rows tell. `st` gives the states, `Stop` says what the next byte is not.
abbrev pub Answer : ℕ → (ℕ → List Level → Front → Front → Phase → State) → (ℕ → Type 0) → List ℕ → ℕ → ℕ → List ℕ → Result Node ℕ → List ℕ → Type 0
Answer w st Stop s a depth rows (Err p) now = (d : ℕ) (os : List Level) (g f : Front) → d + depth ≡ open_limit → Refuses s a (st d os g f due) p
Answer w st Stop s a depth rows (Ok node) now =
    (x : Expr) × (a < node.end) × (node.end ≤ length s) × Stop (get_or s node.end 0) × Told w x rows node.kind node.set node.extra now
    × ((d : ℕ) (os : List Level) (g f : Front) → d + depth ≡ open_limit → Comes s a (st d os g f due) node.end (st d os g f (done x)))

abbrev pub Primary : ℕ → List ℕ → ℕ → ℕ → List ℕ → Result Node ℕ → List ℕ → Type 0
Primary w = Answer w (λ d os g f x. state d os g f x) (λ b. Unit {0})

-- a number leaves any rows as they are
abbrev pub Numbered : ℕ → List ℕ → ℕ → Result Node ℕ → Type 0
Numbered w s a r = (depth : ℕ) (rows : List ℕ) → Words w rows → Primary w s a depth rows r rows
