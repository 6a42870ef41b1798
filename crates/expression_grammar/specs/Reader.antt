-- A reader that computes: one byte at a time, with the levels of parentheses that are open. `proofs/Theorems.antt` ties it to the grammar: it accepts
-- exactly the grammar's texts, each with its expression, and refuses at exactly the paper's place.
use Rattle.std.specs.Prelude.{Bool, true, false, ◌&&◌, cond, List, [], ◌∷◌, ℕ, zero, suc, ◌+◌, ◌-◌, ◌*◌, eqb, leb}
use Rattle.std.proofs.Math.Option.{Option, none, some}
use Rattle.expression.specs.Expr.{Expr, goal, join, Members, one, more}

-- What a byte is: a digit 0 to 9, `,` (mark true) or `&` (mark false), `(`, `)`, or none of these.
pub data Sign : Type 0 where
  digit : ℕ → Sign
  joiner : Bool → Sign
  opener : Sign
  closer : Sign
  other : Sign

abbrev pub sign : ℕ → Sign
sign b = cond (eqb b 44) (joiner true) (cond (eqb b 38) (joiner false) (cond (eqb b 40) opener (cond (eqb b 41) closer (cond (leb 48 b && leb b 57) (digit (b - 48)) other))))

-- The members of a join that are read so far, each with its mark: nothing, or what the others make it.
abbrev pub Front : Type 0
Front = Option (Members → Expr)

-- x is the last member: alone it is itself.
abbrev pub close : Front → Expr → Expr
close none x = x
close (some f) x = f (one x)

-- x is a further member of a join of kind k.
abbrev pub push : Bool → Front → Expr → Members → Expr
push k none x ms = join k x ms
push k (some f) x ms = f (more x ms)

-- One level of parentheses: the groups before the current one, and its primaries before the current one.
pub record Level : Type 0 where
  pub groups : Front
  pub primaries : Front

-- A primary is due; one digit of a number is read; or a primary is read.
pub data Phase : Type 0 where
  due : Phase
  begun : ℕ → Phase
  done : Expr → Phase

-- What is read: the parentheses that may still be opened, the levels outside the current one, the current one, and its current primary.
pub record State : Type 0 where
  pub left : ℕ
  pub outer : List Level
  pub groups : Front
  pub primaries : Front
  pub phase : Phase

abbrev pub state : ℕ → List Level → Front → Front → Phase → State
state d os g p x = record { left = d; outer = os; groups = g; primaries = p; phase = x }

-- A primary is due.
abbrev pub opens : ℕ → List Level → Front → Front → Option State
opens zero os g p = none
opens (suc d) os g p = some (state d (record { groups = g; primaries = p } ∷ os) none none due)

abbrev pub starts : ℕ → List Level → Front → Front → Sign → Option State
starts d os g p (digit zero) = none
starts d os g p (digit (suc v)) = some (state d os g p (begun (suc v)))
starts d os g p (joiner k) = none
starts d os g p opener = opens d os g p
starts d os g p closer = none
starts d os g p other = none

-- The primary x is read.
abbrev pub closes : ℕ → List Level → Expr → Option State
closes d [] x = none
closes d (l ∷ os) x = some (state (suc d) os l.groups l.primaries (done x))

abbrev pub goes : ℕ → List Level → Front → Front → Expr → Sign → Option State
goes d os g p x (digit v) = none
goes d os g p x (joiner true) = some (state d os (some (push true g (close p x))) none due)
goes d os g p x (joiner false) = some (state d os g (some (push false p x)) due)
goes d os g p x opener = none
goes d os g p x closer = closes d os (close g (close p x))
goes d os g p x other = none

abbrev pub grows : ℕ → List Level → Front → Front → ℕ → Sign → Option State
grows d os g p v (digit w) = some (state d os g p (done (goal (10 * v + w))))
grows d os g p v (joiner k) = goes d os g p (goal v) (joiner k)
grows d os g p v opener = none
grows d os g p v closer = goes d os g p (goal v) closer
grows d os g p v other = none

abbrev pub step : ℕ → List Level → Front → Front → Phase → Sign → Option State
step d os g p due s = starts d os g p s
step d os g p (begun v) s = grows d os g p v s
step d os g p (done x) s = goes d os g p x s

pub data Scan : Type 0 where
  reads : Expr → Scan
  stops : ℕ → Scan

-- The text ends here.
abbrev pub whole : List Level → Expr → ℕ → Scan
whole [] x at = reads x
whole (l ∷ os) x at = stops at

abbrev pub ends : List Level → Front → Front → Phase → ℕ → Scan
ends os g p due at = stops at
ends os g p (begun v) at = whole os (close g (close p (goal v))) at
ends os g p (done x) at = whole os (close g (close p x)) at

abbrev pub onward : Option State → ℕ → (State → Scan) → Scan
onward none at go = stops at
onward (some s) at go = go s

abbrev pub run : List ℕ → ℕ → State → Scan
run [] at s = ends s.outer s.groups s.primaries s.phase at
run (b ∷ t) at s = onward (step s.left s.outer s.groups s.primaries s.phase (sign b)) at (λ r. run t (suc at) r)

-- The whole text, with at most d parentheses open at a time.
abbrev pub start : ℕ → State
start d = state d [] none none due

abbrev pub read : ℕ → List ℕ → Scan
read d t = run t 0 (start d)
