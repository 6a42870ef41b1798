-- The answer word of each function for callers in C and Rust, a number of 64 bits, from the outcome of its operation. Of every word bits 56 to 63 have the refusal's
-- number, 0 if accepted, and bits 0 to 31 the place if refused; the rest is said at each function, and is 0 with a refusal but for 13's goals.
use Rattle.std.proofs.Math.Option.{Option, none, some}
use Rattle.std.specs.Prelude.{ℕ, ◌+◌, ◌*◌, ◌%◌, ◌^◌}
use Rattle.record_rules.specs.Outcome.{Outcome, refused, accepted}
use Rattle.expression.specs.Search.{Four}
use Rattle.expression_grammar.specs.Check.{Verdict, same, differs}

-- `lfj_version`: 1.5.0 as major, minor and patch, two digits each. The minor is the number of change requests that have landed.
abbrev pub version : ℕ
version = 10500

-- The number at bits 56 to 63, the place at bits 0 to 31: no place has more bits, whatever the record's length, and no length (lfj/specs/Fits.antt, dispatcher/specs/Runs.antt).
unfoldable pub refusal_word : ℕ → ℕ → ℕ
refusal_word number place = number * 2 ^ 56 + place % 2 ^ 32

-- a refusal's word, or that of the value
abbrev pub word : {A : Type 0} → (A → ℕ) → Outcome A → ℕ
word f (refused k p) = refusal_word k p
word f (accepted x) = f x

-- `lfj_read`: the goal count; `lfj_passes`: the number of passes
unfoldable pub read_word : Outcome ℕ → ℕ
read_word o = word (λ n. n) o

-- `lfj_after`: the set of the goals that the goal is before, goal g at bit g - 1
unfoldable pub after_word : Outcome ℕ → ℕ
after_word o = word (λ m. m) o

-- `lfj_start`, `lfj_tick`: the set of the goals that have ended, goal g at bit g - 1
unfoldable pub tick_word : Outcome ℕ → ℕ
tick_word o = word (λ m. m) o

-- `lfj_form`, `lfj_form_length`: the length; with 13 the goals a, b, c, d at bits 32, 38, 44 and 50, six bits each
abbrev pub goals_word : Option Four → ℕ
goals_word none = 0
goals_word (some q) = q.a % 2 ^ 6 * 2 ^ 32 + q.b % 2 ^ 6 * 2 ^ 38 + q.c % 2 ^ 6 * 2 ^ 44 + q.d % 2 ^ 6 * 2 ^ 50

unfoldable pub form_word : Outcome ℕ → Option Four → ℕ
form_word o s = word (λ n. n % 2 ^ 32) o + goals_word s

-- `lfj_mel`: the length
unfoldable pub mel_word : Outcome ℕ → ℕ
mel_word o = word (λ n. n % 2 ^ 32) o

-- `lfj_goal_text`: the place, and the length at bits 32 to 47
abbrev pub span_word : ℕ → ℕ → ℕ
span_word place size = place % 2 ^ 32 + size % 2 ^ 16 * 2 ^ 32

-- `lfj_check`: 0 for same, else i at bits 0 to 7 and j at bits 8 to 15; the bits 16 to 55 are 0
abbrev pub verdict_word : Verdict → ℕ
verdict_word same = 0
verdict_word (differs i j) = i % 2 ^ 8 + j % 2 ^ 8 * 2 ^ 8

unfoldable pub check_word : Outcome Verdict → ℕ
check_word o = word verdict_word o
