-- The theorems on expressions and their texts. Every name in a statement is one of specs/, here or in `expression`.
--     T1 to T4      those of `expression`, passed on: sound, complete, unique, short
--     T7            accepts, refuses, unambiguous: the reader decides the grammar
--     T7, whole     read_text_lem, read_16, read_17: what reading a text for n goals gives
--     T8, a half    form-read, form-same: the text of a house form is read as that form, and the check calls it "same"
--     texts         text_unique: different house forms have different texts
use mathlib.Core.Path.{◌≡◌, ap, ◌∙◌}
use mathlib.Core.Bool.{Bool}
use mathlib.Core.List.{List}
use mathlib.Core.Logic.{◌↔◌}
use Prim.Native.Nat.{ℕ, ◌≤◌, ◌<◌}
use lib.ListN.{length}
use Rattle.sets.specs.Sets.{goal_limit}
use Rattle.expression.specs.Expr.{Expr, UsesOnce, Matches, HouseForm, before}
use Rattle.expression.specs.Text.{text}
pub use Rattle.expression.proofs.Theorems.{order_no_n, induced_no_n, no_four, form_any_lem, form_is, form_unique, text-fits, text-longest}
use Rattle.expression_grammar.specs.Grammar.{Text, BadAt}
use Rattle.expression_grammar.specs.Occurrences.{Misused}
use Rattle.expression_grammar.specs.Reader.{reads, stops, read}
use Rattle.record_rules.specs.Outcome.{refused, accepted}
use Rattle.expression_grammar.specs.TextRules.{expression_limit, open_limit, read_text}
use Rattle.expression_grammar.specs.Check.{same, verdict, judged, checked}
use Rattle.expression_grammar.proofs.Decides as Decides
use Rattle.expression_grammar.proofs.Readings as Readings
use Rattle.expression_grammar.proofs.Differences as Differences
use Rattle.expression_grammar.proofs.Written as Written

-- T7. A text is read exactly if the grammar has it, with the expression that the grammar gives it ..
pub accepts : (d : ℕ) (t : List ℕ) (e : Expr) → (read d t ≡ reads e) ↔ Text d t e
accepts d t e = Decides.read_accepts d t e

-- .. it is stops at exactly the paper's place ..
pub refuses : (d : ℕ) (t : List ℕ) (k : ℕ) → (read d t ≡ stops k) ↔ BadAt d t k
refuses d t k = Decides.read_refuses d t k

-- .. and each text has at most one expression.
pub unambiguous : (d : ℕ) (t : List ℕ) (e e' : Expr) → Text d t e → Text d t e' → e ≡ e'
unambiguous d t e e' j j' = Decides.unambiguous d t e e' j j'

-- The whole reading: an expression is read exactly if the text has 1 to 512 bytes, is one of its texts, and it uses each goal of 1 to n once ..
pub read_text_lem : (n : ℕ) (t : List ℕ) (e : Expr) → (read_text n t ≡ accepted e) ↔ ((1 ≤ length t) × (length t ≤ expression_limit) × Text open_limit t e × UsesOnce n e)
read_text_lem n t e = Readings.read_answer n t e

-- .. and refusal 16 has exactly the paper's place.
pub read_16 : (n : ℕ) (t : List ℕ) (k : ℕ) → (read_text n t ≡ refused 16 k) ↔ ((1 ≤ length t) × (length t ≤ expression_limit) × BadAt open_limit t k)
read_16 n t k = Readings.read_16 n t k

-- and so has refusal 17.
pub read_17 : (n : ℕ) (t : List ℕ) (p : ℕ) → (read_text n t ≡ refused 17 p) ↔ ((1 ≤ length t) × (length t ≤ expression_limit) × Misused n t p)
read_17 n t p = Readings.read_17 n t p

-- T8, its half: the text of a house form is read as that form, and so with its order ..
pub form-read : (R : ℕ → ℕ → Bool) (n : ℕ) (e : Expr) → HouseForm R n e → n ≤ goal_limit → (read_text n (text e) ≡ accepted e) × Matches R n e
form-read R n e f h = (Written.written_read n e f.uses h, f.order)

-- .. and the check calls it "same".
pub form-same : (R : ℕ → ℕ → Bool) (n : ℕ) (e : Expr) → HouseForm R n e → n ≤ goal_limit → checked n R (text e) ≡ accepted same
unfolding checked
form-same R n e f h =
    ap (λ r. judged n R r) (Written.written_read n e f.uses h) ∙ ap (λ o. accepted (verdict o)) ((Differences.same-order n R (before e)).1 f.order)

-- Different house forms have different texts, for up to 99 goals.
pub text_unique : (R S : ℕ → ℕ → Bool) (n m : ℕ) (e e' : Expr) → HouseForm R n e → n < 100 → HouseForm S m e' → m < 100 → text e ≡ text e' → e ≡ e'
text_unique R S n m e e' f h f' h' q = Written.text_same n m e e' f.uses h f'.uses h' q
