-- The text of an expression is in the grammar, with that expression: what is written is read back as the same.
use mathlib.Core.Path.{◌≡◌, refl, subst}
use mathlib.Core.Bool.{Bool, true, false}
use mathlib.Core.List.{List, [], ◌∷◌, ◌++◌}
use mathlib.Core.Logic.{inl, inr, dite}
use Prim.Native.Nat.{ℕ, zero, suc, ◌+◌, ◌*◌, ◌/◌, ◌%◌, ◌≤◌, ◌<◌}
use native.Mathlib.Omega.{arith}
use native.Mathlib.Decide.{dec_lt}
use lib.ListN.{length}
use Rattle.sets.specs.Sets.{goal_limit}
use Rattle.expression.specs.Expr.{Expr, goal, join, Members, one, more, UsesOnce}
use Rattle.expression.specs.Text.{mark, inner, run, text}
use Rattle.buffer.specs.Decimal.{decimal}
use Rattle.buffer.proofs.Decimal.{one_digit, two_digits}
use Rattle.expression.proofs.Fits.{In, InM}
use Rattle.expression.proofs.Theorems.{uses_in}
use Rattle.expression.proofs.Length.{joins, joins_m, joins_few, text-fits}
use Rattle.expression_grammar.specs.Grammar.{Number, single, double, Joined, alone, several, Others, last, next, Member, group, number, parens, Text as TextOf}
use Rattle.record_rules.specs.Outcome.{accepted}
use Rattle.expression_grammar.specs.TextRules.{open_limit, read_text}
use Rattle.expression_grammar.proofs.Complete.{complete}
use Rattle.expression_grammar.proofs.Sound.{not_both}
use Rattle.expression_grammar.proofs.Decides.{unambiguous}
use Rattle.expression_grammar.proofs.Readings.{read_answer}

number-text : (g : ℕ) → 1 ≤ g → g < 100 → Number (decimal g) g
number-text g lo hi =
    dite (dec_lt g 10) (λ t. subst (λ z. Number z g) (one_digit g t) (single g lo t))
    (λ t.
    let e : 10 * (g / 10) + g % 10 ≡ g = omega arith in
    subst (λ z. Number z g) (two_digits g (omega arith) hi)
    (subst (λ z. Number ((48 + g / 10) ∷ (48 + g % 10) ∷ []) z) e (double (g / 10) (g % 10) (omega arith) (omega arith) (omega arith))))

-- a join of kind k is a sequence
as_sequence : (k : Bool) (d : ℕ) (u w : List ℕ) (e : Expr) (ms : Members) → Member false d u e → Others k d w ms → Joined true d (u ++ (mark k ∷ w)) (join k e ms)
as_sequence true d u w e ms m o = several (group (alone m)) o refl
as_sequence false d u w e ms m o = alone (group (several m o refl))

as_member : (k : Bool) (d : ℕ) (u : List ℕ) (e : Expr) → Member false d u e → Member k d u e
as_member true d u e m = group (alone m)
as_member false d u e m = m

mutual
  inner_text : (e : Expr) (d : ℕ) → ((i : ℕ) → In i e → (1 ≤ i) × (i < 100)) → joins e ≤ d → Member false d (inner e) e
  inner_text (goal g) d h le = number (number-text g (h g refl).0 (h g refl).1)
  inner_text (join k e ms) d h le = nested d (λ c m. as_sequence k c (inner e) (run k ms) e ms (inner_text e c (λ i p. h i (inl p)) (omega arith)) (run-text ms k c (λ i p. h i (inr p)) (omega arith))) le
    where
      nested : (d : ℕ) → ((c : ℕ) → joins e + joins_m ms ≤ c → Joined true c (inner e ++ (mark k ∷ run k ms)) (join k e ms)) → 1 + joins e + joins_m ms ≤ d → Member false d (inner (join k e ms)) (join k e ms)
      nested zero j l = absurd (omega arith)
      nested (suc c) j l = parens (j c (omega arith)) refl

  run-text : (ms : Members) (k : Bool) (d : ℕ) → ((i : ℕ) → InM i ms → (1 ≤ i) × (i < 100)) → joins_m ms ≤ d → Others k d (run k ms) ms
  run-text (one e) k d h le = last (as_member k d (inner e) e (inner_text e d h le))
  run-text (more e ms) k d h le = next (as_member k d (inner e) e (inner_text e d (λ i p. h i (inl p)) (omega arith))) (run-text ms k d (λ i p. h i (inr p)) (omega arith)) refl

pub written_text : (e : Expr) (d : ℕ) → ((i : ℕ) → In i e → (1 ≤ i) × (i < 100)) → joins e ≤ d → TextOf d (text e) e
written_text (goal g) d h le = alone (group (alone (inner_text (goal g) d h le)))
written_text (join k e ms) d h le = as_sequence k d (inner e) (run k ms) e ms (inner_text e d (λ i p. h i (inl p)) (omega arith)) (run-text ms k d (λ i p. h i (inr p)) (omega arith))

pub written : (n : ℕ) (e : Expr) → UsesOnce n e → n ≤ goal_limit → TextOf open_limit (text e) e
written n e u h = let j = joins_few n e u h in written_text e open_limit (λ i p. let r = uses_in n e u i p in (r.0, omega (arith, r.1))) (omega arith)

-- a text of the grammar is not empty
some_bytes : (d : ℕ) (t : List ℕ) (e : Expr) → TextOf d t e → 1 ≤ length t
some_bytes d [] e j = absurd (not_both e 0 (complete d [] e j))
some_bytes d (b ∷ t) e j = omega arith

-- the text of an expression of the goals 1 to n is read as that expression
pub written_read : (n : ℕ) (e : Expr) → UsesOnce n e → n ≤ goal_limit → read_text n (text e) ≡ accepted e
written_read n e u h =
    let j = written n e u h in
    (read_answer n (text e) e).1 (some_bytes open_limit (text e) e j, omega (arith, text-fits n e u h), j, u)

-- expressions of up to 99 goals have different texts unless they are the same
pub text_same : (n m : ℕ) (e e' : Expr) → UsesOnce n e → n < 100 → UsesOnce m e' → m < 100 → text e ≡ text e' → e ≡ e'
text_same n m e e' u h u' h' q =
    let d = joins e + joins e' in
    let j : TextOf d (text e) e = written_text e d (λ i p. let r = uses_in n e u i p in (r.0, omega (arith, r.1))) (omega arith) in
    let j' : TextOf d (text e') e' = written_text e' d (λ i p. let r = uses_in m e' u' i p in (r.0, omega (arith, r.1))) (omega arith) in
    unambiguous d (text e') e e' (subst (λ t. TextOf d t e) q j) j'
