-- A sequence in parentheses and the whole text: one law for each way out.
use mathlib.Core.Path.{◌≡◌, refl, ap, ◌∙◌}
use mathlib.Core.Bool.{true, false}
use mathlib.Core.List.{List, [], ◌∷◌}
use mathlib.Core.Option.{none}
use Prim.Native.Nat.{ℕ, zero, suc, ◌+◌, ◌<◌, ◌≤◌}
use native.Mathlib.Omega.{arith}
use lib.ListN.{length, get_or, drop}
use Rattle.std.specs.Prelude.{Ok, Err}
use Rattle.expression_grammar.specs.TextRules.{open_limit}
use Rattle.expression.specs.Expr.{Expr}
use Rattle.expression_grammar.specs.Reader.{Sign, digit, joiner, opener, closer, other, sign, Front, Level, due, done, state, goes, opens, onward, run}
use Rattle.expression_grammar.proofs.Signs.{Is, sign_is}
use Rattle.expression_grammar.proofs.Places.{byte_inside}
use Rattle.expression_number.specs.declared.Node.{Node}
use Rattle.expression_number.specs.Nodes.{Comes, Refuses, Primary}
use Rattle.expression_number.proofs.Runs.{takes, stuck, run_at, run_end}
use Rattle.expression_parser.specs.Readers.{NoMark, Sequence, Parsed}

-- ---- a sequence in parentheses
opens-none : (d : ℕ) (os : List Level) (g f : Front) → d ≡ 0 → opens d os g f ≡ none
opens-none zero os g f e = refl
opens-none (suc d) os g f e = absurd (omega arith)

goes_none : (d : ℕ) (os : List Level) (g f : Front) (x : Expr) (b : ℕ) (c : Sign) → Is c b → NoMark b → ((b ≡ 41) → ⊥) → goes d os g f x c ≡ none
goes_none d os g f x b (digit v) i m n = refl
goes_none d os g f x b (joiner true) i m n = absurd (m.1 i)
goes_none d os g f x b (joiner false) i m n = absurd (m.0 i)
goes_none d os g f x b opener i m n = refl
goes_none d os g f x b closer i m n = absurd (n i)
goes_none d os g f x b other i m n = refl

abbrev level : Front → Front → Level
level g f = record { groups = g; primaries = f }

module _ (w : ℕ) (s : List ℕ) (a depth : ℕ) (rows : List ℕ) (byte : get_or s a 0 ≡ 40) where
  opened : (d : ℕ) (os : List Level) (g f : Front) → Comes s a (state (suc d) os g f due) (a + 1) (state d (level g f ∷ os) none none due)
  opened d os g f = takes s a 40 (state (suc d) os g f due) (state d (level g f ∷ os) none none due) (omega arith) byte refl

  pub pri_bad : depth < open_limit → (p : ℕ) (now : List ℕ) → Sequence w s (a + 1) (depth + 1) rows (Err p) now → Primary w s a depth rows (Err p) now
  pri_bad less p now h = λ d. go d
    where
      go : (d : ℕ) (os : List Level) (g f : Front) → d + depth ≡ open_limit → Refuses s a (state d os g f due) p
      go zero os g f e = absurd (omega arith)
      go (suc d) os g f e = opened d os g f ∙ h d (level g f ∷ os) none none (omega arith)

-- a parenthesis is opened at the place a, and a sequence is read behind it
pub record Inner (w : ℕ) (s : List ℕ) (a depth : ℕ) (rows : List ℕ) (n : Node) (now : List ℕ) : Type 0 where
  pub byte : get_or s a 0 ≡ 40
  pub less : depth < open_limit
  pub part : Sequence w s (a + 1) (depth + 1) rows (Ok n) now

module _ {w : ℕ} {s : List ℕ} {a depth : ℕ} {rows : List ℕ} {n : Node} {now : List ℕ} (i : Inner w s a depth rows n now) where
  enters : (d : ℕ) (os : List Level) (g f : Front) → d + (depth + 1) ≡ open_limit → Comes s a (state (suc d) os g f due) n.end (state d (level g f ∷ os) none none (done i.part.0))
  enters d os g f p = opened w s a depth rows i.byte d os g f ∙ i.part.5 d (level g f ∷ os) none none p

  pub inner_shut : get_or s n.end 0 ≡ 41 → Primary w s a depth rows (Ok (record { kind = n.kind; set = n.set; extra = n.extra; end = n.end + 1 })) now
  inner_shut b =
      let lt = i.part.1 in
      let q : n.end < length s = byte_inside s n.end 41 (omega arith) b in
      (i.part.0, omega arith, omega arith, tt, i.part.4, λ d. go d)
    where
      go : (d : ℕ) (os : List Level) (g f : Front) → d + depth ≡ open_limit → Comes s a (state d os g f due) (n.end + 1) (state d os g f (done i.part.0))
      go zero os g f p = absurd (omega arith)
      go (suc d) os g f p =
          enters d os g f (omega arith)
          ∙ takes s n.end 41 (state d (level g f ∷ os) none none (done i.part.0)) (state (suc d) os g f (done i.part.0)) (omega arith) b refl

  pub inner_left : ((get_or s n.end 0 ≡ 41) → ⊥) → Primary w s a depth rows (Err n.end) now
  inner_left b = λ d. go d
    where
      go : (d : ℕ) (os : List Level) (g f : Front) → d + depth ≡ open_limit → Refuses s a (state d os g f due) n.end
      go zero os g f p = absurd (omega arith)
      go (suc d) os g f p =
          enters d os g f (omega arith)
          ∙ stuck s n.end (state d (level g f ∷ os) none none (done i.part.0))
          (goes_none d (level g f ∷ os) none none i.part.0 (get_or s n.end 0) (sign (get_or s n.end 0)) (sign_is (get_or s n.end 0)) i.part.3 b) refl

-- ---- the whole text
closes-none : (d : ℕ) (x : Expr) (b : ℕ) (c : Sign) → Is c b → NoMark b → goes d [] none none x c ≡ none
closes-none d x b (digit v) i m = refl
closes-none d x b (joiner true) i m = absurd (m.1 i)
closes-none d x b (joiner false) i m = absurd (m.0 i)
closes-none d x b opener i m = refl
closes-none d x b closer i m = refl
closes-none d x b other i m = refl

module _ (w : ℕ) (s rows now : List ℕ) where
  pub whole_bad : (p : ℕ) → Sequence w s 0 0 rows (Err p) now → Parsed w s rows (Err p) rows
  whole_bad p h = (h open_limit [] none none refl, refl)

  module _ (n : Node) (h : Sequence w s 0 0 rows (Ok n) now) where
    pub whole-left : n.end < length s → Parsed w s rows (Err n.end) rows
    whole-left lt = (
      h.5 open_limit [] none none refl
          ∙ run_at s n.end (state open_limit [] none none (done h.0)) lt
          ∙ ap (λ o. onward o n.end (λ r. run (drop (suc n.end) s) (suc n.end) r)) (closes-none open_limit h.0 (get_or s n.end 0) (sign (get_or s n.end 0)) (sign_is (get_or s n.end 0)) h.3),
      refl,
    )

    pub whole_done : length s ≤ n.end → Parsed w s rows (Ok n) now
    whole_done le = (h.0, h.5 open_limit [] none none refl ∙ run_end s n.end (state open_limit [] none none (done h.0)) le, omega (arith, h.2), h.4)
