-- The reader accepts each text of the grammar, with its expression.
use mathlib.Core.Path.{◌≡◌, refl, sym, ap, ◌∙◌}
use mathlib.Core.Bool.{Bool, true, false, cond}
use mathlib.Core.List.{List, [], ◌∷◌, ◌++◌, append_assoc, append-nil}
use mathlib.Core.Option.{none, some}
use Prim.Native.Nat.{ℕ, zero, suc}
use native.Mathlib.Omega.{arith}
use Rattle.expression.specs.Expr.{Expr, goal, Members}
use Rattle.expression.specs.Text.{mark}
use Rattle.expression_grammar.specs.Grammar.{Number, single, double, Joined, alone, several, Others, last, next, Member, group, number, parens, Text}
use Rattle.expression_grammar.specs.Reader.{Front, close, push, Level, Phase, due, begun, done, State, state, reads, run, read}
use Rattle.expression_grammar.proofs.Signs.{sign_digit}

-- What follows, u, ends a number; a group; a sequence.
abbrev pub EndsNumber : List ℕ → Type 0
EndsNumber u = (d : ℕ) (os : List Level) (g p : Front) (v at : ℕ) → run u at (state d os g p (begun v)) ≡ run u at (state d os g p (done (goal v)))

abbrev pub EndsGroup : List ℕ → Type 0
EndsGroup u = (d : ℕ) (os : List Level) (g p : Front) (x : Expr) (at : ℕ) → run u at (state d os g p (done x)) ≡ run u at (state d os g none (done (close p x)))

abbrev pub EndsSequence : List ℕ → Type 0
EndsSequence u = (d : ℕ) (os : List Level) (g : Front) (x : Expr) (at : ℕ) → run u at (state d os g none (done x)) ≡ run u at (state d os none none (done (close g x)))

-- u may follow a member of a join of kind k; a join of kind k.
abbrev EndsMember : Bool → List ℕ → Type 0
EndsMember true u = EndsNumber u × EndsGroup u
EndsMember false u = EndsNumber u

abbrev EndsJoined : Bool → List ℕ → Type 0
EndsJoined true u = EndsNumber u × EndsGroup u × EndsSequence u
EndsJoined false u = EndsNumber u × EndsGroup u

end-joined : (k : Bool) → EndsJoined k []
end-joined true = (λ d os g p v at. refl, λ d os g p x at. refl, λ d os g x at. refl)
end-joined false = (λ d os g p v at. refl, λ d os g p x at. refl)

shut-joined : (u : List ℕ) → EndsJoined true (41 ∷ u)
shut-joined u = (λ d os g p v at. refl, λ d os g p x at. refl, λ d os g x at. refl)

mark_member : (k : Bool) (u : List ℕ) → EndsMember k (mark k ∷ u)
mark_member true u = (λ d os g p v at. refl, λ d os g p x at. refl)
mark_member false u = λ d os g p v at. refl

joined_member : (k : Bool) (u : List ℕ) → EndsJoined k u → EndsMember k u
joined_member true u h = (h.0, h.1)
joined_member false u h = h.0

-- The state within a join of kind k whose front is f; g is the front of the groups where k is false.
abbrev within : Bool → ℕ → List Level → Front → Front → Phase → State
within k d os g f x = state d os (cond k f g) (cond k none f) x

settles : (k : Bool) (u : List ℕ) → EndsJoined k u → (d : ℕ) (os : List Level) (g f : Front) (x : Expr) (at : ℕ)
    → run u at (within k d os g f (done x)) ≡ run u at (within k d os g none (done (close f x)))
settles true u h d os g f x at = h.2 d os f x at
settles false u h d os g f x at = h.1 d os g f x at

marks : (k : Bool) (u : List ℕ) (d : ℕ) (os : List Level) (g f : Front) (x : Expr) (at : ℕ)
    → run (mark k ∷ u) at (within k d os g f (done x)) ≡ run u (suc at) (within k d os g (some (push k f x)) due)
marks true u d os g f x at = refl
marks false u d os g f x at = refl

-- From one state on t the reader comes to the other on u, at some place.
abbrev Comes : List ℕ → ℕ → State → List ℕ → State → Type 0
Comes t at s u r = (end : ℕ) × (run t at s ≡ run u end r)

numbers : (t : List ℕ) (n : ℕ) → Number t n → (u : List ℕ) → EndsNumber u → (d : ℕ) (os : List Level) (g p : Front) (at : ℕ)
    → Comes (t ++ u) at (state d os g p due) u (state d os g p (done (goal n)))
numbers t n (single zero lo hi) u h d os g p at = absurd (omega arith)
numbers t n (single (suc v) lo hi) u h d os g p at = (suc at, (rw (sign_digit (suc v) hi) (h d os g p (suc v) (suc at))))
numbers t n (double zero w lo hi hw) u h d os g p at = absurd (omega arith)
numbers t n (double (suc v) w lo hi hw) u h d os g p at = (suc (suc at), (rw (sign_digit (suc v) hi, sign_digit w hw)))

mutual
  joined-run : {k : Bool} {d : ℕ} {t : List ℕ} {e : Expr} → Joined k d t e → (u : List ℕ) → EndsJoined k u → (os : List Level) (g : Front) (at : ℕ)
      → Comes (t ++ u) at (within k d os g none due) u (within k d os g none (done e))
  joined-run (alone {k = k} m) u h os g at = member_run m u (joined_member k u h) os g none at
  joined-run (several {k = k} {d = d} {t = s} {u = t} {w = w} {e = x} m o q) u h os g at =
      let a = member_run m (mark k ∷ (w ++ u)) (mark_member k (w ++ u)) os g none at in
      let b = others-run o u h os g (push k none x) (suc a.0) in
      (b.0, (rw (q, append_assoc t (mark k ∷ w) u) (a.1 ∙ marks k (w ++ u) d os g none x a.0 ∙ b.1)))

  others-run : {k : Bool} {d : ℕ} {t : List ℕ} {ms : Members} → Others k d t ms → (u : List ℕ) → EndsJoined k u → (os : List Level) (g : Front) (f : Members → Expr) (at : ℕ)
      → Comes (t ++ u) at (within k d os g (some f) due) u (within k d os g none (done (f ms)))
  others-run (last {k = k} {d = d} {e = x} m) u h os g f at =
      let a = member_run m u (joined_member k u h) os g (some f) at in
      (a.0, a.1 ∙ settles k u h d os g (some f) x a.0)
  others-run (next {k = k} {d = d} {t = s} {u = t} {w = w} {e = x} m o q) u h os g f at =
      let a = member_run m (mark k ∷ (w ++ u)) (mark_member k (w ++ u)) os g (some f) at in
      let b = others-run o u h os g (push k (some f) x) (suc a.0) in
      (b.0, (rw (q, append_assoc t (mark k ∷ w) u) (a.1 ∙ marks k (w ++ u) d os g (some f) x a.0 ∙ b.1)))

  member_run : {k : Bool} {d : ℕ} {t : List ℕ} {e : Expr} → Member k d t e → (u : List ℕ) → EndsMember k u → (os : List Level) (g f : Front) (at : ℕ)
      → Comes (t ++ u) at (within k d os g f due) u (within k d os g f (done e))
  member_run (group j) u h os g f at = joined-run j u h os f at
  member_run (number {d = d} {t = t} {n = n} j) u h os g f at = numbers t n j u h d os g f at
  member_run (parens {d = d} {t = s} {u = t} {e = e} j q) u h os g f at =
      let a = joined-run j (41 ∷ u) (shut-joined u) (record { groups = g; primaries = f } ∷ os) none (suc at) in
      (suc a.0, (rw (q, append_assoc t (41 ∷ []) u) a.1))

pub complete : (d : ℕ) (t : List ℕ) (e : Expr) → Text d t e → read d t ≡ reads e
complete d t e j = let a = joined-run j [] (end-joined true) [] none 0 in ap (λ r. run r 0 (state d [] none none due)) (sym (append-nil t)) ∙ a.1
