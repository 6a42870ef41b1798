-- What the reader accepts is in the grammar; where it refuses, the text before can be completed, and no text goes on so.
use mathlib.Core.Path.{◌≡◌, refl, sym, ap, ◌∙◌, subst}
use mathlib.Core.Bool.{true}
use mathlib.Core.List.{List, [], ◌∷◌, ◌++◌, append_assoc, append-nil}
use mathlib.Core.Option.{Option, none, some}
use Prim.Native.Nat.{ℕ, suc, ◌+◌}
use native.Mathlib.Omega.{arith}
use lib.ListN.{length}
use Rattle.expression.specs.Expr.{Expr, goal}
use Rattle.expression_grammar.specs.Grammar.{Joined, Begins}
use Rattle.expression_grammar.specs.Reader.{Front, close, Level, Phase, due, begun, done, State, sign, step, Scan, reads, stops, whole, ends, onward, run}
use Rattle.expression_grammar.proofs.Signs.{sign_is}
use Rattle.expression_grammar.proofs.Reached.{Reached, Ok, step_ok, ended, level-joined, viable}

-- a reading is one of the two
abbrev Accepted : Scan → Type 0
Accepted (reads e) = Unit {0}
Accepted (stops k) = ⊥

pub not_both : (e : Expr) (k : ℕ) → stops k ≡ reads e → ⊥
not_both e k h = subst Accepted (sym h) tt

module _ (D : ℕ) where
  whole_sound : (os : List Level) (p : List ℕ) (d : ℕ) (g f : Front) (x e : Expr) (at : ℕ) → Reached D p d os g f (done x)
      → whole os (close g (close f x)) at ≡ reads e → Joined true D p e
  whole_sound [] p d g f x e at r h =
      let a = r.above in
      let q : close g (close f x) ≡ e = cc in
      rw (r.text, a.1) (subst (λ c. Joined true c (r.gs ++ (r.ps ++ r.y)) e) a.0 (subst (λ z. Joined true d (r.gs ++ (r.ps ++ r.y)) z) q (level-joined D p d [] g f x r)))
  whole_sound (l ∷ os) p d g f x e at r h = absurd (not_both e at h)

  ends_sound : (os : List Level) (p : List ℕ) (d : ℕ) (g f : Front) (x : Phase) (e : Expr) (at : ℕ) → Reached D p d os g f x → ends os g f x at ≡ reads e → Joined true D p e
  ends_sound os p d g f due e at r h = absurd (not_both e at h)
  ends_sound os p d g f (begun v) e at r h = whole_sound os p d g f (goal v) e at (ended D p d os g f v r) h
  ends_sound os p d g f (done x) e at r h = whole_sound os p d g f x e at r h

  onward_sound : (s : Option State) (p : List ℕ) (at : ℕ) (go : State → Scan) (e : Expr) (G : Type 0) → Ok D p s → onward s at go ≡ reads e
      → ((s : State) → Ok D p (some s) → go s ≡ reads e → G) → G
  onward_sound none p at go e G o h k = absurd (not_both e _ h)
  onward_sound (some s) p at go e G o h k = k s o h

  pub sound : (t p : List ℕ) (at : ℕ) (s : State) (e : Expr) → Ok D p (some s) → run t at s ≡ reads e → Joined true D (p ++ t) e
  sound [] p at s e r h = rw (append-nil p) (ends_sound s.outer p s.left s.groups s.primaries s.phase e at r h)
  sound (b ∷ t) p at s e r h =
      onward_sound (step s.left s.outer s.groups s.primaries s.phase (sign b)) (p ++ (b ∷ [])) at (λ q. run t (suc at) q) e (Joined true D (p ++ (b ∷ t)) e)
      (step_ok D p s.left s.outer s.groups s.primaries s.phase b (sign b) (sign_is b) r) h
      (λ q o i. subst (λ z. Joined true D z e) (append_assoc p (b ∷ []) t) (sound t (p ++ (b ∷ [])) (suc at) q e o i))

-- Where the reader refuses: the text is cut there; what stands before can be completed; and with the next byte the reader refuses there, whatever comes after it.
abbrev pub Dead : List ℕ → List ℕ → ℕ → State → ℕ → Type 0
Dead pre [] at s k = Unit {0}
Dead pre (b ∷ w) at s k = (u : List ℕ) → run (pre ++ (b ∷ u)) at s ≡ stops k

pub record Cut (D : ℕ) (p t : List ℕ) (at : ℕ) (s : State) (k : ℕ) : Type 0 where
  pub pre : List ℕ
  pub post : List ℕ
  pub text : t ≡ pre ++ post
  pub place : k ≡ at + length pre
  pub begins : Begins D (p ++ pre)
  pub dead : Dead pre post at s k

-- the state after the byte b
abbrev pub next : State → ℕ → Option State
next s b = step s.left s.outer s.groups s.primaries s.phase (sign b)

dead_more : (pre post : List ℕ) (b at k : ℕ) (s r : State) → next s b ≡ some r → Dead pre post (suc at) r k → Dead (b ∷ pre) post at s k
dead_more pre [] b at k s r e h = tt
dead_more pre (c ∷ w) b at k s r e h = λ u. ap (λ o. onward o at (λ q. run (pre ++ (c ∷ u)) (suc at) q)) e ∙ h u

module _ (D : ℕ) where
  ends-place : (os : List Level) (g f : Front) (x : Phase) (at k : ℕ) → ends os g f x at ≡ stops k → k ≡ at
  ends-place os g f due at k h = cc
  ends-place [] g f (begun v) at k h = absurd (not_both (close g (close f (goal v))) k (sym h))
  ends-place (l ∷ os) g f (begun v) at k h = cc
  ends-place [] g f (done x) at k h = absurd (not_both (close g (close f x)) k (sym h))
  ends-place (l ∷ os) g f (done x) at k h = cc

  pub refusal : (t p : List ℕ) (at : ℕ) (s : State) (k : ℕ) → Ok D p (some s) → run t at s ≡ stops k → Cut D p t at s k
  refusal [] p at s k r h =
      record {
        pre = [];
        post = [];
        text = refl;
        place = omega (arith, ends-place s.outer s.groups s.primaries s.phase at k h);
        begins = rw (append-nil p) (viable D p s.left s.outer s.groups s.primaries s.phase r);
        dead = tt;
      }
  refusal (b ∷ t) p at s k r h = go (λ q o i. refusal t (p ++ (b ∷ [])) (suc at) q k o i) (next s b) refl (step_ok D p s.left s.outer s.groups s.primaries s.phase b (sign b) (sign_is b) r) h
    where
      go : ((q : State) → Ok D (p ++ (b ∷ [])) (some q) → run t (suc at) q ≡ stops k → Cut D (p ++ (b ∷ [])) t (suc at) q k)
          → (o : Option State) → next s b ≡ o → Ok D (p ++ (b ∷ [])) o → onward o at (λ q. run t (suc at) q) ≡ stops k → Cut D p (b ∷ t) at s k
      go ih none e o i =
          let same : at ≡ k = cc in
          record {
            pre = [];
            post = b ∷ t;
            text = refl;
            place = omega arith;
            begins = rw (append-nil p) (viable D p s.left s.outer s.groups s.primaries s.phase r);
            dead = λ u. ap (λ o. onward o at (λ q. run u (suc at) q)) e ∙ i;
          }
      go ih (some q) e o i =
          let c = ih q o i in
          record {
            pre = b ∷ c.pre;
            post = c.post;
            text = ap (λ z. b ∷ z) c.text;
            place = omega (arith, c.place);
            begins = subst (λ z. Begins D z) (append_assoc p (b ∷ []) c.pre) c.begins;
            dead = dead_more c.pre c.post b at k s q e c.dead;
          }
