-- What the reader has read: the text up to a state, part by part, and that each state can be completed to a text of the grammar.
use mathlib.Core.Path.{◌≡◌, refl, sym, ap, ◌∙◌, subst}
use mathlib.Core.Bool.{Bool, true, false}
use mathlib.Core.List.{List, [], ◌∷◌, ◌++◌, append_assoc, append-nil}
use mathlib.Core.Option.{Option, none, some}
use Prim.Native.Nat.{ℕ, zero, suc, ◌+◌, ◌<◌, ◌≤◌}
use native.Mathlib.Omega.{arith}
use Rattle.expression.specs.Expr.{Expr, goal, Members, one, more}
use Rattle.expression.specs.Text.{mark}
use Rattle.expression_grammar.specs.Grammar.{single, double, Joined, alone, several, Others, last, next, Member, group, number, parens, Begins}
use Rattle.expression_grammar.specs.Reader.{Sign, digit, joiner, opener, closer, other, Front, close, push, Level, Phase, due, begun, done, State, opens, starts, closes, goes, grows, step}
use Rattle.expression_grammar.proofs.Signs.{Is}

-- p is the text of a front f of a join of kind k.
abbrev pub Fronted : Bool → ℕ → List ℕ → Front → Type 0
Fronted k d p none = p ≡ []
Fronted k d p (some f) = (u : List ℕ) (ms : Members) → Others k d u ms → Joined k d (p ++ u) (f ms)

fronted_close : (k : Bool) (d : ℕ) (p : List ℕ) (f : Front) (t : List ℕ) (x : Expr) → Fronted k d p f → Member k d t x → Joined k d (p ++ t) (close f x)
fronted_close k d p none t x h m = rw h (alone m)
fronted_close k d p (some f) t x h m = h t (one x) (last m)

fronted_push : (k : Bool) (d : ℕ) (p : List ℕ) (f : Front) (t : List ℕ) (x : Expr) → Fronted k d p f → Member k d t x
    → Fronted k d (p ++ (t ++ (mark k ∷ []))) (some (push k f x))
fronted_push k d p none t x h m = λ u ms o. several m o (ap (λ s. s ++ (t ++ (mark k ∷ [])) ++ u) h ∙ append_assoc t (mark k ∷ []) u)
fronted_push k d p (some f) t x h m =
    λ u ms o. subst (λ s. Joined k d s (f (more x ms))) (simp append_assoc) (h (t ++ (mark k ∷ u)) (more x ms) (next m o refl))

-- o is the text outside the current level, up to its `(`. At most D parentheses may be open in all.
abbrev pub Above : ℕ → ℕ → List Level → List ℕ → Type 0
Above D d [] o = (d ≡ D) × (o ≡ [])
Above D d (l ∷ os) o =
    (r gs ps : List ℕ) × Above D (suc d) os r × Fronted true (suc d) gs l.groups × Fronted false (suc d) ps l.primaries × (o ≡ r ++ (gs ++ (ps ++ (40 ∷ []))))

-- y is the text of the current primary.
abbrev pub Operand : ℕ → List ℕ → Phase → Type 0
Operand d y due = y ≡ []
Operand d y (begun v) = (1 ≤ v) × (v < 10) × (y ≡ (48 + v) ∷ [])
Operand d y (done x) = Member false d y x

pub record Reached (D : ℕ) (p : List ℕ) (d : ℕ) (os : List Level) (g f : Front) (x : Phase) : Type 0 where
  pub outside : List ℕ
  pub gs : List ℕ
  pub ps : List ℕ
  pub y : List ℕ
  pub text : p ≡ outside ++ (gs ++ (ps ++ y))
  pub above : Above D d os outside
  pub groups : Fronted true d gs g
  pub primaries : Fronted false d ps f
  pub operand : Operand d y x

abbrev pub Ok : ℕ → List ℕ → Option State → Type 0
Ok D p none = Unit {0}
Ok D p (some s) = Reached D p s.left s.outer s.groups s.primaries s.phase

-- the start
pub reached_start : (D : ℕ) → Reached D [] D [] none none due
reached_start D =
    record { outside = []; gs = []; ps = []; y = []; text = refl; above = (refl, refl); groups = refl; primaries = refl; operand = refl }

-- ---- one byte more
module _ (D : ℕ) (p : List ℕ) (d : ℕ) (os : List Level) (g f : Front) where
  opens_ok : Reached D p d os g f due → Ok D (p ++ (40 ∷ [])) (opens d os g f)
  opens_ok = go d
    where
      go : (c : ℕ) → Reached D p c os g f due → Ok D (p ++ (40 ∷ [])) (opens c os g f)
      go zero r = tt
      go (suc c) r =
          let here : p ++ (40 ∷ []) ≡ r.outside ++ (r.gs ++ (r.ps ++ (40 ∷ []))) = rw (r.text, r.operand) (simp append_assoc) in
          record {
            outside = p ++ (40 ∷ []);
            gs = [];
            ps = [];
            y = [];
            text = sym (append-nil (p ++ (40 ∷ [])));
            above = (r.outside, r.gs, r.ps, r.above, r.groups, r.primaries, here);
            groups = refl;
            primaries = refl;
            operand = refl;
          }

  starts_ok : (b : ℕ) (s : Sign) → Is s b → Reached D p d os g f due → Ok D (p ++ (b ∷ [])) (starts d os g f s)
  starts_ok b (digit zero) e r = tt
  starts_ok b (digit (suc v)) e r =
      record {
        outside = r.outside;
        gs = r.gs;
        ps = r.ps;
        y = (48 + suc v) ∷ [];
        text = rw (r.text, r.operand, e.0) (simp append_assoc);
        above = r.above;
        groups = r.groups;
        primaries = r.primaries;
        operand = (omega arith, e.1, refl);
      }
  starts_ok b (joiner k) e r = tt
  starts_ok b opener e r = rw e (opens_ok r)
  starts_ok b closer e r = tt
  starts_ok b other e r = tt

  module _ (x : Expr) where
    closes_ok : Reached D p d os g f (done x) → Ok D (p ++ (41 ∷ [])) (closes d os (close g (close f x)))
    closes_ok = go os
      where
        go : (ls : List Level) → Reached D p d ls g f (done x) → Ok D (p ++ (41 ∷ [])) (closes d ls (close g (close f x)))
        go [] r = tt
        go (l ∷ ls) r =
            let a = r.above in
            record {
              outside = a.0;
              gs = a.1;
              ps = a.2;
              y = 40 ∷ ((r.gs ++ (r.ps ++ r.y)) ++ (41 ∷ []));
              text = rw (r.text, a.6) (simp append_assoc);
              above = a.3;
              groups = a.4;
              primaries = a.5;
              operand = parens (fronted_close true d r.gs g (r.ps ++ r.y) (close f x) r.groups (group (fronted_close false d r.ps f r.y x r.primaries r.operand))) refl;
            }

    pub goes_ok : (b : ℕ) (s : Sign) → Is s b → Reached D p d os g f (done x) → Ok D (p ++ (b ∷ [])) (goes d os g f x s)
    goes_ok b (digit v) e r = tt
    goes_ok b (joiner true) e r =
        record {
          outside = r.outside;
          gs = r.gs ++ ((r.ps ++ r.y) ++ (44 ∷ []));
          ps = [];
          y = [];
          text = rw (r.text, e) (simp (append_assoc, append-nil));
          above = r.above;
          groups = fronted_push true d r.gs g (r.ps ++ r.y) (close f x) r.groups (group (fronted_close false d r.ps f r.y x r.primaries r.operand));
          primaries = refl;
          operand = refl;
        }
    goes_ok b (joiner false) e r =
        record {
          outside = r.outside;
          gs = r.gs;
          ps = r.ps ++ (r.y ++ (38 ∷ []));
          y = [];
          text = rw (r.text, e) (simp (append_assoc, append-nil));
          above = r.above;
          groups = r.groups;
          primaries = fronted_push false d r.ps f r.y x r.primaries r.operand;
          operand = refl;
        }
    goes_ok b opener e r = tt
    goes_ok b closer e r = rw e (closes_ok r)
    goes_ok b other e r = tt

  -- a number of one digit may be all
  pub ended : (v : ℕ) → Reached D p d os g f (begun v) → Reached D p d os g f (done (goal v))
  ended v r =
      let o = r.operand in
      record {
        outside = r.outside;
        gs = r.gs;
        ps = r.ps;
        y = r.y;
        text = r.text;
        above = r.above;
        groups = r.groups;
        primaries = r.primaries;
        operand = rw o.2 (number (single v o.0 o.1));
      }

  grows_ok : (v b : ℕ) (s : Sign) → Is s b → Reached D p d os g f (begun v) → Ok D (p ++ (b ∷ [])) (grows d os g f v s)
  grows_ok v b (digit w) e r =
      let o = r.operand in
      record {
        outside = r.outside;
        gs = r.gs;
        ps = r.ps;
        y = (48 + v) ∷ (48 + w) ∷ [];
        text = rw (r.text, o.2, e.0) (simp append_assoc);
        above = r.above;
        groups = r.groups;
        primaries = r.primaries;
        operand = number (double v w o.0 o.1 e.1);
      }
  grows_ok v b (joiner k) e r = goes_ok (goal v) b (joiner k) e (ended v r)
  grows_ok v b opener e r = tt
  grows_ok v b closer e r = goes_ok (goal v) b closer e (ended v r)
  grows_ok v b other e r = tt

  pub step_ok : (x : Phase) (b : ℕ) (s : Sign) → Is s b → Reached D p d os g f x → Ok D (p ++ (b ∷ [])) (step d os g f x s)
  step_ok due b s e r = starts_ok b s e r
  step_ok (begun v) b s e r = grows_ok v b s e r
  step_ok (done x) b s e r = goes_ok x b s e r

  -- the whole level, where a primary is read
  pub level-joined : (x : Expr) (r : Reached D p d os g f (done x)) → Joined true d (r.gs ++ (r.ps ++ r.y)) (close g (close f x))
  level-joined x r = fronted_close true d r.gs g (r.ps ++ r.y) (close f x) r.groups (group (fronted_close false d r.ps f r.y x r.primaries r.operand))

-- ---- each state can be completed
finish : (D d : ℕ) (os : List Level) (o : List ℕ) → Above D d os o → (t : List ℕ) (e : Expr) → Joined true d t e → Begins D (o ++ t)
finish D d [] o a t e j = ([], (e, (rw (a.1, append-nil t) (subst (λ c. Joined true c t e) a.0 j))))
finish D d (l ∷ os) o a t e j =
    let y : List ℕ = 40 ∷ (t ++ (41 ∷ [])) in
    let m = group (fronted_close false (suc d) a.2 l.primaries y e a.5 (parens j refl)) in
    let r = finish D (suc d) os a.0 a.3 (a.1 ++ (a.2 ++ y)) (close l.groups (close l.primaries e)) (fronted_close true (suc d) a.1 l.groups (a.2 ++ y) (close l.primaries e) a.4 m) in
    (41 ∷ r.0, (r.1.0, (rw a.6 (subst (λ s. Joined true D s r.1.0) (simp append_assoc) r.1.1))))

module _ (D : ℕ) (p : List ℕ) (d : ℕ) (os : List Level) (g f : Front) where
  viable_done : (x : Expr) → Reached D p d os g f (done x) → Begins D p
  viable_done x r = rw r.text (finish D d os r.outside r.above (r.gs ++ (r.ps ++ r.y)) (close g (close f x)) (level-joined D p d os g f x r))

  viable_begun : (v : ℕ) → Reached D p d os g f (begun v) → Begins D p
  viable_begun v r = viable_done (goal v) (ended D p d os g f v r)

pub viable : (D : ℕ) (p : List ℕ) (d : ℕ) (os : List Level) (g f : Front) (x : Phase) → Reached D p d os g f x → Begins D p
viable D p d os g f due r =
    let b = viable_begun D (p ++ (49 ∷ [])) d os g f 1 (starts_ok D p d os g f 49 (digit 1) (refl, omega arith) r) in
    (49 ∷ b.0, (b.1.0, subst (λ s. Joined true D s b.1.0) (append_assoc p (49 ∷ []) b.0) b.1.1))
viable D p d os g f (begun v) r = viable_begun D p d os g f v r
viable D p d os g f (done x) r = viable_done D p d os g f x r
