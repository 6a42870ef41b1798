-- Writing the members of a form, one after another.
use mathlib.Core.Path.{◌≡◌, refl, sym, ap, ap₂, ◌∙◌, subst}
use mathlib.Core.Bool.{Bool, true, false, not, cond}
use mathlib.Core.List.{List, [], ◌∷◌, ◌++◌, append_assoc, append-nil}
use mathlib.Core.Logic.{◌⊎◌, inl, inr}
use Prim.Native.Nat.{ℕ, suc, ◌+◌, ◌^◌, ◌≤◌, ◌<◌}
use native.Mathlib.Omega.{arith}
use lib.Dec.{eqb}
use lib.ListN.{length, length-append}
use borrow.Author.Tests.{eq-eqb, ne_eqb}
use Rattle.sets.specs.Sets.{without, first, count}
use Rattle.buffer.specs.Text.{Wrote, only}
use Rattle.buffer.specs.Decimal.{decimal}
use Rattle.buffer.proofs.Writing.{then, Left, start, onward, finish}
use Rattle.graph.specs.Graph.{has_goal, ahead, behind}
use Rattle.graph.proofs.Goals.{goal-none, Part}
use Rattle.expression.specs.Expr.{Expr, goal, join, Members, more}
use Rattle.expression.specs.Split.{Component, Starts}
use Rattle.expression.specs.Text.{mark, inner, run, text}
use Rattle.expression.proofs.Exists.{Form}
use Rattle.expression.proofs.Fits.{first_m, first_m_in}
use Rattle.expression.proofs.Split.{FormM, form-members}
use Rattle.form_split.specs.Split.{Has, Ordered, form_of, form_text}
use Rattle.logic.proofs.Bools.{clash}
use Rattle.form_split.proofs.Forms.{Taken, last, next, take, member_less, rest_part, ordered_part, starts-ahead, c_ordered, rest_less}
use Rattle.sets.proofs.Membership.{first_member}
use Rattle.sets.proofs.Members.{first_in_lem}

module _ (w : ℕ) (after : List ℕ) (set : ℕ) (nested : Bool) where
  -- the text of a goal
  pub text-goal : (g : ℕ) → form_of w after set ≡ goal g → decimal g ≡ form_text w nested after set
  unfolding form_text
  text-goal g e = go nested ∙ sym (ap₂ (λ (x y : Expr). cond nested (inner x) (text y)) e e)
    where
      go : (b : Bool) → decimal g ≡ cond b (inner (goal g)) (text (goal g))
      go true = refl
      go false = refl

  -- what stands between the parentheses, and the closing one
  unfoldable pub body : List ℕ
  body = text (form_of w after set) ++ only nested 41

  -- the text of more goals
  pub text_join : (k : Bool) (a : Expr) (ms : Members) → form_of w after set ≡ join k a ms → only nested 40 ++ body ≡ form_text w nested after set
  unfolding form_text body only
  text_join k a ms e = ap (λ (x : Expr). only nested 40 ++ (text x ++ only nested 41)) e ∙ go nested ∙ sym (ap₂ (λ (x y : Expr). cond nested (inner x) (text y)) e e)
    where
      go : (b : Bool) → only b 40 ++ (text (join k a ms) ++ only b 41) ≡ cond b (inner (join k a ms)) (text (join k a ms))
      go true = refl
      go false = append-nil (text (join k a ms))

joined : (i r z : List ℕ) (m : ℕ) → i ++ (m ∷ r) ++ z ≡ i ++ (m ∷ []) ++ (r ++ z)
joined i r z m = append_assoc i (m ∷ r) z ∙ sym (append_assoc i (m ∷ []) (r ++ z))

-- What is left to write of the members of a k join: the goals `rest`, and the closing parenthesis.
module _ (R : ℕ → ℕ → Bool) (k nested : Bool) where
  abbrev pub Todo : ℕ → List ℕ → Type 0
  Todo rest t = ((rest ≡ 0) × (t ≡ only nested 41)) ⊎ ((ms : Members) × FormM R k (Has rest) ms × (t ≡ run k ms ++ only nested 41))

-- the mark after a member, where `rest` is left
abbrev pub further : Bool → ℕ → List ℕ
further k rest = only (not (eqb rest 0)) (mark k)

-- The state of the loop that writes them: it began at the place `from` of the buffer `old`.
pub record Going (w : ℕ) (after : List ℕ) (k nested : Bool) (set from : ℕ) (old : List ℕ) (rest at : ℕ) (new : List ℕ) : Type 0 where
  pub part : Part rest set
  pub left : List ℕ
  pub todo : Todo (ahead after) k nested rest left
  pub wrote : Left left (body w after set nested) from old at new

module _ (w : ℕ) (after prior : List ℕ) (k nested : Bool) (set : ℕ) where
  -- all of them are left
  pub go_start : (a : Expr) (ms : Members) → form_of w after set ≡ join k a ms → Form (ahead after) (Has set) (form_of w after set) → (at : ℕ) (out : List ℕ)
      → Going w after k nested set at out set at out
  unfolding body
  go_start a ms e f at out =
      record {
        part = λ g h. h;
        left = body w after set nested;
        todo = inr (more a ms, form-members (subst (Form (ahead after) (Has set)) e f), ap (λ (x : Expr). text x ++ only nested 41) e);
        wrote = start (body w after set nested) at out;
      }

  module _ {from : ℕ} {old : List ℕ} {rest at : ℕ} {new : List ℕ} (st : Going w after k nested set from old rest at new) where
    -- a set with members left is not empty
    some_left : {m : ℕ} (ms : Members) → FormM (ahead after) k (Has m) ms → m ≡ 0 → ⊥
    some_left ms f z = clash ((f.covers (first_m ms)).0 (first_m_in ms)) (ap (λ (m : ℕ). has_goal m (first_m ms)) z ∙ goal-none (first_m ms))

    -- none of them is left
    pub go_end : rest ≡ 0 → {e : ℕ} {b : List ℕ} → Wrote (only nested 41) at new e b → Wrote (body w after set nested) from old e b
    go_end z {e} {b} x = finish st.wrote (subst (λ (t : List ℕ). Wrote t at new e b) (sym (closing st.todo)) x)
      where
        closing : Todo (ahead after) k nested rest st.left → st.left ≡ only nested 41
        closing (inl q) = q.1
        closing (inr q) = absurd (some_left q.0 q.1 z)

    module _ (l : set < 2 ^ w) (o : Ordered after prior set) (c x : ℕ) (h : Has rest x) (m : Component (ahead after) k (Has rest) x (Has c))
        (s : Starts (ahead after) k (Has rest) x) where
      -- the next member's text, and what is left after it
      pub record Turn : Type 0 where
        pub after_it : List ℕ
        pub split : st.left ≡ form_text w true after c ++ further k (without rest c) ++ after_it
        pub todo : Todo (ahead after) k nested (without rest c) after_it
        pub fewer : (a : Expr) (ms : Members) → form_of w after set ≡ join k a ms → count c < count set

      pub turn : Turn
      unfolding form_text only
      turn = go st.todo
        where
          member : {ms : Members} → st.left ≡ run k ms ++ only nested 41 → Taken after prior w rest c l st.part o h m ms → Turn
          member e (last {b = b} n f z) =
              record {
                after_it = only nested 41;
                split =
                    e ∙ ap (λ (y : Expr). inner y ++ only nested 41) f
                    ∙ ap (λ (t : List ℕ). t ++ only nested 41) (sym (append-nil (inner (form_of w after c))))
                    ∙ sym (ap (λ (t : Bool). inner (form_of w after c) ++ only (not t) (mark k) ++ only nested 41) (eq-eqb (without rest c) 0 z));
                todo = inl (z, refl);
                fewer = λ a ms j. member_less after prior w rest c l st.part o h m a ms j n f;
              }
          member e (next {b = b} {bs = bs} n f v) =
              record {
                after_it = run k bs ++ only nested 41;
                split =
                    e ∙ joined (inner b) (run k bs) (only nested 41) (mark k) ∙ ap (λ (y : Expr). inner y ++ (mark k ∷ []) ++ (run k bs ++ only nested 41)) f
                    ∙ sym
                    (ap (λ (t : Bool). inner (form_of w after c) ++ only (not t) (mark k) ++ (run k bs ++ only nested 41)) (ne_eqb (without rest c) 0 (some_left bs v)));
                todo = inr (bs, v, refl);
                fewer = λ a ms j. member_less after prior w rest c l st.part o h m a ms j n f;
              }

          go : Todo (ahead after) k nested rest st.left → Turn
          go (inl q) = clash h (ap (λ (z : ℕ). has_goal z x) q.0 ∙ goal-none x)
          go (inr q) = member q.2 (take after prior w rest c l st.part o h m s q.0 q.1)

      -- there is room for it
      pub turn_room : (t : Turn) → at + length (form_text w true after c) ≤ from + length (body w after set nested)
      turn_room t =
          omega (
            arith,
            st.wrote.place,
            ap length t.split,
            length-append (form_text w true after c ++ further k (without rest c)) t.after_it,
            length-append (form_text w true after c) (further k (without rest c)),
          )

      -- it is written
      pub go_on : (t : Turn) → {p q : ℕ} {n₁ n₂ : List ℕ} → Wrote (form_text w true after c) at new p n₁ → Wrote (further k (without rest c)) p n₁ q n₂
          → Going w after k nested set from old (without rest c) q n₂
      go_on t u v =
          record {
            part = rest_part after prior w rest c l st.part o h m;
            left = t.after_it;
            todo = t.todo;
            wrote = onward st.wrote (then u v) t.split;
          }

-- What one turn of the loop, with the component c of a goal x that starts what is left, does.
pub record Step (w : ℕ) (after prior : List ℕ) (k nested : Bool) (set from : ℕ) (old : List ℕ) (rest at : ℕ) (new : List ℕ) (c : ℕ) : Type 0 where
  pub ordered : Ordered after prior c
  pub fewer : count c < count set
  pub less : count (without rest c) < count rest
  pub room : at + length (form_text w true after c) ≤ from + length (body w after set nested)
  pub on : {p q : ℕ} {n₁ n₂ : List ℕ} → Wrote (form_text w true after c) at new p n₁ → (r : ℕ) → r ≡ without rest c → Wrote (further k r) p n₁ q n₂
      → Going w after k nested set from old r q n₂

pub step : (w : ℕ) (after prior : List ℕ) (k nested : Bool) (set : ℕ) {from : ℕ} {old : List ℕ} {rest at : ℕ} {new : List ℕ} → set < 2 ^ w → rest < 2 ^ w
    → Ordered after prior set → (a : Expr) (ms : Members) → form_of w after set ≡ join k a ms → Going w after k nested set from old rest at new → (c x : ℕ)
    → Has rest x → Starts (behind prior) k (Has rest) x → Component (ahead after) k (Has rest) x (Has c)
    → Step w after prior k nested set from old rest at new c
step w after prior k nested set {from = from} {old = old} {rest = rest} l lr o a ms e st c x h s m =
    let s' = starts-ahead after prior (ordered_part after prior st.part x h o) h s in
    let t = turn w after prior k nested set st l o c x h m s' in
    record {
      ordered = c_ordered after prior w rest c l st.part o h m;
      fewer = t.fewer a ms e;
      less = rest_less after prior w rest c l st.part o h m lr;
      room = turn_room w after prior k nested set st l o c x h m s' t;
      on =
          λ {p} {q} {n₁} {n₂} u r z v.
          subst (λ (y : ℕ). Going w after k nested set from old y q n₂) (sym z)
          (go_on w after prior k nested set st l o c x h m s' t u (subst (λ (y : ℕ). Wrote (further k y) p n₁ q n₂) z v));
    }

-- without parentheses a text is not longer
shorter : (w : ℕ) (nested : Bool) (after : List ℕ) (set : ℕ) → length (form_text w nested after set) ≤ length (form_text w true after set)
unfolding form_text
shorter w true after set = omega arith
shorter w false after set = go (form_of w after set)
  where
    go : (e : Expr) → length (text e) ≤ length (inner e)
    go (goal g) = omega arith
    go (join k e ms) = omega (arith, length-append (run k (more e ms)) (41 ∷ []))

-- there is room for the member, with parentheses or without
pub fits : {w : ℕ} {after prior : List ℕ} {k nested : Bool} {set from : ℕ} {old : List ℕ} {rest at : ℕ} {new : List ℕ} {c : ℕ}
    → Step w after prior k nested set from old rest at new c → from + length (body w after set nested) < 2 ^ 63 → (b : Bool) {p : ℕ}
    → p ≡ at + length (form_text w b after c) → p < 2 ^ 63
fits {w} {after} {c = c} s l b e = omega (arith, s.room, shorter w b after c)

-- a set that is not empty has a goal
pub some_goal_lem : (w m : ℕ) → m < 2 ^ w → (m ≡ 0 → ⊥) → (g : ℕ) × Has m g
some_goal_lem w m l n = (suc (first w m), first_member w m (first_in_lem w m l n))
