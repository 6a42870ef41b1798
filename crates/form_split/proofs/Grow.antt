-- The loop that grows the part of a set that hangs together with a goal: `left` is what is not yet in it, `todo` what is in it and whose neighbours are
-- not yet looked at; and the loop that finds the neighbours of a set.
use mathlib.Core.Path.{◌≡◌, refl, sym, ap, ◌∙◌, subst}
use mathlib.Core.Bool.{Bool, true, false, not, ◌&&◌, ◌||◌, cond, or_assoc, false≢true}
use mathlib.Core.List.{List, [], ◌∷◌}
use mathlib.Core.Logic.{◌⊎◌, inl, inr, ⊎_elim}
use Prim.Native.Nat.{ℕ, zero, suc, ◌+◌, ◌-◌, ◌^◌, ◌<◌}
use native.Mathlib.Omega.{arith}
use lib.Dec.{eqb, ltb}
use lib.ListN.{get_or}
use lib.Pow.{pow_pos}
use borrow.Author.Tests.{eqb-true}
use Rattle.logic.specs.Quantifiers.{some_below}
use Rattle.logic.proofs.Bools.{test, iff, and_l, and_r, and_i, or_elim, or_l, or_r, not-true, is_false, clash}
use Rattle.logic.proofs.Quantifiers.{below_in, below_out}
use Rattle.sets.specs.Sets.{has, union, meet, without, single, set_of, first, count, members}
use Rattle.sets.proofs.Membership.{has-union, has_empty, member_below, ext, first_member}
use Rattle.sets.proofs.Members.{first_in_lem, In, in_members, members_in}
use Rattle.sets.proofs.Builder.{union_lt, has-set_of, has-set_of_in, set_of_ext, set_of_lt}
use Rattle.graph.specs.Graph.{has_goal, ahead}
use Rattle.graph.proofs.Goals.{goal-union, goal-meet, goal-without, goal-none, goal-single, single-goal, Part, part_lt, part_less}
use Rattle.expression.specs.Split.{tie, Component}
use Rattle.form_split.specs.Split.{Has, Turned}
use Rattle.form_split.specs.Hang.{hanging, hanging_any, pending}

-- what a goal of `without a b`, of `union a b` is
pub without_l : (a b g : ℕ) → Has (without a b) g → Has a g
without_l a b g h = and_l (has_goal a g) (not (has_goal b g)) (sym (goal-without a b g) ∙ h)

pub without_r : (a b g : ℕ) → Has (without a b) g → has_goal b g ≡ false
without_r a b g h = not-true (has_goal b g) (and_r (has_goal a g) (not (has_goal b g)) (sym (goal-without a b g) ∙ h))

pub without-i : (a b g : ℕ) → Has a g → has_goal b g ≡ false → Has (without a b) g
without-i a b g h f = goal-without a b g ∙ and_i (has_goal a g) (not (has_goal b g)) h (ap not f)

-- the set of goal x + 1 alone
pub alone : (x : ℕ) {m : ℕ} → m ≡ single (x + 1 - 1) → m ≡ single x
alone x e = let z : x + 1 - 1 ≡ x = omega arith in e ∙ ap single z

-- ---- what hangs together with a goal of a set

-- `fresh` is those of `left` that hang together with a goal of `todo`
pub record Near (after prior : List ℕ) (k : Bool) (left todo fresh : ℕ) : Type 0 where
  pub from : (g : ℕ) → Has fresh g → (i : ℕ) × Has todo (suc i) × Has (hanging after prior k left i) g
  pub all : (i g : ℕ) → Has todo (suc i) → Has (hanging after prior k left i) g → Has fresh g

module _ (after prior : List ℕ) (k : Bool) (left : ℕ) where
  hanging_part : (i : ℕ) → Part (hanging after prior k left i) left
  unfolding hanging
  hanging_part i g = go k
    where
      go : (k : Bool) → Has (cond k (without left (union (get_or after i 0) (get_or prior i 0))) (meet left (union (get_or after i 0) (get_or prior i 0)))) g → Has left g
      go true e = without_l left (union (get_or after i 0) (get_or prior i 0)) g e
      go false e = and_l (has_goal left g) (has_goal (union (get_or after i 0) (get_or prior i 0)) g) (sym (goal-meet left (union (get_or after i 0) (get_or prior i 0)) g) ∙ e)

  near_part : {todo fresh : ℕ} → Near after prior k left todo fresh → Part fresh left
  near_part n g e = hanging_part (n.from g e).0 g (n.from g e).2

  near_single : (x : ℕ) → Near after prior k left (single x) (hanging after prior k left x)
  near_single x =
      record {
        from = λ g e. (x, goal-single x, e);
        all = λ i g u e. let s : i ≡ x = omega (arith, single-goal x (suc i) u) in ap (λ (z : ℕ). has_goal (hanging after prior k left z) g) (sym s) ∙ e;
      }

  -- those that hang together with a goal of a list
  abbrev pub any_of : List ℕ → ℕ
  any_of [] = 0
  any_of (i ∷ l) = union (hanging after prior k left i) (any_of l)

  any_in : (l : List ℕ) (i j : ℕ) → In i l → has (hanging after prior k left i) j ≡ true → has (any_of l) j ≡ true
  any_in [] i j p h = absurd p
  any_in (x ∷ l) i j p h =
      has-union (hanging after prior k left x) (any_of l) j
      ∙ ⊎_elim (λ e. or_l (has (hanging after prior k left x) j) (has (any_of l) j) (ap (λ (z : ℕ). has (hanging after prior k left z) j) (sym e) ∙ h))
      (λ q. or_r (has (hanging after prior k left x) j) (has (any_of l) j) (any_in l i j q h)) p

  any_out : (l : List ℕ) (j : ℕ) → has (any_of l) j ≡ true → (i : ℕ) × In i l × (has (hanging after prior k left i) j ≡ true)
  any_out [] j h = absurd (false≢true (sym (has_empty j) ∙ h))
  any_out (x ∷ l) j h =
      or_elim (has (hanging after prior k left x) j) (has (any_of l) j) (sym (has-union (hanging after prior k left x) (any_of l) j) ∙ h)
      (λ e. (x, inl refl, e)) (λ e. let o = any_out l j e in (o.0, inr o.1, o.2))

  module _ (w : ℕ) (ll : left < 2 ^ w) where
    near_any : (todo : ℕ) → todo < 2 ^ w → Near after prior k left todo (hanging_any w after prior k left todo)
    unfolding hanging_any
    near_any todo lt = record { from = from; all = all }
      where
        from : (g : ℕ) → Has (set_of w (λ j. some_below w (λ i. has todo i && has (hanging after prior k left i) j))) g
            → (i : ℕ) × Has todo (suc i) × Has (hanging after prior k left i) g
        from zero e = absurd (false≢true e)
        from (suc j) e =
            let f : ℕ → Bool = λ i. has todo i && has (hanging after prior k left i) j in
            let b = below_out w f (and_r (ltb j w) (some_below w f) (sym (has-set_of w (λ j. some_below w (λ i. has todo i && has (hanging after prior k left i) j)) j) ∙ e)) in
            (b.x, and_l (has todo b.x) (has (hanging after prior k left b.x) j) b.so, and_r (has todo b.x) (has (hanging after prior k left b.x) j) b.so)

        all : (i g : ℕ) → Has todo (suc i) → Has (hanging after prior k left i) g
            → Has (set_of w (λ j. some_below w (λ i. has todo i && has (hanging after prior k left i) j))) g
        all i zero u e = absurd (false≢true e)
        all i (suc j) u e =
            has-set_of_in w (λ j. some_below w (λ i. has todo i && has (hanging after prior k left i) j)) j
            (member_below w left j ll (hanging_part i (suc j) e))
            ∙ below_in w (λ i. has todo i && has (hanging after prior k left i) j) i (member_below w todo i lt u)
            (and_i (has todo i) (has (hanging after prior k left i) j) u e)

    any_lt : (l : List ℕ) → any_of l < 2 ^ w
    any_lt [] = pow_pos w
    any_lt (i ∷ l) = union_lt w (hanging after prior k left i) (any_of l) (part_lt w (hanging after prior k left i) left (hanging_part i) ll) (any_lt l)

    -- at first all members are to come
    pub any_all : (set : ℕ) → any_of (members w set) ≡ hanging_any w after prior k left set
    unfolding hanging_any
    any_all set =
        set_of_ext w (any_of (members w set)) (λ j. some_below w (f j)) (any_lt (members w set))
        (λ j l.
        iff (has (any_of (members w set)) j) (some_below w (f j))
        (λ e.
        let o = any_out (members w set) j e in
        let m = in_members w 0 set o.0 o.1 in
        below_in w (f j) o.0 (omega (arith, m.1)) (and_i (has set o.0) (has (hanging after prior k left o.0) j) m.2 o.2))
        (λ e.
        let b = below_out w (f j) e in
        any_in (members w set) b.x j
        (members_in w 0 set b.x (omega arith) (omega (arith, b.under)) (and_l (has set b.x) (has (hanging after prior k left b.x) j) b.so))
        (and_r (has set b.x) (has (hanging after prior k left b.x) j) b.so)))
      where
        f : ℕ → ℕ → Bool
        f j i = has set i && has (hanging after prior k left i) j

-- The loop over the goals of a set: `all` has what hangs together with those it was at, the goals of `l` are still to come.
pub record Finding (w : ℕ) (after prior : List ℕ) (k : Bool) (left set all : ℕ) (l : List ℕ) : Type 0 where
  pub small : all < 2 ^ w
  pub same : (j : ℕ) → has all j || has (any_of after prior k left l) j ≡ has (hanging_any w after prior k left set) j

module _ {w : ℕ} {after prior : List ℕ} {k : Bool} {left set : ℕ} where
  pub find_all : left < 2 ^ w → (rest : ℕ) → rest ≡ set → Finding w after prior k left set 0 (members w rest)
  find_all ll rest e =
      record {
        small = pow_pos w;
        same = λ j.
            ap (λ (t : Bool). t || has (any_of after prior k left (members w rest)) j) (has_empty j)
            ∙ ap (λ (m : ℕ). has m j) (any_all after prior k left w ll rest ∙ ap (hanging_any w after prior k left) e);
      }

  pub find_more : {all : ℕ} {l : List ℕ} → Finding w after prior k left set all l → {i : ℕ} {l' : List ℕ} → l ≡ i ∷ l' → {all' fresh : ℕ} → fresh ≡ hanging after prior k left i
      → all' ≡ union all fresh → all' < 2 ^ w → Finding w after prior k left set all' l'
  find_more {all} st {i} {l'} e {all'} {fresh} ef ea small =
      record {
        small = small;
        same = λ j.
            ap (λ (m : ℕ). has m j || has (any_of after prior k left l') j) (ea ∙ ap (union all) ef)
            ∙ ap (λ (t : Bool). t || has (any_of after prior k left l') j) (has-union all (hanging after prior k left i) j)
            ∙ or_assoc (has all j) (has (hanging after prior k left i) j) (has (any_of after prior k left l') j)
            ∙ ap (λ (t : Bool). has all j || t) (sym (has-union (hanging after prior k left i) (any_of after prior k left l') j))
            ∙ ap (λ (m : List ℕ). has all j || has (any_of after prior k left m) j) (sym e)
            ∙ st.same j;
      }

  pub find_end : {all : ℕ} {l : List ℕ} → Finding w after prior k left set all l → l ≡ [] → all ≡ hanging_any w after prior k left set
  unfolding hanging_any
  find_end {all} st e =
      ext w all (hanging_any w after prior k left set) st.small (set_of_lt w _)
      (λ j l. none j (has all j) ∙ ap (λ (m : List ℕ). has all j || has (any_of after prior k left m) j) (sym e) ∙ st.same j)
    where
      none : (j : ℕ) (t : Bool) → t ≡ t || has 0 j
      none j true = refl
      none j false = sym (has_empty j)

-- ---- the part grows

pub record Growing (after : List ℕ) (k : Bool) (set x left todo : ℕ) : Type 0 where
  pub left_in : (g : ℕ) → Has left g → Has set g
  pub todo_in : (g : ℕ) → Has todo g → Has set g
  pub apart : (g : ℕ) → Has todo g → has_goal left g ≡ false
  pub start : has_goal left (suc x) ≡ false
  pub looked : (g j : ℕ) → Has set g → has_goal left g ≡ false → has_goal todo g ≡ false → Has left j → tie (ahead after) g j ≡ not k → ⊥
  pub smallest : (Q : ℕ → Bool) → Q (suc x) ≡ true → ((i j : ℕ) → Q i ≡ true → Has set j → tie (ahead after) i j ≡ not k → Q j ≡ true) → (g : ℕ) → Has set g
      → has_goal left g ≡ false → Q g ≡ true

module _ (after prior : List ℕ) (k : Bool) (set : ℕ) (turned : Turned after prior set) where
  abbrev R : ℕ → ℕ → Bool
  R = ahead after

  near_has : (i g : ℕ) → Has set (suc i) → Has set g → has_goal (union (get_or after i 0) (get_or prior i 0)) g ≡ tie R (suc i) g
  near_has i g h s =
      goal-union (get_or after i 0) (get_or prior i 0) g ∙ ap (λ (t : Bool). has_goal (get_or after i 0) g || t) (turned g (suc i) s h)

  module _ (left i g : ℕ) (h : Has set (suc i)) (s : Has set g) where
    hanging_in : Has left g → tie R (suc i) g ≡ not k → Has (hanging after prior k left i) g
    unfolding hanging
    hanging_in l t = go k (near_has i g h s ∙ t)
      where
        go : (k : Bool) → has_goal (union (get_or after i 0) (get_or prior i 0)) g ≡ not k
            → Has (cond k (without left (union (get_or after i 0) (get_or prior i 0))) (meet left (union (get_or after i 0) (get_or prior i 0)))) g
        go true e = without-i left (union (get_or after i 0) (get_or prior i 0)) g l e
        go false e = goal-meet left (union (get_or after i 0) (get_or prior i 0)) g ∙ and_i (has_goal left g) (has_goal (union (get_or after i 0) (get_or prior i 0)) g) l e

    hanging_out : Has (hanging after prior k left i) g → Has left g × (tie R (suc i) g ≡ not k)
    unfolding hanging
    hanging_out e = let r = go k e in (r.0, sym (near_has i g h s) ∙ r.1)
      where
        go : (k : Bool) → Has (cond k (without left (union (get_or after i 0) (get_or prior i 0))) (meet left (union (get_or after i 0) (get_or prior i 0)))) g
            → Has left g × (has_goal (union (get_or after i 0) (get_or prior i 0)) g ≡ not k)
        go true e = (without_l left (union (get_or after i 0) (get_or prior i 0)) g e, without_r left (union (get_or after i 0) (get_or prior i 0)) g e)
        go false e =
            let m = sym (goal-meet left (union (get_or after i 0) (get_or prior i 0)) g) ∙ e in
            (and_l (has_goal left g) (has_goal (union (get_or after i 0) (get_or prior i 0)) g) m, and_r (has_goal left g) (has_goal (union (get_or after i 0) (get_or prior i 0)) g) m)

  module _ (x : ℕ) where
    -- at first it is the goal alone
    pub grow_start : Has set (suc x) → Growing after k set x (without set (single x)) (single x)
    grow_start h =
        record {
          left_in = λ g e. without_l set (single x) g e;
          todo_in = λ g e. subst (Has set) (sym (single-goal x g e)) h;
          apart = λ g e. is_false (has_goal (without set (single x)) g) (λ t. clash e (without_r set (single x) g t));
          start = is_false (has_goal (without set (single x)) (suc x)) (λ t. clash (goal-single x) (without_r set (single x) (suc x) t));
          looked =
              λ g j s f t l e.
              clash (without-i set (single x) g s t) f;
          smallest =
              λ Q q c g s f.
              ⊎_elim (λ t. ap Q (single-goal x g t) ∙ q) (λ t. clash (without-i set (single x) g s t) f) (test (has_goal (single x) g));
        }

    -- in the end it is the component
    pub grow_end : {left todo : ℕ} → Has set (suc x) → Growing after k set x left todo → todo ≡ 0 → Component R k (Has set) (suc x) (Has (without set left))
    grow_end {left} {todo} h st z =
        record {
          inside = λ g e. without_l set left g e;
          start = without-i set left (suc x) h st.start;
          closed =
              λ g j e s t.
              without-i set left j s
              (is_false (has_goal left j)
              (λ l. st.looked g j (without_l set left g e) (without_r set left g e) (ap (λ (m : ℕ). has_goal m g) z ∙ goal-none g) l t));
          smallest = λ Q q c g e. st.smallest Q q c g (without_l set left g e) (without_r set left g e);
        }

    -- a goal that nothing hangs together with is a component alone
    pub grow_alone : Has set (suc x) → {one rest fresh : ℕ} → one ≡ single x → rest ≡ without set one → fresh ≡ hanging after prior k rest x → fresh ≡ 0
        → Component R k (Has set) (suc x) (Has one)
    grow_alone h {one} {rest} {fresh} eo er ef z =
        let only : (g : ℕ) → Has one g → g ≡ suc x = λ g e. single-goal x g (ap (λ (m : ℕ). has_goal m g) (sym eo) ∙ e) in
        record {
          inside = λ g e. subst (Has set) (sym (only g e)) h;
          start = ap (λ (m : ℕ). has_goal m (suc x)) eo ∙ goal-single x;
          closed =
              λ g j e s t.
              ⊎_elim (λ (d : Has one j). d)
              (λ (d : has_goal one j ≡ false).
              clash
              (hanging_in rest x j h s (ap (λ (m : ℕ). has_goal m j) er ∙ without-i set one j s d) (ap (λ (m : ℕ). tie R m j) (sym (only g e)) ∙ t))
              (ap (λ (m : ℕ). has_goal m j) (sym ef ∙ z) ∙ goal-none j))
              (test (has_goal one j));
          smallest = λ Q q c g e. ap Q (only g e) ∙ q;
        }

    -- all that hangs together with a goal of `todo` comes into the part
    module _ {left todo fresh : ℕ} (st : Growing after k set x left todo) (n : Near after prior k left todo fresh) where
      -- a goal that is no longer left is fresh, or was not left before
      taken : (g : ℕ) → has_goal (without left fresh) g ≡ false → (has_goal left g ≡ false) ⊎ Has fresh g
      taken g f =
          ⊎_elim (λ t. inr t)
          (λ t. inl (is_false (has_goal left g) (λ l. clash (without-i left fresh g l t) f))) (test (has_goal fresh g))

      grow_on : Growing after k set x (without left fresh) fresh
      grow_on =
          record {
            left_in = λ g e. st.left_in g (without_l left fresh g e);
            todo_in = λ g e. st.left_in g (near_part after prior k left n g e);
            apart = λ g e. is_false (has_goal (without left fresh) g) (λ l. clash e (without_r left fresh g l));
            start = is_false (has_goal (without left fresh) (suc x)) (λ t. clash (without_l left fresh (suc x) t) st.start);
            looked =
                λ g j s f t l e.
                ⊎_elim
                (λ (q : has_goal left g ≡ false).
                ⊎_elim (λ (d : Has todo g). near g j d l e) (λ (d : has_goal todo g ≡ false). st.looked g j s q d (without_l left fresh j l) e)
                (test (has_goal todo g)))
                (λ (q : Has fresh g). clash q t) (taken g f);
            smallest =
                λ Q q c g s f.
                ⊎_elim (λ t. st.smallest Q q c g s t)
                (λ t.
                let o = n.from g t in
                let i = suc o.0 in
                let mine = st.todo_in i o.1 in
                c i g (st.smallest Q q c i mine (st.apart i o.1)) s (hanging_out left o.0 g mine s o.2).1) (taken g f);
          }
        where
          -- what hangs together with a goal of `todo` is fresh
          near : (g j : ℕ) → Has todo g → Has (without left fresh) j → tie R g j ≡ not k → ⊥
          near zero j d l e = false≢true d
          near (suc i) j d l e =
              let in_left = without_l left fresh j l in
              clash (n.all i j d (hanging_in left i j (st.todo_in (suc i) d) (st.left_in j in_left) in_left e)) (without_r left fresh j l)

      -- what is left now, and to be looked at, was left; what was to be looked at is neither
      grow_less : (w : ℕ) → set < 2 ^ w → (todo ≡ 0 → ⊥) → (todo' : ℕ) → Part todo' fresh → count (union (without left fresh) todo') < count (union left todo)
      grow_less w l some todo' fewer =
          part_less w (union (without left fresh) todo') (union left todo)
          (λ g e. goal-union left todo g ∙ or_l (has_goal left g) (has_goal todo g) (was_left g e)) (part_lt w (union left todo) set all l)
          (λ e.
          clash (was_left i (ap (λ (m : ℕ). has_goal m i) e ∙ goal-union left todo i ∙ or_r (has_goal left i) (has_goal todo i) there)) (st.apart i there))
        where
          i : ℕ
          i = suc (first w todo)

          there : Has todo i
          there = first_member w todo (first_in_lem w todo (part_lt w todo set st.todo_in l) some)

          all : Part (union left todo) set
          all g e = or_elim (has_goal left g) (has_goal todo g) (sym (goal-union left todo g) ∙ e) (st.left_in g) (st.todo_in g)

          was_left : Part (union (without left fresh) todo') left
          was_left g e =
              or_elim (has_goal (without left fresh) g) (has_goal todo' g) (sym (goal-union (without left fresh) todo' g) ∙ e)
              (without_l left fresh g) (λ t. near_part after prior k left n g (fewer g t))

    -- where nothing is left, nothing is to be looked at
    grow_pending : {left todo : ℕ} → Growing after k set x left todo → Growing after k set x left (pending todo left)
    unfolding pending
    grow_pending {left} {todo} st = go (eqb left 0) refl
      where
        go : (t : Bool) → eqb left 0 ≡ t → Growing after k set x left (cond t 0 todo)
        go true e =
            record {
              left_in = st.left_in;
              todo_in = λ g h. clash h (goal-none g);
              apart = λ g h. clash h (goal-none g);
              start = st.start;
              looked = λ g j s f t l d. clash l (ap (λ (m : ℕ). has_goal m j) (eqb-true left 0 e) ∙ goal-none j);
              smallest = st.smallest;
            }
        go false e = st

    pending_part : (todo left : ℕ) → Part (pending todo left) todo
    unfolding pending
    pending_part todo left = go (eqb left 0)
      where
        go : (t : Bool) → Part (cond t 0 todo) todo
        go true g h = clash h (goal-none g)
        go false g h = h

    -- one step, as the code takes it
    grow_next : {left todo fresh left' todo' : ℕ} → Growing after k set x left todo → Near after prior k left todo fresh → left' ≡ without left fresh
        → todo' ≡ pending fresh left' → Growing after k set x left' todo'
    grow_next {fresh = fresh} {left' = left'} st n el et =
        subst (Growing after k set x left') (sym et) (grow_pending (subst (λ (m : ℕ). Growing after k set x m fresh) (sym el) (grow_on st n)))

    -- the goal itself is looked at before the loop
    pub grow_begin : Has set (suc x) → {one rest fresh left todo : ℕ} → one ≡ single x → rest ≡ without set one → fresh ≡ hanging after prior k rest x
        → left ≡ without rest fresh → todo ≡ pending fresh left → Growing after k set x left todo
    grow_begin h {rest = rest} eo er ef =
        grow_next (subst (λ (m : ℕ). Growing after k set x m (single x)) (sym (er ∙ ap (without set) eo)) (grow_start h))
        (subst (Near after prior k rest (single x)) (sym ef) (near_single after prior k rest x))

    pub grow_step : {left todo fresh left' todo' : ℕ} → (w : ℕ) → set < 2 ^ w → Growing after k set x left todo → (todo ≡ 0 → ⊥)
        → fresh ≡ hanging_any w after prior k left todo → left' ≡ without left fresh → todo' ≡ pending fresh left'
        → Growing after k set x left' todo' × (count (union left' todo') < count (union left todo))
    grow_step {left} {todo} {fresh} {left'} {todo'} w l st some ef el et =
        let n : Near after prior k left todo fresh
        = subst (Near after prior k left todo) (sym ef) (near_any after prior k left w (part_lt w left set st.left_in l) todo (part_lt w todo set st.todo_in l)) in
        let p : Part todo' fresh = λ g h. pending_part fresh left' g (ap (λ (m : ℕ). has_goal m g) (sym et) ∙ h) in
        (grow_next st n el et, subst (λ (m : ℕ). count (union m todo') < count (union left todo)) (sym el) (grow_less st n w l some todo' p))

    pub grow_done : {left todo r : ℕ} → Has set (suc x) → Growing after k set x left todo → todo ≡ 0 → r ≡ without set left
        → Component (ahead after) k (Has set) (suc x) (Has r)
    grow_done h st z e = subst (λ (r : ℕ). Component (ahead after) k (Has set) (suc x) (Has r)) (sym e) (grow_end h st z)
