-- The sets of specs/Masks.antt have the members that specs/Mel.antt names.
use mathlib.Core.Path.{◌≡◌, refl, sym, ap, ◌∙◌, ap₂}
use mathlib.Core.Logic.{⊎_elim}
use mathlib.Core.Bool.{Bool, true, false, ◌&&◌, ◌||◌, cond, false≢true, or-false}
use mathlib.Core.List.{List}
use Prim.Native.Nat.{ℕ, zero, suc, ◌+◌, ◌-◌, ◌≤◌, ◌<◌, suc-le-suc}
use native.Mathlib.Nat.{eq-or-lt_of_le, le_of_suc-le-suc, le_step, lt-suc_self, le_refl}
use native.Mathlib.Numerals.{add-one}
use native.Mathlib.Omega.{arith}
use lib.Dec.{ltb}
use lib.ListN.{length, get_or, set, replicate}
use borrow.Author.Tests.{lt-ltb}
use Rattle.logic.specs.Table.{table}
use Rattle.logic.proofs.Table.{table_at, table-zero, table_more}
use Rattle.logic.proofs.Bools.{iff, and_l, and_r, and_i, or_elim, or_l, or_r, is_false}
use Rattle.sets.specs.Sets.{has, union, meet}
use Rattle.sets.proofs.Membership.{has-union, has_meet, has_empty, none_empty}
use Rattle.mel_stages.specs.Mel.{goal, some_goal, occurs, shared}
use Rattle.mel_stages.specs.Masks.{once, twice, up_to, goal_with_from, goal_with}
use Rattle.mel_stages.specs.Plain.{Twice}
use Rattle.mel_stages.proofs.Words.{Some, occurs_out, occurs_in, shared_out, shared_in}

pub goal_at : (sets : List ℕ) (g : ℕ) → get_or sets g 0 ≡ goal sets (g + 1)
unfolding goal
goal_at sets g = let e : g + 1 - 1 ≡ g = omega arith in rw e

pub goal_before : (sets : List ℕ) (g : ℕ) → get_or sets (g - 1) 0 ≡ goal sets g
unfolding goal
goal_before sets g = refl

module _ (sets : List ℕ) (p : ℕ) where
  pub has-once : (q x : ℕ) → has (once sets p q) x ≡ occurs sets p q x
  unfolding once occurs some_goal
  has-once zero x = has_empty x
  has-once (suc q) x = go (ltb p (suc q)) (has-once q x)
    where
      f : ℕ → Bool
      f g = has (goal sets g) x

      go : (b : Bool) → has (once sets p q) x ≡ some_goal p q (λ g. has (goal sets g) x)
          → has (cond b (union (once sets p q) (goal sets (suc q))) (once sets p q)) x ≡ some_goal p q (λ g. has (goal sets g) x) || (b && has (goal sets (suc q)) x)
      go true ih = has-union (once sets p q) (goal sets (suc q)) x ∙ ap (λ (t : Bool). t || has (goal sets (suc q)) x) ih
      go false ih = ih ∙ sym (or-false (some_goal p q (λ g. has (goal sets g) x)))

  later : (q x : ℕ) → Twice sets p q x → Twice sets p (suc q) x
  later q x w = record { s = w.s; t = w.t; above = w.above; order = w.order; upto = le_step w.upto; in_s = w.in_s; in_t = w.in_t }

  twice_out : (q x : ℕ) → has (twice sets p q) x ≡ true → Twice sets p q x
  unfolding twice
  twice_out zero x h = absurd (false≢true (sym (has_empty x) ∙ h))
  twice_out (suc q) x h = go (ltb p (suc q)) h (λ e. later q x (twice_out q x e))
    where
      go : (b : Bool) → has (cond b (union (twice sets p q) (meet (once sets p q) (goal sets (suc q)))) (twice sets p q)) x ≡ true
          → (has (twice sets p q) x ≡ true → Twice sets p (suc q) x) → Twice sets p (suc q) x
      go true h ih =
          or_elim (has (twice sets p q) x) (has (meet (once sets p q) (goal sets (suc q))) x) (sym (has-union (twice sets p q) (meet (once sets p q) (goal sets (suc q))) x) ∙ h) ih
          (λ e.
          let both = sym (has_meet (once sets p q) (goal sets (suc q)) x) ∙ e in
          let s = occurs_out sets p q x (sym (has-once q x) ∙ and_l (has (once sets p q) x) (has (goal sets (suc q)) x) both) in
          record {
            s = s.g;
            t = suc q;
            above = s.above;
            order = omega (arith, s.upto);
            upto = le_refl (suc q);
            in_s = s.so;
            in_t = and_r (has (once sets p q) x) (has (goal sets (suc q)) x) both;
          })
      go false h ih = ih h

  twice_in : (q x : ℕ) → Twice sets p q x → has (twice sets p q) x ≡ true
  unfolding twice
  twice_in zero x w = absurd (omega (arith, w.above, w.order, w.upto))
  twice_in (suc q) x w =
      ⊎_elim
      (λ e.
      rw (lt-ltb p (suc q) (omega (arith, w.above, w.order, w.upto)))
      (has-union (twice sets p q) (meet (once sets p q) (goal sets (suc q))) x
      ∙ or_r (has (twice sets p q) x) (has (meet (once sets p q) (goal sets (suc q))) x)
      (has_meet (once sets p q) (goal sets (suc q)) x
      ∙ and_i (has (once sets p q) x) (has (goal sets (suc q)) x)
      (has-once q x ∙ occurs_in sets p q x w.s w.above (omega (arith, w.order, w.upto)) w.in_s)
      (ap (λ (g : ℕ). has (goal sets g) x) (sym e) ∙ w.in_t))))
      (λ k. go (ltb p (suc q)) (twice_in q x (record { s = w.s; t = w.t; above = w.above; order = w.order; upto = le_of_suc-le-suc k; in_s = w.in_s; in_t = w.in_t })))
      (eq-or-lt_of_le w.upto)
    where
      go : (b : Bool) → has (twice sets p q) x ≡ true → has (cond b (union (twice sets p q) (meet (once sets p q) (goal sets (suc q)))) (twice sets p q)) x ≡ true
      go true ih = has-union (twice sets p q) (meet (once sets p q) (goal sets (suc q))) x ∙ or_l (has (twice sets p q) x) (has (meet (once sets p q) (goal sets (suc q))) x) ih
      go false ih = ih

  pub has-twice : (q x : ℕ) → has (twice sets p q) x ≡ shared sets p q x
  has-twice q x = iff _ _ (λ e. shared_in sets p q x (twice_out q x e)) (λ e. twice_in q x (shared_out sets p q x e))

  -- the steps of the loops
  pub once-none : 0 ≡ once sets p p
  once-none = sym (none_to p (le_refl p))
    where
      none_to : (q : ℕ) → q ≤ p → once sets p q ≡ 0
      none_to q h = none_empty (once sets p q) (λ x. has-once q x ∙ is_false (occurs sets p q x) (λ e. let s = occurs_out sets p q x e in absurd (omega (arith, s.above, s.upto))))

  pub twice-none : 0 ≡ twice sets p p
  twice-none = sym (none_empty (twice sets p p) (λ x. has-twice p x ∙ is_false (shared sets p p x) (λ e. let w = shared_out sets p p x e in absurd (omega (arith, w.above, w.order, w.upto)))))

  pub once_more : (g m s : ℕ) → p ≤ g → m ≡ once sets p g → s ≡ goal sets (g + 1) → union m s ≡ once sets p (g + 1)
  unfolding once
  once_more g m s h e f = ap₂ union e f ∙ rw (add-one g, lt-ltb p (suc g) (suc-le-suc h))

  pub twice_more : (g m t s : ℕ) → p ≤ g → m ≡ once sets p g → t ≡ twice sets p g → s ≡ goal sets (g + 1) → union t (meet m s) ≡ twice sets p (g + 1)
  unfolding twice
  twice_more g m t s h e f i = ap₂ union f (ap₂ meet e i) ∙ rw (add-one g, lt-ltb p (suc g) (suc-le-suc h))

-- ---- the variables of goals 1 to g, for each g

module _ (places : ℕ) (sets : List ℕ) where
  pub upto_at : (p : ℕ) → p ≤ length sets → length sets < places → get_or (up_to places sets) p 0 ≡ once sets 0 p
  unfolding up_to
  upto_at p h l = table_at places (length sets + 1) (λ g. once sets 0 g) p (omega arith) (omega arith)

  -- filling the array
  abbrev pub filled : ℕ → List ℕ
  filled k = table places k (λ g. once sets 0 g)

  pub upto_none : replicate places 0 ≡ filled 0
  upto_none = table-zero places (λ g. once sets 0 g)

  filled_at : (k g : ℕ) → g < k → g < places → get_or (filled k) g 0 ≡ once sets 0 g
  filled_at k g h l = table_at places k (λ g. once sets 0 g) g l h

  pub upto_more : (g : ℕ) (l : List ℕ) (v : ℕ) → g < places → l ≡ filled g → v ≡ once sets 0 g → set l g v ≡ filled (g + 1)
  upto_more g l v h e q = table_more places g (λ g. once sets 0 g) l v h e q

  -- one place more, from the place before it
  pub upto_next : (g : ℕ) (l : List ℕ) (v : ℕ) → g + 1 < places → l ≡ filled (g + 1) → v ≡ union (get_or l g 0) (get_or sets g 0) → set l (g + 1) v ≡ filled (g + 1 + 1)
  upto_next g l v h e q =
      let m : get_or l g 0 ≡ once sets 0 g = ap (λ (k : List ℕ). get_or k g 0) e ∙ filled_at (g + 1) g (omega arith) (omega arith) in
      upto_more (g + 1) l v h e (q ∙ once_more sets 0 g (get_or l g 0) (get_or sets g 0) (omega arith) m (goal_at sets g))

  pub upto_all : (k : ℕ) → length sets < k → k ≤ length sets + 1 → filled k ≡ up_to places sets
  unfolding up_to
  upto_all k h l = let e : k ≡ length sets + 1 = omega arith in ap filled e

pub upto_first : (w : ℕ) (sets : List ℕ) → replicate (suc w) 0 ≡ filled (suc w) sets 1
upto_first w sets = upto_more (suc w) sets 0 (replicate (suc w) 0) 0 (omega arith) (upto_none (suc w) sets) (once-none sets 0)

-- ---- the goal that holds a variable

module _ (sets : List ℕ) where
  from_out : (k p x y : ℕ) → has (goal_with_from sets k p x) y ≡ true → Some p (p + k) (λ s. has (goal sets s) x && has (goal sets s) y)
  unfolding goal_with_from
  from_out zero p x y h = absurd (false≢true (sym (has_empty y) ∙ h))
  from_out (suc k) p x y h = go (has (goal sets (suc p)) x) refl (from_out k (suc p) x y) h
    where
      go : (b : Bool) → has (goal sets (suc p)) x ≡ b
          → (has (goal_with_from sets k (suc p) x) y ≡ true → Some (suc p) (suc p + k) (λ s. has (goal sets s) x && has (goal sets s) y))
          → has (cond b (goal sets (suc p)) (goal_with_from sets k (suc p) x)) y ≡ true → Some p (p + suc k) (λ s. has (goal sets s) x && has (goal sets s) y)
      go true e ih h = record { g = suc p; above = lt-suc_self p; upto = omega arith; so = and_i (has (goal sets (suc p)) x) (has (goal sets (suc p)) y) e h }
      go false e ih h = let r = ih h in record { g = r.g; above = omega (arith, r.above); upto = omega (arith, r.upto); so = r.so }

  from_in : (k p x y s : ℕ) → p < s → s ≤ p + k → has (goal sets s) x ≡ true → has (goal sets s) y ≡ true
      → ((t : ℕ) → p < t → t < s → has (goal sets t) x ≡ false) → has (goal_with_from sets k p x) y ≡ true
  unfolding goal_with_from
  from_in zero p x y s a u ex ey none = absurd (omega arith)
  from_in (suc k) p x y s a u ex ey none =
      ⊎_elim
      (λ e. let q : has (goal sets (suc p)) x ≡ true = ap (λ (g : ℕ). has (goal sets g) x) e ∙ ex in rw q (ap (λ (g : ℕ). has (goal sets g) y) e ∙ ey))
      (λ l. rw (none (suc p) (lt-suc_self p) l) (from_in k (suc p) x y s l (omega arith) ex ey (λ t b. none t (omega arith))))
      (eq-or-lt_of_le a)

  -- y stands in a goal of p+1 to q that holds x; and if it does, and x is in no two, it stands in the first that does
  pub goal_with_out : (p q x y : ℕ) → has (goal_with sets p q x) y ≡ true → Some p q (λ s. has (goal sets s) x && has (goal sets s) y)
  unfolding goal_with
  goal_with_out p q x y h =
      let r = from_out (q - p) p x y h in
      record { g = r.g; above = r.above; upto = omega (arith, r.above, r.upto); so = r.so }

  pub goal_with_in : (p q x y s : ℕ) → p < s → s ≤ q → has (goal sets s) x ≡ true → has (goal sets s) y ≡ true → (Twice sets p q x → ⊥) → has (goal_with sets p q x) y ≡ true
  unfolding goal_with
  goal_with_in p q x y s a u ex ey one =
      from_in (q - p) p x y s a (omega arith) ex ey (λ t b l.
      is_false (has (goal sets t) x) (λ e. one (record { s = t; t = s; above = b; order = l; upto = u; in_s = e; in_t = ex })))

  -- the steps of the loop
  pub goal_with-here : (p q x : ℕ) → p < q → has (goal sets (p + 1)) x ≡ true → goal sets (p + 1) ≡ goal_with sets p q x
  unfolding goal_with goal_with_from
  goal_with-here p q x l e = let n : q - p ≡ suc (q - (p + 1)) = omega arith in rw (n, sym (add-one p), e)

  pub goal_with-on : (p q x : ℕ) → p < q → has (goal sets (p + 1)) x ≡ false → goal_with sets p q x ≡ goal_with sets (p + 1) q x
  unfolding goal_with goal_with_from
  goal_with-on p q x l e = let n : q - p ≡ suc (q - (p + 1)) = omega arith in rw (n, sym (add-one p), e)

  pub goal_with-none : (p q x : ℕ) → q ≤ p → 0 ≡ goal_with sets p q x
  unfolding goal_with goal_with_from
  goal_with-none p q x h = let n : q - p ≡ 0 = omega arith in rw n
