-- A tick as a whole: it keeps validity, until all goals have ended some head works, and then nothing changes.
use mathlib.Core.Path.{◌≡◌, refl, sym, ap, ap₂, ◌∙◌, subst, fun_ext}
use mathlib.Core.Bool.{Bool, true, false, not, ◌&&◌, ◌||◌, cond, true≢false, or-true, or-false}
use mathlib.Core.List.{List, [], ◌∷◌, map}
use mathlib.Core.Logic.{◌⊎◌, inl, inr, ⊎_elim}
use Prim.Native.Nat.{ℕ, ◌+◌, ◌-◌, ◌≤◌}
use native.Mathlib.Omega.{arith}
use lib.Dec.{eqb, leb}
use lib.ListN.{length, length-map, replicate}
use borrow.Author.Tests.{ne_eqb, eqb-true, eqb-false, leb-true, leb-false, lt-leb, not-false}
use Rattle.schedule.specs.Range.{Goals, Order, each}
use Rattle.logic.specs.Quantifiers.{lowest}
use Rattle.dispatch_rule.specs.declared.Head.{Head}
use Rattle.dispatch_rule.specs.Rule.{State, idle, count, on, ready, worked, ends, busy, assigned, tick}
use Rattle.dispatch_rule.specs.Validity.{In, Busy, Valid}
use Rattle.dispatch_rule.specs.Run.{working, Done}
use Rattle.logic.proofs.Bools.{test, by_test, not-true, or-true as or_cases}
use Rattle.logic.proofs.Lowest.{Lowest, Nothing, lowest_is}
use Rattle.schedule.proofs.Range.{each_at, each_all, each-not}
use Rattle.dispatch_rule.proofs.Taking.{left_on, count-here, count_there, same_or, Taken, taken_is}
use Rattle.dispatch_rule.proofs.Working.{Sound, count-worked, ends_in, ends-not, left_falls, all-or-idle}

-- a goal on the row is on a head
pub count_in : (hs : List Head) (g : ℕ) → 1 ≤ count hs g → (h : Head) × In h hs × (g ≡ h.goal)
count_in [] g c = absurd (omega arith)
count_in (h ∷ hs) g c =
    ⊎_elim (λ e. (h, inl refl, e)) (λ e. let r = count_in hs g (omega (arith, count_there h hs g e)) in (r.0, inr r.1, r.2)) (same_or g h.goal)

pub count-busy : (hs : List Head) (g : ℕ) → 1 ≤ g → count hs g ≤ busy hs
count-busy [] g l = omega arith
count-busy (h ∷ hs) g l =
    ⊎_elim
    (λ e.
    let u : ◌≡◌ {A = ℕ} (cond (eqb h.goal 0) 0 1) 1 = ap (λ b. cond b 0 1) (ne_eqb h.goal 0 (λ q. omega arith)) in
    omega (arith, count-here h hs g e, count-busy hs g l))
    (λ e. omega (arith, count_there h hs g e, count-busy hs g l)) (same_or g h.goal)

map_in : (hs : List Head) (x : Head) → In x (map worked hs) → (h : Head) × In h hs × (x ≡ worked h)
map_in [] x i = absurd i
map_in (h ∷ hs) x (inl e) = (h, inl refl, e)
map_in (h ∷ hs) x (inr i) = let r = map_in hs x i in (r.0, inr r.1, r.2)

-- the ticks that are left of goal g
abbrev pub rem : (ℕ → ℕ) → State → ℕ → ℕ
rem t s g = cond (s.ended g) 0 (left_on s.heads g (t g))

-- some goal has not ended
abbrev pub Open : ℕ → State → Type 0
Open n s = (g : ℕ) × Goals n g × (s.ended g ≡ false)

pub done_or : (n : ℕ) (s : State) → Done n s ⊎ Open n s
done_or n s = ⊎_elim (λ e. inl (λ g a. each_at s.ended n g e a)) (λ e. inr (each-not s.ended n e)) (test (each s.ended n))

module _ (R : ℕ → ℕ → Bool) (n : ℕ) (t : ℕ → ℕ) (o : Order R (Goals n)) (least : (g : ℕ) → Goals n g → 1 ≤ t g) (s : State) (v : Valid R n t s) where
  rs : List Head
  rs = assigned R n t s

  pub tk : Taken R n t s.ended (on s.heads) s.heads (assigned R n t s)
  tk = taken_is R n t s.ended least (on s.heads) s.heads v.fine (λ g l e. omega (arith, leb-false 1 (count s.heads g) e))

  pub assigned-once : (g : ℕ) → 1 ≤ g → count (assigned R n t s) g ≤ 1
  assigned-once g l = ⊎_elim (λ e. omega (arith, tk.stay g l e, v.once g l)) (λ e. tk.once g l e) (test (on s.heads g))

  -- a goal on a head has not ended
  pub assigned-busy : (g : ℕ) → 1 ≤ g → 1 ≤ count (assigned R n t s) g → (h : Head) × (g ≡ h.goal) × Busy R n t s.ended h
  assigned-busy g l c =
      let r = count_in (assigned R n t s) g c in
      ⊎_elim (λ e. absurd (let z : r.0.goal ≡ 0 = ap (λ (y : Head). y.goal) e in omega (arith, r.2))) (λ b. (r.0, r.2, b)) (tk.fine r.0 r.1)

  pub assigned_sound : (h : Head) → In h (assigned R n t s) → Sound h
  assigned_sound h i = ⊎_elim inl (λ b. inr (b.goals.0, b.some_left)) (tk.fine h i)

  -- more has ended, so what was ready is
  ready_on : (g : ℕ) → ready R n s.ended g ≡ true → ready R n (tick R n t s).ended g ≡ true
  ready_on g e =
      each_all (λ i. not (R i g) || (s.ended i || ends (assigned R n t s) i)) n
      (λ i a.
      ⊎_elim (λ u. ap (λ b. b || (s.ended i || ends (assigned R n t s) i)) u)
      (λ u. ap (λ b. not (R i g) || (b || ends (assigned R n t s) i)) u ∙ or-true (not (R i g)))
      (or_cases (not (R i g)) (s.ended i) (each_at (λ i. not (R i g) || s.ended i) n i e a)))

  -- what ends in this tick
  ending-goal : (g : ℕ) → ends (assigned R n t s) g ≡ true → Goals n g × (ready R n s.ended g ≡ true)
  ending-goal g e =
      let r = ends_in (assigned R n t s) g e in
      ⊎_elim (λ q. absurd (let z : r.0.goal ≡ 0 = ap (λ (y : Head). y.goal) q in omega (arith, r.2, r.3)))
      (λ b. (subst (λ x. Goals n x) (sym r.2) b.goals, ap (λ x. ready R n s.ended x) r.2 ∙ b.prepared))
      (tk.fine r.0 r.1)

  fine-on : (h : Head) → In h (assigned R n t s) → (worked h ≡ idle) ⊎ Busy R n t (tick R n t s).ended (worked h)
  fine-on h i =
      ⊎_elim (λ e. inl (ap worked e))
      (λ b.
      by_test (λ (x : Head). (x ≡ idle) ⊎ Busy R n t (tick R n t s).ended x) (eqb (h.left - 1) 0) (λ e. inl refl)
      (λ e.
      inr
      (record {
        goals = b.goals;
        open_yet = ap₂ ◌||◌ b.open_yet (ends-not (assigned R n t s) h i b.goals.0 (assigned-once h.goal b.goals.0) e);
        some_left = let z = eqb-false (h.left - 1) 0 e in omega arith;
        not_above = omega (arith, b.not_above);
        prepared = ready_on h.goal b.prepared;
      })))
      (tk.fine h i)

  -- A tick keeps validity.
  pub valid-tick : Valid R n t (tick R n t s)
  valid-tick =
      record {
        fine =
            λ x i.
            let r = map_in (assigned R n t s) x i in
            subst (λ y. (y ≡ idle) ⊎ Busy R n t (tick R n t s).ended y) (sym r.2) (fine-on r.0 r.1);
        once = λ g l. omega (arith, assigned-once g l, count-worked (assigned R n t s) g l);
        known = λ g e. ⊎_elim (λ u. v.known g u) (λ u. (ending-goal g u).0) (or_cases (s.ended g) (ends (assigned R n t s) g) e);
        before = λ g e. ready_on g (⊎_elim (λ u. v.before g u) (λ u. (ending-goal g u).1) (or_cases (s.ended g) (ends (assigned R n t s) g) e));
      }

  pub long_tick : length (tick R n t s).heads ≡ length s.heads
  long_tick = length-map (assigned R n t s) worked ∙ tk.long

  -- Each goal on a head has one tick less left.
  pub rem-tick : (g : ℕ) → Goals n g → rem t (tick R n t s) g + count (assigned R n t s) g ≡ rem t s g
  rem-tick g a = ⊎_elim over going (test (s.ended g))
    where
      new : ℕ
      new = left_on (map worked (assigned R n t s)) g (t g)

      over : s.ended g ≡ true → rem t (tick R n t s) g + count (assigned R n t s) g ≡ rem t s g
      over e =
          let p : rem t (tick R n t s) g ≡ 0 = ap (λ b. cond (b || ends (assigned R n t s) g) 0 new) e in
          let q : rem t s g ≡ 0 = ap (λ b. cond b 0 (left_on s.heads g (t g))) e in
          ⊎_elim
          (λ c.
          let r = assigned-busy g a.0 (leb-true 1 (count (assigned R n t s) g) c) in
          absurd (true≢false (sym e ∙ (ap s.ended r.1 ∙ r.2.open_yet))))
          (λ c. omega (arith, leb-false 1 (count (assigned R n t s) g) c)) (test (on (assigned R n t s) g))

      going : s.ended g ≡ false → rem t (tick R n t s) g + count (assigned R n t s) g ≡ rem t s g
      going e =
          let p : rem t (tick R n t s) g ≡ cond (ends (assigned R n t s) g) 0 new = ap (λ b. cond (b || ends (assigned R n t s) g) 0 new) e in
          let q : rem t s g ≡ left_on s.heads g (t g) = ap (λ b. cond b 0 (left_on s.heads g (t g))) e in
          omega (arith, left_falls (assigned R n t s) g (t g) assigned_sound a.0 (assigned-once g a.0), tk.same_left g a.0)

  -- If some head is idle after the taking, each goal that could be taken is on a head.
  pub spare : (h : Head) → In h (assigned R n t s) → h.goal ≡ 0 → (g : ℕ) → Goals n g → s.ended g ≡ false → ready R n s.ended g ≡ true
      → 1 ≤ count (assigned R n t s) g
  spare h i z g a e rd =
      ⊎_elim (λ u. omega (arith, tk.stay g a.0 u, leb-true 1 (count s.heads g) u)) (λ c. c) (tk.spare h i z g a e rd)

  -- Until all goals have ended at least one head works.
  pub works : 1 ≤ length s.heads → Open n s → 1 ≤ working R n t s
  works l (g, a, e) = ⊎_elim (λ q. omega (arith, tk.long)) idle-one (all-or-idle (assigned R n t s))
    where
      first : Lowest (λ i. not (s.ended i)) n (lowest (λ i. not (s.ended i)) n) ⊎ Nothing (λ i. not (s.ended i)) n (lowest (λ i. not (s.ended i)) n)
          → (p : ℕ) × Goals n p × (s.ended p ≡ false) × (ready R n s.ended p ≡ true)
      first (inr z) = absurd (true≢false (ap not (sym e) ∙ z.none g a))
      first (inl p) =
          let x = lowest (λ i. not (s.ended i)) n in (
            x,
            p.inside,
            not-true (s.ended x) p.passes,
            each_all (λ i. not (R i x) || s.ended i) n
                (λ i b.
                ⊎_elim
                (λ r.
                ap (λ y. not (R i x) || y) (not-false (s.ended i) (p.none_below i b.0 (o.rising i x b p.inside r))) ∙ or-true (not (R i x)))
                (λ r. ap (λ y. not y || s.ended i) r) (test (R i x))),
          )

      idle-one : (h : Head) × In h (assigned R n t s) × (h.goal ≡ 0) → 1 ≤ working R n t s
      idle-one (h, i, z) =
          let p = first (lowest_is (λ i. not (s.ended i)) n) in
          omega (arith, spare h i z p.0 p.1 p.2 p.3, count-busy (assigned R n t s) p.0 p.1.0)

-- ---- after the end
-- a row of idle heads
all-idle : (hs : List Head) → ((h : Head) → In h hs → h ≡ idle) → (busy hs ≡ 0) × (map worked hs ≡ hs) × ((g : ℕ) → ends hs g ≡ false)
all-idle [] f = (refl, refl, λ g. refl)
all-idle (h ∷ hs) f =
    let r = all-idle hs (λ x i. f x (inr i)) in
    let e = f h (inl refl) in (
      subst (λ (x : Head). cond (eqb x.goal 0) 0 1 + busy hs ≡ 0) (sym e) (omega (arith, r.0)),
      ap₂ ◌∷◌ (ap worked e ∙ sym e) r.1,
      λ g. subst (λ (x : Head). ((eqb g x.goal && leb 1 g && eqb (x.left - 1) 0) || ends hs g) ≡ false) (sym e) (zero-ends g (r.2 g)),
    )
  where
    zero-ends : (g : ℕ) → ends hs g ≡ false → ((eqb g 0 && leb 1 g && eqb (0 - 1) 0) || ends hs g) ≡ false
    zero-ends g z =
        ⊎_elim (λ e. cc (lt-leb 1 g (let q = eqb-true g 0 e in omega arith))) (λ e. cc) (test (eqb g 0))

idle-row : (hs : List Head) → ((h : Head) → In h hs → h ≡ idle) → hs ≡ replicate (length hs) idle
idle-row [] f = refl
idle-row (h ∷ hs) f = ap₂ ◌∷◌ (f h (inl refl)) (idle-row hs (λ x i. f x (inr i)))

module _ (R : ℕ → ℕ → Bool) (n : ℕ) (t : ℕ → ℕ) (o : Order R (Goals n)) (least : (g : ℕ) → Goals n g → 1 ≤ t g) (s : State) (v : Valid R n t s)
    (d : Done n s)
  where
    done_idle : (h : Head) → In h (assigned R n t s) → h ≡ idle
    done_idle h i =
        ⊎_elim (λ e. e) (λ b. absurd (true≢false (sym (d h.goal b.goals) ∙ b.open_yet))) ((tk R n t o least s v).fine h i)

    row-idle : (h : Head) → In h s.heads → h ≡ idle
    row-idle h i = ⊎_elim (λ e. e) (λ b. absurd (true≢false (sym (d h.goal b.goals) ∙ b.open_yet))) (v.fine h i)

    same_row : assigned R n t s ≡ s.heads
    same_row =
        idle-row (assigned R n t s) done_idle
        ∙ (ap (λ k. replicate k idle) (tk R n t o least s v).long ∙ sym (idle-row s.heads row-idle))

    -- No head works any more, and a tick changes nothing.
    pub done_works : working R n t s ≡ 0
    done_works = (all-idle (assigned R n t s) done_idle).0

    pub done_tick : tick R n t s ≡ s
    done_tick =
        let r = all-idle (assigned R n t s) done_idle in
        let p : map worked (assigned R n t s) ≡ s.heads = r.1 ∙ same_row in
        let q : (λ g. s.ended g || ends (assigned R n t s) g) ≡ s.ended = fun_ext (λ g. ap (λ b. s.ended g || b) (r.2 g) ∙ or-false (s.ended g)) in
        λ i. record { heads = p i; ended = q i }
