-- The row gone over by heads that are looked at: it passes exactly if every head is fine and no goal is on two. Heads that rest, or are made idle.
use mathlib.Core.Path.{◌≡◌, refl, sym, ap, ap₂, ◌∙◌}
use mathlib.Core.Bool.{Bool, true, false, not, ◌&&◌, ◌||◌, cond, true≢false, or-true, or-false as or-none, or_assoc}
use mathlib.Core.List.{List, [], ◌∷◌}
use mathlib.Core.Logic.{⊎_elim}
use Prim.Native.Nat.{ℕ, ◌≤◌}
use native.Mathlib.Omega.{arith}
use lib.Dec.{eqb, leb}
use lib.ListN.{length, replicate}
use borrow.Author.Tests.{eq-eqb, eqb-true, eqb-false, leb-true, le-leb}
use Rattle.logic.proofs.Bools.{test, by_test, and-true, not-true, or-true as or_cases}
use Rattle.sets.specs.Sets.{goal_limit}
use Rattle.graph.specs.Graph.{has_goal}
use Rattle.schedule.specs.Range.{Goals}
use Rattle.dispatch_rule.specs.declared.Head.{Head}
use Rattle.dispatch_rule.specs.Rule.{idle, count, on, ready}
use Rattle.dispatch_rule.specs.Validity.{all_heads, fine_head}
use Rattle.dispatch_rule.proofs.Taking.{count-here, count_there, same_or}
use Rattle.dispatch_steps.specs.declared.Phase.TheVariants.{Look, Rest, Idle}
use Rattle.dispatch_steps.specs.declared.Board.{Board}
use Rattle.dispatch_steps.specs.declared.Plan.{Plan}
use Rattle.dispatch_steps.specs.declared.Stepped.{Stepped}
use Rattle.dispatch_steps.specs.Steps.{of_goal, is_fine, look_of, step_of, sweep_heads, sweep_board}
use Rattle.dispatch_steps.proofs.Masks.{step-looks, step-rests, step-idles}
use Rattle.dispatch_steps.proofs.Free.{can, Free, Planned, free_less}

-- ---- heads that rest, and heads that are made idle
module _ (p : Plan) where
  -- the row is left as it was, and the board too
  pub rest_sweep : (hs : List Head) (b : Board) → b.phase ≡ Rest → (sweep_heads p hs b ≡ hs) × (sweep_board p hs b ≡ b)
  unfolding sweep_heads sweep_board
  rest_sweep [] b e = (refl, refl)
  rest_sweep (h ∷ hs) b e =
      let s = step-rests h b p e in
      let r = rest_sweep hs b e in
      (ap (λ (x : Stepped). x.head ∷ sweep_heads p hs x.board) s ∙ ap (λ l. h ∷ l) r.0, ap (λ (x : Stepped). sweep_board p hs x.board) s ∙ r.1)

  pub idle_sweep : (hs : List Head) (b : Board) → b.phase ≡ Idle → (sweep_heads p hs b ≡ replicate (length hs) idle) × (sweep_board p hs b ≡ b)
  unfolding sweep_heads sweep_board
  idle_sweep [] b e = (refl, refl)
  idle_sweep (h ∷ hs) b e =
      let s = step-idles h b p e in
      let r = idle_sweep hs b e in
      (ap (λ (x : Stepped). x.head ∷ sweep_heads p hs x.board) s ∙ ap (λ l. idle ∷ l) r.0, ap (λ (x : Stepped). sweep_board p hs x.board) s ∙ r.1)

  -- ---- the look, one head after another
  abbrev pub look_all : List Head → Board → Bool
  look_all [] b = true
  look_all (h ∷ hs) b = is_fine goal_limit b p h && look_all hs (look_of goal_limit h b p)

  -- what it leaves: the row, and on the board all but what was looked for
  pub record Looked (hs : List Head) (b : Board) : Type 0 where
    pub heads : sweep_heads p hs b ≡ hs
    pub done : (sweep_board p hs b).done ≡ b.done
    pub good : look_all hs b ≡ true → (sweep_board p hs b).phase ≡ Look
    pub bad : look_all hs b ≡ false → (sweep_board p hs b).phase ≡ Rest

  pub look_sweep : (hs : List Head) (b : Board) → b.phase ≡ Look → Looked hs b
  unfolding sweep_heads sweep_board
  look_sweep [] b e = record { heads = refl; done = refl; good = λ u. e; bad = λ u. absurd (true≢false u) }
  look_sweep (h ∷ hs) b e =
      let c = look_of goal_limit h b p in
      let s = step-looks h b p e in
      let to : sweep_board p hs (step_of h b p).board ≡ sweep_board p hs c = ap (λ (x : Stepped). sweep_board p hs x.board) s in
      let row : sweep_heads p (h ∷ hs) b ≡ h ∷ sweep_heads p hs c = ap (λ (x : Stepped). x.head ∷ sweep_heads p hs x.board) s in
      ⊎_elim
      (λ (f : is_fine goal_limit b p h ≡ true).
      let r = look_sweep hs c (ap (λ x. cond x b.phase Rest) f ∙ e) in
      let k : look_all (h ∷ hs) b ≡ look_all hs c = ap (λ x. x && look_all hs c) f in
      record {
        heads = row ∙ ap (λ l. h ∷ l) r.heads;
        done = ap (λ (x : Board). x.done) to ∙ r.done;
        good = λ u. ap (λ (x : Board). x.phase) to ∙ r.good (sym k ∙ u);
        bad = λ u. ap (λ (x : Board). x.phase) to ∙ r.bad (sym k ∙ u);
      })
      (λ (f : is_fine goal_limit b p h ≡ false).
      let q : c.phase ≡ Rest = ap (λ x. cond x b.phase Rest) f in
      let r = rest_sweep hs c q in
      record {
        heads = row ∙ ap (λ l. h ∷ l) r.0;
        done = ap (λ (x : Board). x.done) (to ∙ r.1);
        good = λ u. absurd (true≢false (sym u ∙ ap (λ x. x && look_all hs c) f));
        bad = λ u. ap (λ (x : Board). x.phase) (to ∙ r.1) ∙ q;
      })
      (test (is_fine goal_limit b p h))

-- ---- by the rule
module _ (R : ℕ → ℕ → Bool) (n : ℕ) (t : ℕ → ℕ) (E : ℕ → Bool) (few : n ≤ goal_limit) (p : Plan) (pl : Planned R n t E few p) where
  abbrev rule : Head → Bool
  rule h = leb h.goal n && (not (E h.goal) && (leb 1 h.left && (leb h.left (t h.goal) && ready R n E h.goal)))

  module _ (B : ℕ → Bool) (b : Board) (f : Free R n t E few B b.free) (h : Head) where
    fine_to : is_fine goal_limit b p h ≡ true → (fine_head R n t E h ≡ true) × (1 ≤ h.goal → B h.goal ≡ false)
    fine_to =
        by_test (λ x. x ≡ true → (fine_head R n t E h ≡ true) × (1 ≤ h.goal → B h.goal ≡ false)) (eqb h.goal 0)
        (λ z e. (ap (λ x. cond x (eqb h.left 0) (rule h)) z ∙ e, λ l. absurd (let y = eqb-true h.goal 0 z in omega arith)))
        (λ z e.
        let q = and-true (leb h.goal goal_limit) _ e in
        let r = and-true (has_goal b.free h.goal) _ q.1 in
        let u = and-true (leb 1 h.left) (leb h.left (of_goal p.ticks h.goal)) r.1 in
        let a = f.inside h.goal r.0 in
        let c = and-true (not (E h.goal) && not (B h.goal)) (ready R n E h.goal) (sym (f.says h.goal a) ∙ r.0) in
        let d = and-true (not (E h.goal)) (not (B h.goal)) c.0 in
        let w : leb h.left (t h.goal) ≡ true = ap (leb h.left) (sym (pl h.goal a)) ∙ u.1 in (
          ap (λ x. cond x (eqb h.left 0) (rule h)) z ∙ simp (le-leb h.goal n a.1, d.0, u.0, w, c.1),
          λ l. not-true (B h.goal) d.1,
        ))

    fine-from : fine_head R n t E h ≡ true → (1 ≤ h.goal → B h.goal ≡ false) → is_fine goal_limit b p h ≡ true
    fine-from =
        by_test (λ x. x ≡ true → (1 ≤ h.goal → B h.goal ≡ false) → is_fine goal_limit b p h ≡ true) (eqb h.goal 0)
        (λ z e k.
        ap
        (λ x.
        cond x (eqb h.left 0)
        (leb h.goal goal_limit && (has_goal b.free h.goal && (leb 1 h.left && leb h.left (of_goal p.ticks h.goal)))))
        z
        ∙ e)
        (λ z e k.
        let q = and-true (leb h.goal n) _ e in
        let r = and-true (not (E h.goal)) _ q.1 in
        let u = and-true (leb 1 h.left) _ r.1 in
        let v = and-true (leb h.left (t h.goal)) (ready R n E h.goal) u.1 in
        let y = eqb-false h.goal 0 z in
        let a : Goals n h.goal = (omega arith, leb-true h.goal n q.0) in
        let w : leb h.left (of_goal p.ticks h.goal) ≡ true = ap (leb h.left) (pl h.goal a) ∙ v.0 in
        let can-be : can R n t E few B h.goal ≡ true = ap₂ ◌&&◌ (ap₂ ◌&&◌ r.0 (ap not (k a.0))) v.1 in
        ap
        (λ x.
        cond x (eqb h.left 0)
        (leb h.goal goal_limit && (has_goal b.free h.goal && (leb 1 h.left && leb h.left (of_goal p.ticks h.goal)))))
        z
        ∙ simp (le-leb h.goal goal_limit (omega (arith, a.1, few)), f.says h.goal a ∙ can-be, u.0, w))

  -- every head is fine, no goal is on two, and none is one of B
  pub record Single (B : ℕ → Bool) (hs : List Head) : Type 0 where
    pub fine : all_heads (fine_head R n t E) hs ≡ true
    pub once : (g : ℕ) → 1 ≤ g → count hs g ≤ 1
    pub new : (g : ℕ) → 1 ≤ g → B g ≡ true → count hs g ≡ 0

  -- the goal of a fine head is one of 32
  low : (h : Head) → fine_head R n t E h ≡ true → h.goal ≤ goal_limit
  low h e =
      ⊎_elim (λ z. omega (arith, eqb-true h.goal 0 z))
      (λ z. omega (arith, leb-true h.goal n (and-true (leb h.goal n) _ (sym (ap (λ x. cond x (eqb h.left 0) (rule h)) z) ∙ e)).0, few))
      (test (eqb h.goal 0))

  pub look_to : (hs : List Head) (B : ℕ → Bool) (b : Board) → Free R n t E few B b.free → look_all p hs b ≡ true → Single B hs
  look_to [] B b f u = record { fine = refl; once = λ g l. omega arith; new = λ g l e. refl }
  look_to (h ∷ hs) B b f u =
      let k = and-true (is_fine goal_limit b p h) (look_all p hs (look_of goal_limit h b p)) u in
      let q = fine_to B b f h k.0 in
      let r = look_to hs (λ g. B g || eqb g h.goal) (look_of goal_limit h b p) (free_less R n t E few B b.free h.goal (low h q.0) f) k.1 in
      record {
        fine = ap₂ ◌&&◌ q.0 r.fine;
        once =
            λ g l.
            ⊎_elim
            (λ (e : g ≡ h.goal).
            let z = r.new g l (ap (λ x. B g || x) (eq-eqb g h.goal e) ∙ or-true (B g)) in
            omega (arith, count-here h hs g e))
            (λ e. omega (arith, count_there h hs g e, r.once g l)) (same_or g h.goal);
        new =
            λ g l y.
            ⊎_elim
            (λ (e : g ≡ h.goal). absurd (true≢false (sym y ∙ (ap B e ∙ q.1 (omega arith)))))
            (λ e.
            let z = r.new g l (ap (λ x. x || eqb g h.goal) y) in
            omega (arith, count_there h hs g e))
            (same_or g h.goal);
      }

  pub look_from : (hs : List Head) (B : ℕ → Bool) (b : Board) → Free R n t E few B b.free → Single B hs → look_all p hs b ≡ true
  look_from [] B b f v = refl
  look_from (h ∷ hs) B b f v =
      let k = and-true (fine_head R n t E h) _ v.fine in
      ap₂ ◌&&◌
      (fine-from B b f h k.0
      (λ l. ⊎_elim (λ y. absurd (let z = v.new h.goal l y in omega (arith, count-here h hs h.goal refl))) (λ y. y) (test (B h.goal))))
      (look_from hs (λ g. B g || eqb g h.goal) (look_of goal_limit h b p) (free_less R n t E few B b.free h.goal (low h k.0) f)
      (record {
        fine = k.1;
        once = λ g l. omega (arith, v.once g l);
        new =
            λ g l y.
            ⊎_elim
            (λ (e : g ≡ h.goal). omega (arith, v.once g l, count-here h hs g e))
            (λ e.
            let w : B g ≡ true = ⊎_elim (λ q. q) (λ q. absurd (e (eqb-true g h.goal q))) (or_cases (B g) (eqb g h.goal) y) in
            omega (arith, v.new g l w, count_there h hs g e))
            (same_or g h.goal);
      }))

  -- ---- the goals on a head are no longer free
  on_more : (h : Head) (hs : List Head) (g : ℕ) → on (h ∷ hs) g ≡ (eqb g h.goal || on hs g)
  on_more h hs g =
      ⊎_elim
      (λ e. le-leb 1 (count (h ∷ hs) g) (omega (arith, count-here h hs g (eqb-true g h.goal e))) ∙ sym (ap (λ x. x || on hs g) e))
      (λ e. ap (leb 1) (count_there h hs g (eqb-false g h.goal e)) ∙ sym (ap (λ x. x || on hs g) e)) (test (eqb g h.goal))

  pub look_free : (hs : List Head) (B : ℕ → Bool) (b : Board) → b.phase ≡ Look → Free R n t E few B b.free → look_all p hs b ≡ true
      → Free R n t E few (λ g. B g || on hs g) (sweep_board p hs b).free
  unfolding sweep_board
  look_free [] B b ph f u = record { inside = f.inside; says = λ g a. f.says g a ∙ ap (λ x. not (E g) && not x && ready R n E g) (sym (or-none (B g))) }
  look_free (h ∷ hs) B b ph f u =
      let k = and-true (is_fine goal_limit b p h) (look_all p hs (look_of goal_limit h b p)) u in
      let q = fine_to B b f h k.0 in
      let c = look_of goal_limit h b p in
      let r =
      look_free hs (λ g. B g || eqb g h.goal) c (ap (λ x. cond x b.phase Rest) k.0 ∙ ph)
      (free_less R n t E few B b.free h.goal (low h q.0) f) k.1 in
      let e : (sweep_board p hs (step_of h b p).board).free ≡ (sweep_board p hs c).free = ap (λ (x : Stepped). (sweep_board p hs x.board).free) (step-looks h b p ph) in
      record {
        inside = λ g z. r.inside g (ap (λ (x : ℕ). has_goal x g) (sym e) ∙ z);
        says =
            λ g a.
            ap (λ (x : ℕ). has_goal x g) e
            ∙ (r.says g a
            ∙ ap (λ x. not (E g) && not x && ready R n E g) (or_assoc (B g) (eqb g h.goal) (on hs g) ∙ ap (λ x. B g || x) (sym (on_more h hs g))));
      }
