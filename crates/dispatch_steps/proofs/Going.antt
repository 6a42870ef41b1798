-- The row gone over by heads that go: the tick of the rule.
use mathlib.Core.Path.{◌≡◌, refl, sym, ap, ap₂, ◌∙◌, fun_ext}
use mathlib.Core.Bool.{Bool, true, false, ◌&&◌, ◌||◌, cond, or-false, or_assoc, and-true as and_yes, and-false as and_no}
use mathlib.Core.List.{List, [], ◌∷◌, map}
use mathlib.Core.Logic.{inl, inr, ⊎_elim}
use Prim.Native.Nat.{ℕ, ◌-◌, ◌≤◌}
use native.Mathlib.Omega.{arith}
use lib.Dec.{eqb, leb}
use Rattle.logic.proofs.Bools.{test}
use Rattle.sets.specs.Sets.{goal_limit, union}
use Rattle.graph.specs.Graph.{has_goal}
use Rattle.graph.proofs.Goals.{goal-union}
use Rattle.schedule.specs.Range.{Goals, Order}
use Rattle.dispatch_rule.specs.declared.Head.{Head}
use Rattle.dispatch_rule.specs.Rule.{on, offer, taken, worked, ends, assigned, tick}
use Rattle.dispatch_rule.specs.Validity.{In, Valid}
use Rattle.dispatch_rule.proofs.Ticks.{tk}
use Rattle.dispatch_steps.specs.declared.Phase.TheVariants.{Go}
use Rattle.dispatch_steps.specs.declared.Board.{Board}
use Rattle.dispatch_steps.specs.declared.Plan.{Plan}
use Rattle.dispatch_steps.specs.declared.Stepped.{Stepped}
use Rattle.dispatch_steps.specs.Steps.{state_of, alone, finishing, go_of, sweep_heads, sweep_board}
use Rattle.dispatch_steps.proofs.Masks.{step-goes}
use Rattle.dispatch_steps.proofs.Free.{has-alone, Free, Planned, free_less, taking_is}

-- the goals that have ended once a head has worked
done_is : (w m : ℕ) (k : Head) → k.goal ≤ w → (g : ℕ) → has_goal (finishing w k m) g ≡ (has_goal m g || (eqb g k.goal && leb 1 g && eqb (k.left - 1) 0))
done_is w m k u g =
    ⊎_elim
    (λ (z : eqb (k.left - 1) 0 ≡ true).
    ap (λ b. has_goal (cond b (union m (alone w k.goal)) m) g) z
    ∙ (goal-union m (alone w k.goal) g
    ∙ ap (λ x. has_goal m g || x) (has-alone w k.goal g u ∙ sym (ap (λ b. eqb g k.goal && leb 1 g && b) z ∙ and_yes (eqb g k.goal && leb 1 g)))))
    (λ (z : eqb (k.left - 1) 0 ≡ false).
    ap (λ b. has_goal (cond b (union m (alone w k.goal)) m) g) z
    ∙ sym (ap (λ x. has_goal m g || x) (ap (λ b. eqb g k.goal && leb 1 g && b) z ∙ and_no (eqb g k.goal && leb 1 g)) ∙ or-false (has_goal m g)))
    (test (eqb (k.left - 1) 0))

module _ (R : ℕ → ℕ → Bool) (n : ℕ) (t : ℕ → ℕ) (E : ℕ → Bool) (few : n ≤ goal_limit) (p : Plan) (pl : Planned R n t E few p) where
  pub record Gone (B : ℕ → Bool) (hs : List Head) (b : Board) : Type 0 where
    pub heads : sweep_heads p hs b ≡ map worked (taken R n t E B hs)
    pub done : (g : ℕ) → has_goal (sweep_board p hs b).done g ≡ (has_goal b.done g || ends (taken R n t E B hs) g)
    pub phase : (sweep_board p hs b).phase ≡ Go

  pub go_sweep : (hs : List Head) (b : Board) → b.phase ≡ Go → (B : ℕ → Bool) → Free R n t E few B b.free
      → ((h : Head) → In h (taken R n t E B hs) → h.goal ≤ goal_limit) → Gone B hs b
  unfolding sweep_heads sweep_board
  go_sweep [] b ph B f low = record { heads = refl; done = λ g. sym (or-false (has_goal b.done g)); phase = ph }
  go_sweep (h ∷ hs) b ph B f low =
      let k = offer R n t E B h in
      let e = taking_is R n t E few B b.free f h b p refl pl in
      let c = (go_of goal_limit h b p).board in
      let s = step-goes h b p ph in
      let u : k.goal ≤ goal_limit = low k (inl refl) in
      let f' : Free R n t E few (λ g. B g || eqb g k.goal) c.free =
      rw e (free_less R n t E few B b.free k.goal u f) in
      let ih = go_sweep hs c ph (λ g. B g || eqb g k.goal) f' (λ x i. low x (inr i)) in
      let rest = taken R n t E (λ g. B g || eqb g k.goal) hs in
      record {
        heads = ap (λ (x : Stepped). x.head ∷ sweep_heads p hs x.board) s ∙ ap₂ ◌∷◌ (ap worked e) ih.heads;
        done =
            λ g.
            ap (λ (x : Stepped). has_goal (sweep_board p hs x.board).done g) s
            ∙ (ih.done g
            ∙ (ap (λ x. x || ends rest g) (ap (λ x. has_goal (finishing goal_limit x b.done) g) e ∙ done_is goal_limit b.done k u g)
            ∙ or_assoc (has_goal b.done g) (eqb g k.goal && leb 1 g && eqb (k.left - 1) 0) (ends rest g)));
        phase = ap (λ (x : Stepped). (sweep_board p hs x.board).phase) s ∙ ih.phase;
      }

-- From a valid state, with the goals that can be taken in `free` and the ended goals in `done`, the heads that go do a tick.
module _ (R : ℕ → ℕ → Bool) (n : ℕ) (t : ℕ → ℕ) (m : ℕ) (few : n ≤ goal_limit) (p : Plan) (pl : Planned R n t (has_goal m) few p) (o : Order R (Goals n))
    (least : (g : ℕ) → Goals n g → 1 ≤ t g) (hs : List Head) (v : Valid R n t (state_of hs m)) (b : Board) (ph : b.phase ≡ Go) (d : b.done ≡ m)
    (f : Free R n t (has_goal m) few (on hs) b.free)
  where
    pub record Ticked : Type 0 where
      pub phase : (sweep_board p hs b).phase ≡ Go
      pub state : state_of (sweep_heads p hs b) (sweep_board p hs b).done ≡ tick R n t (state_of hs m)

    pub go_ticks : Ticked
    go_ticks =
        let w = tk R n t o least (state_of hs m) v in
        let r =
        go_sweep R n t (has_goal m) few p pl hs b ph (on hs) f
        (λ h i. ⊎_elim (λ e. omega (arith, ap (λ (x : Head). x.goal) e)) (λ u. omega (arith, u.goals.1, few)) (w.fine h i)) in
        let row = assigned R n t (state_of hs m) in
        let q : has_goal (sweep_board p hs b).done ≡ (λ g. has_goal m g || ends row g) = fun_ext (λ g. r.done g ∙ ap (λ (x : ℕ). has_goal x g || ends row g) d) in
        record { phase = r.phase; state = λ i. record { heads = r.heads i; ended = q i } }
