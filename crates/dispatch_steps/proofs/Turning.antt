-- The row gone over twice: the tick of the rule where the state is valid, and otherwise nothing.
use mathlib.Core.Path.{◌≡◌, sym, ap, ap₂, ◌∙◌, subst}
use mathlib.Core.Bool.{Bool, true, false, not, ◌&&◌, ◌||◌, false≢true}
use mathlib.Core.List.{List}
use mathlib.Core.Logic.{⊎_elim}
use Prim.Native.Nat.{ℕ, zero, suc, ◌^◌, ◌≤◌, ◌<◌}
use native.Mathlib.Omega.{arith}
use lib.Dec.{leb}
use lib.ListN.{length, replicate, length-replicate}
use borrow.Author.Tests.{le-leb}
use Rattle.logic.proofs.Bools.{test, and-true, clash}
use Rattle.sets.specs.Sets.{goal_limit}
use Rattle.sets.proofs.Membership.{member_below}
use Rattle.graph.specs.Graph.{has_goal}
use Rattle.schedule.specs.Range.{Goals, Order, each}
use Rattle.schedule.proofs.Range.{each_all}
use Rattle.dispatch_rule.specs.declared.Head.{Head}
use Rattle.dispatch_rule.specs.Rule.{idle, count, on, ready, tick}
use Rattle.dispatch_rule.specs.Validity.{all_heads, fine_head, is_valid}
use Rattle.dispatch_rule.proofs.Validity.{valid_is}
use Rattle.dispatch_steps.specs.declared.Phase.TheVariants.{Look, Go, Rest, Idle}
use Rattle.dispatch_steps.specs.declared.Board.{Board}
use Rattle.dispatch_steps.specs.declared.Plan.{Plan}
use Rattle.dispatch_steps.specs.declared.Opening.{Opening}
use Rattle.dispatch_steps.specs.Steps.{state_of, sweep_heads, sweep_board, second_of, turn_heads, turn_board}
use Rattle.dispatch_steps.proofs.Masks.{second_goes, second-rests, second-idles}
use Rattle.dispatch_steps.proofs.Free.{Free, Planned}
use Rattle.dispatch_steps.proofs.Going.{go_ticks}
use Rattle.dispatch_steps.proofs.Looking.{rest_sweep, idle_sweep, look_all, look_sweep, look_to, look_from, look_free}

-- a set of w bits has goals up to w alone
pub has-wide : (w m g : ℕ) → m < 2 ^ w → has_goal m g ≡ true → Goals w g
has-wide w m zero l e = absurd (false≢true e)
has-wide w m (suc i) l e = (omega arith, member_below w m i l e)

module _ (o : Opening) (hs : List Head) where
  abbrev b : Board
  b = o.board

  abbrev p : Plan
  p = o.plan

  -- ---- something is refused from the start
  pub turn_rests : b.phase ≡ Rest → (turn_heads o hs ≡ hs) × (turn_board o hs ≡ b)
  unfolding turn_heads turn_board
  turn_rests e =
      let q = rest_sweep p hs b e in
      let s : second_of (sweep_board p hs b) ≡ b = ap second_of q.1 ∙ sym (second-rests b e) in
      let r = rest_sweep p hs b e in
      (ap₂ (sweep_heads p) q.0 s ∙ r.0, ap₂ (sweep_board p) q.0 s ∙ r.1)

  -- ---- a start
  pub turn_idles : b.phase ≡ Idle → (turn_heads o hs ≡ replicate (length hs) idle) × (turn_board o hs ≡ b)
  unfolding turn_heads turn_board
  turn_idles e =
      let q = idle_sweep p hs b e in
      let s : second_of (sweep_board p hs b) ≡ b = ap second_of q.1 ∙ sym (second-idles b e) in
      let r = idle_sweep p (replicate (length hs) idle) b e in
      let k : replicate (length (replicate (length hs) idle)) idle ≡ replicate (length hs) idle = ap (λ (x : ℕ). replicate x idle) (length-replicate (length hs) idle) in
      (ap₂ (sweep_heads p) q.0 s ∙ (r.0 ∙ k), ap₂ (sweep_board p) q.0 s ∙ r.1)

  -- ---- a tick
  module _ (R : ℕ → ℕ → Bool) (n : ℕ) (t : ℕ → ℕ) (m : ℕ) (few : n ≤ goal_limit) (pl : Planned R n t (has_goal m) few p) (or : Order R (Goals n))
      (least : (g : ℕ) → Goals n g → 1 ≤ t g) (small : m < 2 ^ goal_limit) (ph : b.phase ≡ Look) (dn : b.done ≡ m)
      (free : Free R n t (has_goal m) few (λ g. false) b.free)
    where
      abbrev valid : Bool
      valid = is_valid R n t goal_limit (state_of hs m)

      abbrev fine_heads : Bool
      fine_heads = all_heads (fine_head R n t (has_goal m)) hs

      abbrev ended_fine : Bool
      ended_fine = each (λ g. not (has_goal m g) || (leb g n && ready R n (has_goal m) g)) goal_limit

      pub record Accepted : Type 0 where
        pub phase : (turn_board o hs).phase ≡ Go
        pub state : state_of (turn_heads o hs) (turn_board o hs).done ≡ tick R n t (state_of hs m)

      pub turn_accepts : valid ≡ true → Accepted
      unfolding turn_heads turn_board
      turn_accepts e =
          let v = (valid_is R n t goal_limit (state_of hs m) (λ g. has-wide goal_limit m g small)).0 e in
          let f = (and-true fine_heads _ e).0 in
          let l = look_sweep p hs b ph in
          let u = look_from R n t (has_goal m) few p pl hs (λ g. false) b free (record { fine = f; once = v.once; new = λ g a y. absurd (false≢true y) }) in
          let c = second_of (sweep_board p hs b) in
          let s = second_goes (sweep_board p hs b) (l.good u) in
          let r =
          go_ticks R n t m few p pl or least hs v c (ap (λ (x : Board). x.phase) (sym s)) (ap (λ (x : Board). x.done) (sym s) ∙ (l.done ∙ dn))
          (subst (λ (x : ℕ). Free R n t (has_goal m) few (on hs) x) (ap (λ (x : Board). x.free) s) (look_free R n t (has_goal m) few p pl hs (λ g. false) b ph free u)) in
          record {
            phase = ap (λ hs. (sweep_board p hs c).phase) l.heads ∙ r.phase;
            state = ap (λ hs. state_of (sweep_heads p hs c) (sweep_board p hs c).done) l.heads ∙ r.state;
          }

      pub record Refused : Type 0 where
        pub phase : (turn_board o hs).phase ≡ Rest
        pub heads : turn_heads o hs ≡ hs

      -- the ended goals are judged before the row is
      pub turn_refuses : ended_fine ≡ true → valid ≡ false → Refused
      unfolding turn_heads turn_board
      turn_refuses en e =
          let l = look_sweep p hs b ph in
          let q = l.bad (⊎_elim (λ u. clash (all u) e) (λ u. u) (test (look_all p hs b))) in
          let c = sweep_board p hs b in
          let s : second_of c ≡ c = sym (second-rests c q) in
          let r = rest_sweep p (sweep_heads p hs b) c q in
          let k : sweep_board p (sweep_heads p hs b) (second_of c) ≡ c = ap (sweep_board p (sweep_heads p hs b)) s ∙ r.1 in
          record {
            phase = ap (λ (x : Board). x.phase) k ∙ q;
            heads = ap (sweep_heads p (sweep_heads p hs b)) s ∙ (r.0 ∙ l.heads);
          }
        where
          all : look_all p hs b ≡ true → valid ≡ true
          all u =
              let k = look_to R n t (has_goal m) few p pl hs (λ g. false) b free u in
              ap₂ ◌&&◌ k.fine
              (ap₂ ◌&&◌ (each_all (λ g. leb (count hs g) 1) n (λ g a. le-leb (count hs g) 1 (k.once g a.0))) en)
