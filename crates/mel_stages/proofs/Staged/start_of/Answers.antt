use Rattle.std.proofs.Common.{ℕ, ◌-◌, ◌+◌, ◌≡◌, ap, ◌∙◌, sym, not, List, arith, nat_eq, get_or, eq-eqb, ne_eqb}
use Rattle.mel_stages.specs.Mel as W
use Rattle.mel_stages.specs.Masks as M
use Rattle.mel_stages.proofs.Masks.{goal_before, upto_at}
use Rattle.mel_stages.proofs.Starts.{none_after, one_more, boundary_mask, start-whole, start_none, largest-boundary, largest-on}
use Rattle.mel_stages.proofs.Staged.start_of.Goals as goal
use Rattle.mel_stages.proofs.Staged.start_of.Goals.{After-meet}

-- the code's test of a goal is the paper's
tested : (c : After-meet) →
    let a = c.args in
    not (nat_eq c.meet.result 0) ≡ W.boundary 64 a.self.now.head a.self.now.sets.now a.q c.loop-p.p
tested c =
    let a = c.args.self.now in
    let p = c.loop-p.p in
    let b : get_or a.before (p - 1) 0 ≡ M.once a.sets.now 0 (p - 1) =
    ap (λ (k : List ℕ). get_or k (p - 1) 0) a.before_is ∙ upto_at 33 _ _ (omega arith) (omega arith)
    in
    boundary_mask _ _ 64 _ _ _ _ _ b c.loop-p.invariant.0 c.meet.type_inv (rw (c.meet.ensures, c.without-first.ensures, c.without.ensures, goal_before a.sets.now p))

pub loop-p-init : goal.loop-p-init
loop-p-init c = (none_after _ _, start-whole _ _ _ _)

pub returns-then-meet-ne0 : goal.returns-then-meet-ne0
returns-then-meet-ne0 c =
    let e : c.loop-p.p - 1 + 1 ≡ c.loop-p.p = omega arith in
    e ∙ sym (c.loop-p.invariant.1 ∙ largest-boundary _ _ _ _ _ (omega arith) (sym (tested (goal.at.returns-then-meet-ne0 c).After-meet) ∙ ap not (ne_eqb _ 0 c.if-meet-ne0.true)))

pub loop-p-preserved : goal.loop-p-preserved
loop-p-preserved c =
    let l = c.loop-p in (
      λ x. rw (c.union-after.ensures, goal_before c.args.self.now.sets.now l.p) (one_more _ _ _ _ (omega arith) (omega arith) l.invariant.0 x),
      l.invariant.1 ∙ largest-on _ _ _ _ _ (omega arith) (sym (tested (goal.at.loop-p-preserved c).After-meet) ∙ ap not (eq-eqb _ 0 c.if-meet-ne0.false)),
    )

pub returns : goal.returns
returns c = start_none _ _ _ _ _ c.loop-p.invariant.1 (omega arith)
