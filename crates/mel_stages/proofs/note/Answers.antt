use Rattle.std.proofs.Common.{◌∙◌, ap, Bool, cond, refl, sym, get_or, arith}
use Rattle.sets.specs.Sets.{has}
use Rattle.sets.proofs.Members.{step_has, step_none}
use Rattle.mel_stages.specs.Masks as M
use Rattle.mel_stages.proofs.Own.{note_more}
use Rattle.mel_stages.proofs.note.Goals as goal

pub loop-x-init : goal.loop-x-init
loop-x-init c = λ x h. rw (c.into_iter-x-iterator.ensures.into_iter_gives, c.members-x-items.ensures) refl

pub loop-x-preserved : goal.loop-x-preserved
loop-x-preserved c =
    let l = c.loop-x in
    let y = c.in-Some.x in
    λ x h.
    note_more (has c.next.new.self.rest x) l.own y c.args.s x (omega arith)
    ∙ ap (λ (b : Bool). cond b c.args.s (get_or l.own x 0)) (sym (step_has 64 _ _ _ c.in-Some.ensures.steps x h))
    ∙ l.invariant x h

pub returns : goal.returns
unfolding M.Noted
returns c =
    λ x h.
    ap (λ (b : Bool). cond b c.args.s (get_or c.loop-x.own x 0)) (sym (step_none 64 _ c.in-None.ensures.steps.0 x h)) ∙ c.loop-x.invariant x h
