use Rattle.std.proofs.Common.{◌≡◌, []}
use mathlib.Core.Path.{sym, ap, ◌∙◌}
use borrow.Author.Tests.{eqb-true, eqb-false}
use Rattle.sets.specs.Sets.{members}
use Rattle.sets.proofs.Members.{members_step, members-none, fewer}
use Rattle.sets.proofs.AscendingIterator.next.Goals as goal
use Rattle.sets.proofs.AscendingIterator.next.Goals.{After-first-first}

some : (g : _) (c : After-first-first g) → g.W.Set.mask c.args.self.now.rest ≡ 0 → ⊥
some g c = eqb-false _ 0 (sym c.is_empty.ensures.value ∙ c.if-is_empty.false)

pub returns-then-is_empty-clause-steps : goal.returns-then-is_empty-clause-steps
returns-then-is_empty-clause-steps g c =
    let e : members g.W.Set.width (g.W.Set.mask c.args.self.now.rest) ≡ [] =
    ap (members g.W.Set.width) (eqb-true _ 0 (sym c.is_empty.ensures.value ∙ c.if-is_empty.true)) ∙ members-none g.W.Set.width
    in
    (e, e)

pub returns-clause-steps : goal.returns-clause-steps
returns-clause-steps g c =
    rw (c.first-first.ensures, c.without_first-self.ensures) (members_step g.W.Set.width _ c.is_empty.ensures.fits (some g (goal.at.returns-clause-steps g c).After-first-first))

pub returns-clause-goes : goal.returns-clause-goes
returns-clause-goes g c =
    record {
      on = λ f. (tt, tt, rw c.without_first-self.ensures (fewer g.W.Set.width _ c.is_empty.ensures.fits (some g (goal.at.returns-clause-goes g c).After-first-first)));
      keeps = tt;
      rests = λ f. tt;
    }
