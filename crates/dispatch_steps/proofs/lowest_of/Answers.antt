use Rattle.sets.specs.Sets.{goal_limit}
use Rattle.dispatch_steps.proofs.Masks.{lowest_empty, lowest-first}
use Rattle.dispatch_steps.proofs.lowest_of.Goals as goal

pub returns-then-set-eq0-clause-none : goal.returns-then-set-eq0-clause-none
returns-then-set-eq0-clause-none c = λ u. lowest_empty goal_limit c.args.set c.if-set-eq0.true

pub returns-clause-value : goal.returns-clause-value
returns-clause-value c = lowest-first goal_limit c.args.set c.ranges.set.fits c.if-set-eq0.false
