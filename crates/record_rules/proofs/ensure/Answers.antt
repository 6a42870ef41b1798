use Rattle.record_rules.specs.Reading as R
use Rattle.record_rules.proofs.ensure.Goals as goal

pub returns-then-ok : goal.returns-then-ok
unfolding R.◌must◌else◌place◌
returns-then-ok c = cc

pub returns-else-ok : goal.returns-else-ok
unfolding R.◌must◌else◌place◌
returns-else-ok c = cc
