use Rattle.record.proofs.WellFormed.{fine_well_formed}
use Rattle.clause.proofs.Decoded.{clause-few}
use Rattle.run_cases.proofs.run_waits.Goals as goal

pub waits_of-requires : goal.waits_of-requires
waits_of-requires g c = clause-few _ (fine_well_formed _ c.in-Ok.given.accepted) _ c.decode.ensures
