use Rattle.std.proofs.Common.{subst}
use Rattle.cp_merged.specs.TooMany.{IsDueFault}
use Rattle.cp_outcomes.proofs.telling.findings_by_states.Goals as goal

pub findings_of_too_many-requires-in-Err-TooManyOutcomes : goal.findings_of_too_many-requires-in-Err-TooManyOutcomes
findings_of_too_many-requires-in-Err-TooManyOutcomes g c = (c.args.most, subst (IsDueFault _ _ _ _) c.in-Err-TooManyOutcomes.field-0-is c.in-Err-TooManyOutcomes.ensures.fault)
