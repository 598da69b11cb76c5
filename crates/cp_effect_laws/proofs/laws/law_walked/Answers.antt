use Rattle.cp_effect_laws.proofs.Walked.{leg_walked}
use Rattle.cp_effect_laws.proofs.laws.law_walked.Goals as goal

pub returns : goal.returns
returns c = leg_walked
