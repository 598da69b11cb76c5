use Rattle.cp_effect_laws.proofs.Legs.{leg_stays}
use Rattle.cp_effect_laws.proofs.laws.law_stays.Goals as goal

pub returns : goal.returns
returns c = leg_stays
