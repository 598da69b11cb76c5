use Rattle.cp_effect_laws.proofs.Legs.{legs_laid}
use Rattle.cp_effect_laws.proofs.laws.law_leg.Goals as goal

pub returns : goal.returns
returns c = legs_laid
