use Rattle.cp_effect_laws.proofs.Legs.{steps_laid}
use Rattle.cp_effect_laws.proofs.laws.law_step.Goals as goal

pub returns : goal.returns
returns c = steps_laid
