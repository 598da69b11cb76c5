use Rattle.cp_effect_laws.proofs.Parts.{effect_law}
use Rattle.cp_effect_laws.proofs.laws.law_effect.Goals as goal

pub returns : goal.returns
returns c = effect_law
