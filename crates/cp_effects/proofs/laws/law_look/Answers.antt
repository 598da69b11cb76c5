use Rattle.cp_effects.proofs.Looking.{look_law}
use Rattle.cp_effects.proofs.laws.law_look.Goals as goal

pub returns : goal.returns
returns c = look_law
