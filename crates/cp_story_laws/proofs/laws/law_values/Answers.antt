use Rattle.cp_story_laws.proofs.VariablesHeld.{values_law}
use Rattle.cp_story_laws.proofs.laws.law_values.Goals as goal

pub returns : goal.returns
returns c = values_law
