use Rattle.cp_story_laws.proofs.StoriesOfTrees.{waits_law}
use Rattle.cp_story_laws.proofs.laws.law_waits.Goals as goal

pub returns : goal.returns
returns c = waits_law
