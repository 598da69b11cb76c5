use Rattle.cp_story_laws.proofs.StoriesOfTrees.{stop_law}
use Rattle.cp_story_laws.proofs.laws.law_stop.Goals as goal

pub returns : goal.returns
returns c = stop_law
