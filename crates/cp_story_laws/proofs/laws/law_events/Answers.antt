use Rattle.cp_story_laws.proofs.StoriesOfTrees.{events_law}
use Rattle.cp_story_laws.proofs.laws.law_events.Goals as goal

pub returns : goal.returns
returns c = events_law
