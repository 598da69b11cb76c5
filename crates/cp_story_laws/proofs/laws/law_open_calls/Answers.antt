use Rattle.cp_story_laws.proofs.OpenNow.{open_calls_law}
use Rattle.cp_story_laws.proofs.laws.law_open_calls.Goals as goal

pub returns : goal.returns
returns c = open_calls_law
