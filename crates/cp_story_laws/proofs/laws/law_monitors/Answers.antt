use Rattle.cp_story_laws.proofs.Monitors.{monitors_law}
use Rattle.cp_story_laws.proofs.laws.law_monitors.Goals as goal

pub returns : goal.returns
returns c = monitors_law
