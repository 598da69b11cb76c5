use Rattle.cp_ends_story.proofs.Found.{followed_in_vain}
use Rattle.cp_ends_story.proofs.finding.findings_after.Goals as goal

pub returns-in-StatesAtOnce : goal.returns-in-StatesAtOnce
returns-in-StatesAtOnce g c = followed_in_vain c.args.subject c.args.plain c.in_ok-second.second c.requires.not c.requires.plain (c.is_cut_short.ensures c.if-not-is_cut_short.false) c.in_ok-second.ensures
