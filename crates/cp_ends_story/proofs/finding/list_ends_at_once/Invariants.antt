use Rattle.cp_ends_story.proofs.AtOnce.{EndsSoFar}
use Rattle.cp_ends_story.proofs.finding.list_ends_at_once.Given as goal

abbrev pub invariant-loop-end : goal.invariant-loop-end
invariant-loop-end l = EndsSoFar l.kept l.ends l.end-index l.list.items
