use Rattle.cp_ends_story.proofs.Listing.{EndsSoFar}
use Rattle.cp_ends_story.proofs.finding.list_ends.Given as goal

abbrev pub invariant-loop-end : goal.invariant-loop-end
invariant-loop-end l = EndsSoFar l.states l.depth l.ends l.end-index l.list.items
