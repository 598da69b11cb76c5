use Rattle.std.proofs.Common.{◌≡◌, reverse, take}
use Rattle.cp_story.specs.Passed.{frame_with}
use Rattle.cp_story.proofs.happening.frame_with.Given as goal

abbrev pub invariant-loop-entry : goal.invariant-loop-entry
invariant-loop-entry l = l.found ≡ frame_with (reverse (take l.entry-index l.process.stack.items)) l.cell
