use Rattle.std.proofs.Common.{◌≡◌, reverse, take}
use Rattle.cp_story.specs.Story.{monitor_left}
use Rattle.cp_story.proofs.open_calls.monitor_left.Given as goal

abbrev pub invariant-loop-entry : goal.invariant-loop-entry
invariant-loop-entry l = l.found ≡ monitor_left (reverse (take l.entry-index l.process.stack.items))
