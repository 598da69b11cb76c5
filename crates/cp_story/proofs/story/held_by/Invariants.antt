use Rattle.std.proofs.Common.{◌≡◌}
use Rattle.cp_machine.specs.System.{machine_of}
use Rattle.cp_run.specs.Run.{those_below}
use Rattle.cp_story.specs.Waiting.{is_inside}
use Rattle.cp_story.proofs.story.held_by.Given as goal

abbrev pub invariant-loop-monitor : goal.invariant-loop-monitor
invariant-loop-monitor l = l.held.items ≡ those_below l.monitor (is_inside (machine_of l.state) l.process)
