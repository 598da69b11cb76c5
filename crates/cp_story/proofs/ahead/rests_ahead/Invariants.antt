use Rattle.std.proofs.Common.{◌≡◌}
use Rattle.cp_machine.specs.Machine.{machine_of}
use Rattle.cp_story.specs.Ahead.{begun_below}
use Rattle.cp_story.proofs.ahead.rests_ahead.Given as goal

-- those of the processes before this one
abbrev pub invariant-loop-process : goal.invariant-loop-process
invariant-loop-process l = l.ahead.items ≡ begun_below (machine_of l.state) l.process
