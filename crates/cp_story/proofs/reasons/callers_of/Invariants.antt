use Rattle.std.proofs.Common.{◌≡◌, map}
use Rattle.cp_machine.specs.Machine.{machine_of}
use Rattle.cp_run.specs.Run.{those_below}
use Rattle.cp_story.specs.Reasons.{caller_at, is_caller, standstill_seen}
use Rattle.cp_story.proofs.reasons.callers_of.Given as goal

-- those of the processes before this one
abbrev pub invariant-loop-other : goal.invariant-loop-other
invariant-loop-other l = l.callers.items ≡ map (caller_at (machine_of l.standstill.state.now)) (those_below l.other (is_caller (standstill_seen l.standstill) l.process l.cell))
