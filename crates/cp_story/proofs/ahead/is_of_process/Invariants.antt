use Rattle.std.proofs.Common.{◌≡◌, drop}
use Rattle.std.specs.List.{list_any}
use Rattle.cp_story.specs.Ahead.{begins_with}
use Rattle.cp_story.proofs.ahead.is_of_process.Given as goal

-- what is left leads where all lead
abbrev pub invariant-loop-process : goal.invariant-loop-process
invariant-loop-process l = list_any (begins_with l.routine) l.program.processes ≡ list_any (begins_with l.routine) (drop l.process l.program.processes)
