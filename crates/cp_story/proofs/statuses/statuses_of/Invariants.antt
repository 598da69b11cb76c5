use Rattle.std.proofs.Common.{◌≡◌, map, take}
use Rattle.cp_machine.specs.declared.process.ProcessState.{ProcessState}
use Rattle.cp_story.proofs.statuses.statuses_of.Given as goal

abbrev pub invariant-loop-process : goal.invariant-loop-process
invariant-loop-process l = l.statuses.items ≡ map (λ (p : ProcessState). p.status) (take l.process-index l.state.processes.items)
