use Rattle.cp_machine.proofs.Words.{◌≡◌, map, take, monitor_of}
use Rattle.cp_machine.proofs.copy.copies_of_guards.Given as goal

abbrev pub invariant-loop-guard : goal.invariant-loop-guard
invariant-loop-guard l = map monitor_of l.guards.items ≡ map monitor_of (take l.guard-index l.from)
