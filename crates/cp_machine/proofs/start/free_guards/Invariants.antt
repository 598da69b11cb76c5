use Rattle.cp_machine.proofs.Words.{◌≡◌, map, replicate, monitor_of, no_monitor}
use Rattle.cp_machine.proofs.start.free_guards.Given as goal

abbrev pub invariant-loop-number : goal.invariant-loop-number
invariant-loop-number l = map monitor_of l.guards.items ≡ replicate l._number no_monitor
