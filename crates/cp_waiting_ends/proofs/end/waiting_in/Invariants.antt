use Rattle.std.proofs.Common.{◌≡◌}
use Rattle.cp_machine.specs.System.{machine_of}
use Rattle.cp_run.specs.Run.{those_below}
use Rattle.cp_endless_laws.specs.Silent.{waits_on_slots}
use Rattle.cp_waiting_ends.proofs.end.waiting_in.Given as goal

abbrev pub invariant-loop-pid : goal.invariant-loop-pid
invariant-loop-pid l = record { items : l.who.items ≡ those_below l.pid (waits_on_slots (machine_of l.state)) }
