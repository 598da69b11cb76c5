use Rattle.cp_machine.proofs.Words.{◌≡◌, filter, range_with_len, is_ready, machine_of, readiness_of}
use Rattle.cp_machine.proofs.state.State.readiness.Given as goal

abbrev pub invariant-loop-pid : goal.invariant-loop-pid
invariant-loop-pid l = l.readiness ≡ readiness_of (filter (is_ready (machine_of l.self)) (range_with_len 0 l.pid))
