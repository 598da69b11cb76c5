use Rattle.cp_machine.proofs.Words.{◌≡◌, ◌≤◌, filter, range_with_len, array_vec_len, is_ready, machine_of}
use Rattle.cp_machine.proofs.state.State.ready.Given as goal

abbrev pub invariant-loop-pid : goal.invariant-loop-pid
invariant-loop-pid l =
    record {
      items : l.ready.items ≡ filter (is_ready (machine_of l.self)) (range_with_len 0 l.pid);
      few : array_vec_len l.ready ≤ l.pid;
    }
