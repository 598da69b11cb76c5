use Rattle.cp_machine.proofs.Words.{◌≡◌, ◌≤◌, filter, range_with_len, array_vec_len, is_at_gate, machine_of, thread_at}
use Rattle.cp_machine.proofs.state.State.waiting.Given as goal

abbrev pub invariant-loop-pid : goal.invariant-loop-pid
invariant-loop-pid l =
    record {
      items : l.waiting.items ≡ filter (λ pid. is_at_gate l.monitor (thread_at (machine_of l.self).threads pid).status) (range_with_len 0 l.pid);
      few : array_vec_len l.waiting ≤ l.pid;
    }
