use Rattle.cp_machine.proofs.Words.{◌≡◌, ◌≤◌, vec_len, vec_capacity, from_end, top_first}
use Rattle.cp_machine.proofs.queue.drop_to_end.Given as goal

abbrev pub invariant-loop-stack : goal.invariant-loop-stack
invariant-loop-stack l =
    record {
      same : from_end (top_first l.stack) ≡ from_end (top_first l.fn.stack);
      room : vec_capacity l.fn.stack ≤ vec_capacity l.stack;
    }

abbrev pub decreases-loop-stack : goal.decreases-loop-stack
decreases-loop-stack l = vec_len l.stack
