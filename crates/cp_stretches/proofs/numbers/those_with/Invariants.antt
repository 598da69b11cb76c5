use Rattle.std.proofs.Common.{◌≡◌, ◌≤◌, filter}
use Rattle.std.specs.Prelude.{◌==◌}
use Rattle.std.specs.List.{range_with_len}
use Rattle.arrayvec.specs.ArrayVec.{array_vec_len}
use Rattle.cp_states.specs.Numbers.{number_at}
use Rattle.cp_stretches.proofs.numbers.those_with.Given as goal

abbrev pub invariant-loop-process : goal.invariant-loop-process
invariant-loop-process l =
    record {
      items : l.those.items ≡ filter (λ q. number_at l.row q == l.wanted) (range_with_len 0 l.process);
      few : array_vec_len l.those ≤ l.process;
    }
