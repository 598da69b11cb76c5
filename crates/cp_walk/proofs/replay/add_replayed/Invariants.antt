use Rattle.std.proofs.Common.{◌≡◌, ◌≤◌, ◌+◌, ◌-◌, ◌++◌, length, map, take, drop, vec_capacity, vec_len}
use Rattle.cp_machine.specs.System.{machine_of, output_of}
use Rattle.cp_walk.specs.Rows.{line_of}
use Rattle.cp_walk.specs.Walked.{begun}
use Rattle.cp_walk.proofs.replay.add_replayed.Given as goal

abbrev pub invariant-loop-at : goal.invariant-loop-at
invariant-loop-at l =
    record {
      rows : map line_of l.rows.items ≡ map line_of l.fn.rows.items ++ map (begun l.word (output_of (machine_of l.state))) (take (l.at - l.fn.span.first) (drop l.fn.span.first (map line_of l.fn.rows.items)));
      from : l.fn.span.first ≤ l.at;
      long : vec_len l.rows + l.fn.span.first ≡ length l.fn.rows.items + l.at;
      room : length l.fn.rows.items + l.count ≤ vec_capacity l.rows;
    }
