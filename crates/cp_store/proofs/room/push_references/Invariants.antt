use Rattle.std.proofs.Common.{◌≡◌, ◌+◌, ◌≤◌, ◌++◌, replicate, vec_len, vec_capacity}
use Rattle.cp_store.specs.Memory.{nowhere}
use Rattle.cp_store.proofs.room.push_references.Given as goal

abbrev pub invariant-loop : goal.invariant-loop
invariant-loop l =
    record {
      items : l.references.items ≡ l.fn.references.items ++ replicate l.counter nowhere;
      len : vec_len l.references ≡ vec_len l.fn.references + l.counter;
      room : vec_capacity l.fn.references ≤ vec_capacity l.references;
    }
