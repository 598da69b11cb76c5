use Rattle.std.proofs.Common.{◌≡◌, ◌≤◌, drop, vec_len}
use Rattle.std.specs.Prelude.{vec_capacity}
use Rattle.cp_store.specs.Arguments.{bounds_at, bounds_after}
use Rattle.cp_store.specs.Memory.{memory_of}
use Rattle.cp_store.proofs.argument.evaluate_arguments.Given as goal

abbrev pub invariant-loop-argument : goal.invariant-loop-argument
invariant-loop-argument l =
    record {
      after : bounds_at (memory_of l.permanents l.room) l.bindings l.frame l.arguments ≡ bounds_after (memory_of l.permanents l.room) l.bindings l.frame l.bounds.items (drop l.argument-index l.arguments);
      count : vec_len l.bounds ≡ l.argument-index;
      room : vec_capacity l.fn.bounds ≤ vec_capacity l.bounds;
    }
