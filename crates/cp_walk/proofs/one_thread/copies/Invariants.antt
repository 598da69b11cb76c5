use Rattle.std.proofs.Common.{◌≡◌, length, All}
use Rattle.cp_machine.specs.System.{IsStateOf}
use Rattle.cp_walk.proofs.one_thread.copies.Given as goal

abbrev pub invariant-loop : goal.invariant-loop
invariant-loop l =
    record {
      count : length l.states.items ≡ l.counter;
      own : All (IsStateOf l.program) l.states.items;
    }
