use Rattle.cp_machine.proofs.Words.{◌≡◌, map, take, HaveCells, HaveReferences, HaveStacks, thread_of, unstarted_thread}
use Rattle.cp_machine.proofs.start.start_processes.Given as goal

abbrev pub invariant-loop-number : goal.invariant-loop-number
invariant-loop-number l =
    record {
      threads : map thread_of l.processes.items ≡ map (unstarted_thread l.program) (take l.number l.program.processes);
      stacks : HaveStacks l.program.depth l.processes.items;
      cells : HaveCells l.program.cells l.processes.items;
      references : HaveReferences l.program.references l.processes.items;
    }
