use Rattle.cp_machine.proofs.Words.{◌≡◌, ℕ, map, take, HaveCells, HaveReferences, HaveStacks, thread_of}
use Rattle.cp_machine.proofs.copy.copies_of_processes.Given as goal

abbrev pub invariant-loop-process : goal.invariant-loop-process
invariant-loop-process l =
    record {
      same : map thread_of l.processes.items ≡ map thread_of (take l.process-index l.from);
      stacks : (depth : ℕ) → HaveStacks depth l.from → HaveStacks depth l.processes.items;
      cells : (cells : ℕ) → HaveCells cells l.from → HaveCells cells l.processes.items;
      references : (references : ℕ) → HaveReferences references l.from → HaveReferences references l.processes.items;
    }
