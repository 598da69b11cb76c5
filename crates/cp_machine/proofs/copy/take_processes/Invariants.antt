use Rattle.cp_machine.proofs.CopyLemmas.{AreCopied}
use Rattle.cp_machine.proofs.copy.take_processes.Given as goal

abbrev pub invariant-loop-at : goal.invariant-loop-at
invariant-loop-at g l = AreCopied l.fn.mine l.mine l.theirs l.at
