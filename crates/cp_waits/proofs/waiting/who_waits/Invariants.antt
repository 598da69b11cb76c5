use Rattle.cp_waits.specs.Lines.{AreLines}
use Rattle.cp_waits.proofs.waiting.who_waits.Given as goal

abbrev pub invariant-loop-process : goal.invariant-loop-process
invariant-loop-process l = AreLines l.graph l.states l.process l.list.items
