use Rattle.cp_ends.proofs.Unwinding.{ReadsAll}
use Rattle.cp_ends.proofs.states.States.word.Given as goal

abbrev pub invariant-loop : goal.invariant-loop
invariant-loop l = ReadsAll l.self l.fn.origin l.from l.word.items l.counter
