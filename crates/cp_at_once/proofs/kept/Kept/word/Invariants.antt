use Rattle.cp_at_once.proofs.Unwinding.{ReadsAll}
use Rattle.cp_at_once.proofs.kept.Kept.word.Given as goal

abbrev pub invariant-loop : goal.invariant-loop
invariant-loop l = ReadsAll l.self.known.entries l.fn.origin l.from l.word.items l.counter
