use Rattle.cp_parts.specs.Taken.{IsWritten}
use Rattle.cp_parts.proofs.taking.take_span.Given as goal

abbrev pub invariant-loop-at : goal.invariant-loop-at
invariant-loop-at g l = (d : _) → IsWritten d l.span.first l.at l.from l.initial.to l.to
