use Rattle.std.proofs.Common.{◌+◌}
use Rattle.std.specs.String.{string_bytes}
use Rattle.cp_expectation.proofs.Fronts.{ShownUpTo}
use Rattle.cp_expectation.proofs.readable.push_readable.Given as goal

abbrev pub invariant-loop-at : goal.invariant-loop-at
invariant-loop-at l = ShownUpTo l.bytes (l.at + l.left) (string_bytes l.initial.text) (string_bytes l.text)
