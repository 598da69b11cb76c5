use Rattle.std.proofs.Common.{◌≡◌, drop}
use Rattle.std.specs.Prelude.{reverse}
use Rattle.cp_machine.specs.Stack.{from_end}
use Rattle.cp_effects.proofs.reading.end_on.Given as goal

abbrev pub invariant-loop-passed : goal.invariant-loop-passed
invariant-loop-passed l = from_end (drop l.passed (reverse l.stack)) ≡ from_end (reverse l.stack)
