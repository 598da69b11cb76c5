use Rattle.std.proofs.Common.{◌≡◌, drop}
use Rattle.cp_verdict.specs.Expectations as spec
use Rattle.cp_verdict.proofs.matching.shows.Given as goal

abbrev pub invariant-loop-value : goal.invariant-loop-value
invariant-loop-value l = spec.shows l.program.names l.text l.values ≡ spec.shows l.program.names l.text (drop l.value-index l.values)
