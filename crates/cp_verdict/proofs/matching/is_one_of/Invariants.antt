use Rattle.std.proofs.Common.{◌≡◌, drop}
use Rattle.cp_verdict.specs.Expectations as spec
use Rattle.cp_verdict.proofs.matching.is_one_of.Given as goal

abbrev pub invariant-loop-topic : goal.invariant-loop-topic
invariant-loop-topic l = spec.is_one_of l.program.names l.topics l.outcome ≡ spec.is_one_of l.program.names (drop l.topic-index l.topics) l.outcome
