use Rattle.std.proofs.Common.{◌≡◌, drop}
use Rattle.cp_verdict.specs.endless.Naming.{processes_of}
use Rattle.cp_verdict.specs.waiting.Matching as spec
use Rattle.cp_verdict.proofs.waiting.matching.is_one_of.Given as goal

abbrev pub invariant-loop-topic : goal.invariant-loop-topic
invariant-loop-topic l = spec.is_one_of l.program.names (processes_of l.legend) l.topics l.who l.outcome ≡ spec.is_one_of l.program.names (processes_of l.legend) (drop l.topic-index l.topics) l.who l.outcome
