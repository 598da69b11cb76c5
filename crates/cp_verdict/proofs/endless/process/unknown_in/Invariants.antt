use Rattle.std.proofs.Common.{◌≡◌, drop}
use Rattle.std.specs.List.{list_all}
use Rattle.cp_verdict.specs.endless.Naming.{knows_processes, processes_of}
use Rattle.cp_verdict.proofs.endless.process.unknown_in.Given as goal

abbrev pub invariant-loop-topic : goal.invariant-loop-topic
invariant-loop-topic l = list_all (knows_processes (processes_of l.legend)) l.expectation.topics.items ≡ list_all (knows_processes (processes_of l.legend)) (drop l.topic-index l.expectation.topics.items)
