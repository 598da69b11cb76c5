use Rattle.std.proofs.Common.{◌≡◌, drop}
use Rattle.std.specs.List.{list_all}
use Rattle.cp_show_mark.specs.Given.{knows_values}
use Rattle.cp_show_mark.proofs.asking.undeclared_in.Given as goal

abbrev pub invariant-loop-topic : goal.invariant-loop-topic
invariant-loop-topic l = list_all (knows_values l.examinee.program.now.names) l.expectation.topics.items ≡ list_all (knows_values l.examinee.program.now.names) (drop l.topic-index l.expectation.topics.items)
