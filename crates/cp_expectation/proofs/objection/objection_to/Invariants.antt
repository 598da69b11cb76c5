use Rattle.std.proofs.Common.{◌≡◌, drop}
use Rattle.cp_expectation.specs.Objections.{first_objection}
use Rattle.cp_expectation.proofs.objection.objection_to.Given as goal

abbrev pub invariant-loop-topic : goal.invariant-loop-topic
invariant-loop-topic l = first_objection l.question l.expectation.claim l.expectation.topics.items ≡ first_objection l.question l.expectation.claim (drop l.topic-index l.expectation.topics.items)
