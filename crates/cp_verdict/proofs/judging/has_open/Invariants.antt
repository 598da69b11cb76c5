use Rattle.std.proofs.Common.{◌≡◌, drop, map}
use Rattle.cp_verdict.specs.Expectations.{is_one_of}
use Rattle.cp_verdict.specs.Judged as spec
use Rattle.cp_verdict.proofs.judging.has_open.Given as goal

abbrev pub invariant-loop-one : goal.invariant-loop-one
invariant-loop-one l = spec.has_open l.expectation.claim (is_one_of l.program.names l.expectation.topics.items) (map spec.line_of l.seen) ≡ spec.has_open l.expectation.claim (is_one_of l.program.names l.expectation.topics.items) (map spec.line_of (drop l.one-index l.seen))
