use Rattle.std.proofs.Common.{◌≡◌, drop}
use Rattle.cp_verdict.specs.Marked as spec
use Rattle.cp_verdict.proofs.marking.has_unsettled.Given as goal

abbrev pub invariant-loop-judgement : goal.invariant-loop-judgement
invariant-loop-judgement l = spec.has_unsettled l.judgements ≡ spec.has_unsettled (drop l.judgement-index l.judgements)
