use Rattle.std.proofs.Common.{◌≡◌, drop}
use Rattle.cp_verdict.specs.Marked as spec
use Rattle.cp_verdict.proofs.marking.has_against.Given as goal

abbrev pub invariant-loop-judgement : goal.invariant-loop-judgement
invariant-loop-judgement l = spec.has_against l.judgements ≡ spec.has_against (drop l.judgement-index l.judgements)
