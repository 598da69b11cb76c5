use Rattle.std.proofs.Common.{◌≡◌, drop}
use Rattle.std.specs.Prelude.{find}
use Rattle.cp_verdict.specs.endless.Naming.{processes_of}
use Rattle.cp_verdict.specs.waiting.Matching.{settles}
use Rattle.cp_verdict.proofs.judging.first_settling.Given as goal

abbrev pub invariant-loop-one : goal.invariant-loop-one
invariant-loop-one l =
    find (λ x. settles l.program.names (processes_of l.legend) l.expectation x.who.now x.outcome.now) l.rows ≡
    find (λ x. settles l.program.names (processes_of l.legend) l.expectation x.who.now x.outcome.now) (drop l.one-index l.rows)
