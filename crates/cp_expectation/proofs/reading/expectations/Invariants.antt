use Rattle.std.proofs.Common.{◌≡◌, Some, map, take}
use Rattle.cp_expectation.specs.Reader.{state_of}
use Rattle.cp_expectation.specs.Steps.{start, step}
use Rattle.cp_expectation.proofs.Walking.{run}
use Rattle.cp_expectation.proofs.reading.expectations.Given as goal

abbrev pub invariant-loop-place : goal.invariant-loop-place
invariant-loop-place l = run step (Some start) (take l.place (map (λ w. w.now) l.word-items)) ≡ Some (state_of l.reader)
