use Rattle.std.proofs.Common.{◌≡◌, filter}
use Rattle.std.specs.Prelude.{◌==◌}
use Rattle.std.specs.List.{range_with_len}
use Rattle.cp_machine.specs.Machine.{readiness_of}
use Rattle.cp_states.specs.Numbers.{number_at}
use Rattle.cp_stretches.proofs.numbers.StatusNumbers.readiness.Given as goal

abbrev pub invariant-loop-process : goal.invariant-loop-process
invariant-loop-process l = l.readiness ≡ readiness_of (filter (λ q. number_at l.row q == l.self.ready) (range_with_len 0 l.process))
