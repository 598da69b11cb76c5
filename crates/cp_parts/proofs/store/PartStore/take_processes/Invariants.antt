use Rattle.std.proofs.Common.{◌≡◌, ◌≤◌, ℕ, map}
use Rattle.std.specs.Prelude.{slice_index_or}
use Rattle.cp_slots.specs.Tables.{Tables}
use Rattle.cp_machine.specs.declared.process.ProcessState.{ProcessState}
use Rattle.cp_machine.specs.Machine.{Machine, thread_at, thread_of}
use Rattle.cp_parts.specs.Taking.{AreTaken}
use Rattle.cp_parts.specs.Taken.{CanTake}
use Rattle.cp_parts.proofs.store.PartStore.take_processes.Given as goal

abbrev pub invariant-loop-at : goal.invariant-loop-at
invariant-loop-at l =
    record {
      still : (k : ℕ) (d : ProcessState) → l.at ≤ k → slice_index_or l.processes k d ≡ slice_index_or l.initial.processes k d;
      taken : (r : Tables) (m n : Machine) → CanTake r l.self l.table l.row l.known m n → map thread_of l.initial.processes ≡ n.threads → AreTaken (λ q. thread_at m.threads q) l.initial.processes l.processes l.at;
    }
