use Rattle.std.proofs.Common.{◌≡◌, ◌<◌, ℕ, length}
use Rattle.cp_machine.specs.declared.process.Status.TheVariants.{AtGate}
use Rattle.cp_states.specs.Numbers.{number_at}
use Rattle.cp_parts.specs.Parts.{IsStatusNumber, KeepStore}
use Rattle.cp_stretches.proofs.numbers.gate_numbers.Given as goal

abbrev pub invariant-loop-monitor : goal.invariant-loop-monitor
invariant-loop-monitor l =
    record {
      kept : KeepStore l.initial.store l.store;
      long : length l.numbers.items ≡ l.monitor;
      each : (k : ℕ) → k < l.monitor → IsStatusNumber l.store (AtGate k) (number_at l.numbers.items k);
    }
