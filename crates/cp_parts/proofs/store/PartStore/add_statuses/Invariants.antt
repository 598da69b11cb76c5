use Rattle.cp_machine.specs.Machine.{machine_of}
use Rattle.cp_parts.specs.Parts.{HasStatuses, KeepStore}
use Rattle.cp_parts.proofs.store.PartStore.add_statuses.Given as goal

abbrev pub invariant-loop-at : goal.invariant-loop-at
invariant-loop-at l =
    record {
      kept : KeepStore l.initial.self l.self;
      has : HasStatuses l.self (machine_of l.state) l.row.items l.at;
    }
