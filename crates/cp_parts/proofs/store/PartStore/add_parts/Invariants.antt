use Rattle.cp_machine.specs.Machine.{machine_of}
use Rattle.cp_parts.specs.Parts.{HasParts, KeepStore}
use Rattle.cp_parts.proofs.store.PartStore.add_parts.Given as goal

abbrev pub invariant-loop-place : goal.invariant-loop-place
invariant-loop-place l =
    record {
      kept : KeepStore l.initial.self l.self;
      has : HasParts l.self l.table (machine_of l.state) l.initial.row.items l.row.items l.place;
    }
