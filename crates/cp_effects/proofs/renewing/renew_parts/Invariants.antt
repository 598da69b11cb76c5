use Rattle.std.proofs.Common.{take}
use Rattle.cp_machine.specs.Machine.{machine_of}
use Rattle.cp_parts.specs.Parts.{KeepStore}
use Rattle.cp_effects.specs.Renewing.{HasNewParts}
use Rattle.cp_effects.proofs.renewing.renew_parts.Given as goal

abbrev pub invariant-loop-at : goal.invariant-loop-at
invariant-loop-at l =
    record {
      kept : KeepStore l.initial.store l.store;
      has : HasNewParts l.store l.table (machine_of l.state) (take l.at l.places) l.initial.row l.row;
    }
