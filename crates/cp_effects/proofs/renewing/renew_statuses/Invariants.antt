use Rattle.cp_machine.specs.Machine.{machine_of}
use Rattle.cp_parts.specs.Parts.{KeepStore}
use Rattle.cp_effects.specs.Renewing.{HasNewStatuses}
use Rattle.cp_effects.proofs.renewing.renew_statuses.Given as goal

abbrev pub invariant-loop-at : goal.invariant-loop-at
invariant-loop-at l =
    record {
      kept : KeepStore l.initial.store l.store;
      has : HasNewStatuses l.store (machine_of l.state) l.initial.row l.row l.at;
    }
