use Rattle.cp_machine.proofs.Words.{◌<◌, length, subst, sym, Machine}
use Rattle.cp_machine.proofs.end.end_init.Goals as goal

pub returns-clause-reserved : goal.returns-clause-reserved
returns-clause-reserved c = λ r h. c.set_phase.ensures.reserved r (c.leave.ensures.reserved r h)

pub set_phase-requires : goal.set_phase-requires
set_phase-requires c =
    let P : Machine → Type 0 = λ m. c.args.component < length m.phases in
    record { known = subst P (sym c.leave.ensures.after) c.requires.known }

pub leave-requires : goal.leave-requires
leave-requires c = c.requires.leaves
