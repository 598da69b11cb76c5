use Rattle.cp_machine.proofs.statement.show.Goals as goal

pub replace-requires : goal.replace-requires
replace-requires c = record { within = c.requires.replaces.within; busy = c.requires.replaces.busy; room = tt }
