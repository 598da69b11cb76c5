use Rattle.cp_machine.proofs.PremiseLemmas.{takes_reads, takes_replaces, takes_within}
use Rattle.cp_machine.proofs.statement.display.Goals as goal

pub value_of-requires : goal.value_of-requires
value_of-requires c = record { pid = takes_within c.requires; reads = takes_reads c.requires }

pub show-requires : goal.show-requires
show-requires c = record { replaces = takes_replaces c.requires; room = c.requires.1.taken.own.reserved.output; shown = c.requires.1.taken.own.reserved.shown }
