use Rattle.cp_machine.proofs.PremiseLemmas.{takes_fits, takes_list, takes_reads}
use Rattle.cp_machine.proofs.loops.for_do.Goals as goal

pub value_of-requires : goal.value_of-requires
value_of-requires c = record { pid = c.requires.1.2.taken.within; reads = (takes_reads (c.requires.0, c.requires.1.2)).1 }

pub value_of-requires-2 : goal.value_of-requires-2
value_of-requires-2 c = record { pid = c.requires.1.2.taken.within; reads = (takes_reads (c.requires.0, c.requires.1.2)).2 }

pub for_from-requires : goal.for_from-requires
for_from-requires c = record { replaces = takes_list (c.requires.0, c.requires.1.2) c.args.course.list (takes_fits (c.requires.0, c.requires.1.2)); name = (takes_reads (c.requires.0, c.requires.1.2)).0 }
