use Rattle.cp_slots.specs.declared.item.Action.TheVariants.{Delay, Continue}
use Rattle.cp_machine.proofs.frames.ReadLemmas.{taken_reads}
use Rattle.cp_story.proofs.aim.queue_of.Goals as goal

pub queue_cell-requires-clause-reach : goal.queue_cell-requires-clause-reach
queue_cell-requires-clause-reach c = taken_reads c.requires.0 c.args.state.now c.args.pid c.requires.1 c.args.item.now c.requires.2 (Delay c.in-Delay.place) c.in-Delay.is

pub queue_cell-requires-in-Continue-clause-reach : goal.queue_cell-requires-in-Continue-clause-reach
queue_cell-requires-in-Continue-clause-reach c = taken_reads c.requires.0 c.args.state.now c.args.pid c.requires.1 c.args.item.now c.requires.2 (Continue c.in-Continue.place) c.in-Continue.is
