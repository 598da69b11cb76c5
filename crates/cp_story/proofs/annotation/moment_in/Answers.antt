use Rattle.cp_story.proofs.AnnotationsTold.{goes_on_within}
use Rattle.cp_story.proofs.annotation.moment_in.Goals as goal

pub item-requires : goal.item-requires
item-requires c = goes_on_within c.args.program.now c.args.state.now c.args.pid c.index-process.result.now c.entry_below-2.result c.in-Some-Rest.field-0 2 c.in-Some-Rest.at c.requires.pid c.requires.own c.index-process.ensures c.entry_below-2.ensures c.in-Some-Rest.is c.in-Some-Rest.field-0-is
