use Rattle.cp_store.specs.Inside as store
use Rattle.cp_machine.proofs.frames.ReadLemmas.{own_memory}
use Rattle.cp_story.proofs.aim.queue_cell.Goals as goal

pub address-requires : goal.address-requires
address-requires c = (1, own_memory (λ m f. store.CanReach m f c.args.place.now 1) c.args.state.now c.args.pid c.index-process.result.now _ c.requires.pid c.index-process.ensures c.deref.ensures.value c.requires.reach)
