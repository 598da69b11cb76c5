use Rattle.cp_store.specs.Inside as store
use Rattle.cp_machine.proofs.frames.ReadLemmas.{own_memory}
use Rattle.cp_machine.proofs.memory.set_of.Goals as goal

pub evaluate_set-requires : goal.evaluate_set-requires
evaluate_set-requires c = own_memory (λ m f. store.CanReadSet m f c.args.expression.now) c.args.state.now c.args.pid c.index-process.result.now _ c.requires.pid c.index-process.ensures c.deref.ensures.value c.requires.reads
