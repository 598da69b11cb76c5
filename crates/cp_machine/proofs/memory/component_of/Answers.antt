use Rattle.cp_machine.proofs.Words.{subst, sym, memory_of}
use Rattle.cp_store.specs.Inside as store
use Rattle.cp_machine.proofs.frames.ReadLemmas.{own_memory}
use Rattle.cp_machine.proofs.memory.component_of.Goals as goal

pub component_of-requires : goal.component_of-requires
component_of-requires c =
    let p = c.index-process.result.now in
    subst (λ bs. store.CanFind (memory_of c.deref.result.now p.room) bs p.frame c.args.place.now) (sym c.deref-2.ensures.value) (own_memory (λ m f. store.CanFind m c.args.state.now.bindings.items f c.args.place.now) c.args.state.now c.args.pid c.index-process.result.now _ c.requires.pid c.index-process.ensures c.deref.ensures.value c.requires.finds)
