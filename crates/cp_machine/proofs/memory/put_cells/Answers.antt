use Rattle.cp_machine.proofs.Words.{refl, ◌≡◌, ◌∙◌, ap, length, sym, map-set, with_items_is, memory_of, put_copy, machine_of}
use Rattle.cp_machine.proofs.ThreadLemmas.{memory_put}
use Rattle.cp_store.specs.Inside as store
use Rattle.cp_machine.proofs.frames.ReadLemmas.{own_memory}
use Rattle.cp_machine.proofs.memory.put_cells.Goals as goal

pub returns-clause-after : goal.returns-clause-after
returns-clause-after c =
    let p = c.index_mut-process.result.now in
    let put : memory_of c.copy_cells.new.permanents c.copy_cells.new.room ≡ put_copy (memory_of c.args.state.now.permanents.items p.room) c.args.to c.args.from c.args.size = c.copy_cells.ensures.after ∙ ap (λ ps. put_copy (memory_of ps p.room) c.args.to c.args.from c.args.size) c.deref_mut.ensures.value in
    let long : length c.copy_cells.new.permanents ≡ c.args.state.now.permanents.len = c.copy_cells.auto.permanents ∙ ap length c.deref_mut.ensures.value ∙ sym c.args.state.now.permanents.ok.0 in
    rw (map-set, with_items_is c.args.state.now.permanents c.copy_cells.new.permanents long) (memory_put (λ μ. put_copy μ c.args.to c.args.from c.args.size) (machine_of c.args.state.now) c.args.state.now.processes.items c.args.pid p _ refl c.requires.pid c.index_mut-process.ensures.value put)

pub copy_cells-requires-clause-to : goal.copy_cells-requires-clause-to
copy_cells-requires-clause-to c = own_memory (λ m f. store.HasCells m c.args.to c.args.size) c.args.state.now c.args.pid c.index_mut-process.result.now _ c.requires.pid c.index_mut-process.ensures.value c.deref_mut.ensures.value c.requires.to

pub copy_cells-requires-clause-from : goal.copy_cells-requires-clause-from
copy_cells-requires-clause-from c = own_memory (λ m f. store.HasCells m c.args.from c.args.size) c.args.state.now c.args.pid c.index_mut-process.result.now _ c.requires.pid c.index_mut-process.ensures.value c.deref_mut.ensures.value c.requires.from
