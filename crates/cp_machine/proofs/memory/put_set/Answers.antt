use Rattle.cp_machine.proofs.Words.{refl, ◌≡◌, ◌∙◌, ap, length, sym, map-set, with_items_is, memory_of, set_written, machine_of, SET_CELLS}
use Rattle.cp_machine.proofs.ThreadLemmas.{memory_put}
use Rattle.cp_store.specs.Inside as store
use Rattle.cp_machine.proofs.frames.ReadLemmas.{own_memory}
use Rattle.cp_machine.proofs.memory.put_set.Goals as goal

pub returns-clause-after : goal.returns-clause-after
unfolding set_written
returns-clause-after c =
    let p = c.index_mut-process.result.now in
    let put : memory_of c.write_set.new.permanents c.write_set.new.room ≡ set_written (memory_of c.args.state.now.permanents.items p.room) c.args.at c.args.value = c.write_set.ensures.after ∙ ap (λ ps. set_written (memory_of ps p.room) c.args.at c.args.value) c.deref_mut.ensures.value in
    let long : length c.write_set.new.permanents ≡ c.args.state.now.permanents.len = c.write_set.auto.permanents ∙ ap length c.deref_mut.ensures.value ∙ sym c.args.state.now.permanents.ok.0 in
    rw (map-set, with_items_is c.args.state.now.permanents c.write_set.new.permanents long) (memory_put (λ μ. set_written μ c.args.at c.args.value) (machine_of c.args.state.now) c.args.state.now.processes.items c.args.pid p _ refl c.requires.pid c.index_mut-process.ensures.value put)

pub write_set-requires : goal.write_set-requires
write_set-requires c = own_memory (λ m f. store.HasCells m c.args.at SET_CELLS) c.args.state.now c.args.pid c.index_mut-process.result.now _ c.requires.pid c.index_mut-process.ensures.value c.deref_mut.ensures.value c.requires.cells
