use Rattle.cp_machine.proofs.Words.{to_z, of_z, refl, ◌≡◌, ◌∙◌, ap, length, sym, map-set, with_items_is, memory_of, put_number, machine_of}
use Rattle.std.specs.Int.{w16}
use Rattle.std.proofs.lemmas.Int.{to_z-of_z}
use Rattle.cp_machine.proofs.ThreadLemmas.{memory_put}
use Rattle.cp_store.specs.Inside as store
use Rattle.cp_machine.proofs.frames.ReadLemmas.{own_memory}
use Rattle.cp_machine.proofs.memory.put_number.Goals as goal

pub returns-clause-after : goal.returns-clause-after
returns-clause-after c =
    let p = c.index_mut-process.result.now in
    let put : memory_of c.write.new.permanents c.write.new.room ≡ put_number (memory_of c.args.state.now.permanents.items p.room) c.args.at c.args.value = c.write.ensures.after ∙ ap (λ ps. put_number (memory_of ps p.room) c.args.at (to_z w16 (of_z w16 c.args.value))) c.deref_mut.ensures.value ∙ ap (λ v. put_number (memory_of c.args.state.now.permanents.items p.room) c.args.at v) (to_z-of_z w16 c.args.value c.ranges.value) in
    let long : length c.write.new.permanents ≡ c.args.state.now.permanents.len = c.write.auto.permanents ∙ ap length c.deref_mut.ensures.value ∙ sym c.args.state.now.permanents.ok.0 in
    rw (map-set, with_items_is c.args.state.now.permanents c.write.new.permanents long) (memory_put (λ μ. put_number μ c.args.at c.args.value) (machine_of c.args.state.now) c.args.state.now.processes.items c.args.pid p _ refl c.requires.pid c.index_mut-process.ensures.value put)

pub write-requires : goal.write-requires
write-requires c = own_memory (λ m f. store.HasCells m c.args.at 1) c.args.state.now c.args.pid c.index_mut-process.result.now _ c.requires.pid c.index_mut-process.ensures.value c.deref_mut.ensures.value c.requires.cells
