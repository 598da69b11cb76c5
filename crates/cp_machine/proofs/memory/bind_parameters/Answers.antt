use Rattle.cp_machine.proofs.Words.{refl, ◌≡◌, ◌∙◌, ap, length, sym, map-set, with_items_is, memory_of, bind_component, bindings_after, machine_of}
use Rattle.cp_machine.proofs.Words.{with_bindings, memory_at, with_memory, subst}
use Rattle.cp_machine.proofs.ThreadLemmas.{memory_put}
use Rattle.cp_store.specs.Inside as store
use Rattle.cp_machine.proofs.frames.ReadLemmas.{own_memory}
use Rattle.cp_machine.proofs.memory.bind_parameters.Goals as goal

pub returns-clause-after : goal.returns-clause-after
returns-clause-after c =
    let p = c.index_mut-process.result.now in
    let m = machine_of c.args.state.now in
    let bounds = c.args.state.now.bounds.items in
    let put : memory_of c.bind_component.new.permanents c.bind_component.new.room ≡ bind_component (memory_of c.args.state.now.permanents.items p.room) c.args.base c.args.arguments.now bounds = c.bind_component.ensures.after ∙ ap (λ ps. bind_component (memory_of ps p.room) c.args.base c.args.arguments.now c.deref.result.now) c.deref_mut.ensures.value ∙ ap (λ bs. bind_component (memory_of c.args.state.now.permanents.items p.room) c.args.base c.args.arguments.now bs) c.deref.ensures.value in
    let bound : c.bind_component.new.bindings ≡ bindings_after m.bindings c.args.base c.args.arguments.now bounds = c.bind_component.ensures.bindings ∙ ap (λ bs. bindings_after bs c.args.base c.args.arguments.now c.deref.result.now) c.deref_mut-2.ensures.value ∙ ap (λ bs. bindings_after m.bindings c.args.base c.args.arguments.now bs) c.deref.ensures.value in
    let memory = memory_put (λ μ. bind_component μ c.args.base c.args.arguments.now bounds) m c.args.state.now.processes.items c.args.pid p _ refl c.requires.pid c.index_mut-process.ensures.value put in
    let long : length c.bind_component.new.permanents ≡ c.args.state.now.permanents.len = c.bind_component.auto.permanents ∙ ap length c.deref_mut.ensures.value ∙ sym c.args.state.now.permanents.ok.0 in
    let many : length c.bind_component.new.bindings ≡ c.args.state.now.bindings.len = c.bind_component.auto.bindings ∙ ap length c.deref_mut-2.ensures.value ∙ sym c.args.state.now.bindings.ok.0 in
    rw (map-set, with_items_is c.args.state.now.permanents c.bind_component.new.permanents long, with_items_is c.args.state.now.bindings c.bind_component.new.bindings many) (ap (λ k. with_bindings k c.bind_component.new.bindings) memory ∙ ap (with_bindings (with_memory m c.args.pid (bind_component (memory_at m c.args.pid) c.args.base c.args.arguments.now bounds))) bound)

pub bind_component-requires-clause-fit : goal.bind_component-requires-clause-fit
bind_component-requires-clause-fit c =
    let p = c.index_mut-process.result.now in
    subst (λ bs. store.AllFitComponent (memory_of c.deref_mut.result.now p.room) c.deref_mut-2.result.now c.args.base c.args.arguments.now bs) (sym c.deref.ensures.value)
    (subst (λ ks. store.AllFitComponent (memory_of c.deref_mut.result.now p.room) ks c.args.base c.args.arguments.now c.args.state.now.bounds.items) (sym c.deref_mut-2.ensures.value)
    (own_memory (λ m f. store.AllFitComponent m c.args.state.now.bindings.items c.args.base c.args.arguments.now c.args.state.now.bounds.items) c.args.state.now c.args.pid c.index_mut-process.result.now _ c.requires.pid c.index_mut-process.ensures.value c.deref_mut.ensures.value c.requires.fit))
