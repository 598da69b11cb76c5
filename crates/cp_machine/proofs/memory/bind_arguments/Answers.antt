use Rattle.cp_machine.proofs.Words.{refl, ◌≡◌, ◌∙◌, ap, length, sym, map-set, with_items_is, memory_of, bind_frame, machine_of, thread_at, memory_at}
use Rattle.cp_machine.proofs.Words.{with_memory, subst}
use Rattle.cp_machine.proofs.ThreadLemmas.{memory_put, thread_read}
use Rattle.cp_store.specs.Inside as store
use Rattle.cp_machine.proofs.frames.ReadLemmas.{own_memory}
use Rattle.cp_machine.proofs.memory.bind_arguments.Goals as goal

pub returns-clause-after : goal.returns-clause-after
returns-clause-after c =
    let p = c.index_mut-process.result.now in
    let put : memory_of c.bind_frame.new.permanents c.bind_frame.new.room ≡ bind_frame (memory_of c.args.state.now.permanents.items p.room) p.frame c.args.arguments.now c.args.state.now.bounds.items = c.bind_frame.ensures.after ∙ ap (λ ps. bind_frame (memory_of ps p.room) p.frame c.args.arguments.now c.deref.result.now) c.deref_mut.ensures.value ∙ ap (λ bs. bind_frame (memory_of c.args.state.now.permanents.items p.room) p.frame c.args.arguments.now bs) c.deref.ensures.value in
    let long : length c.bind_frame.new.permanents ≡ c.args.state.now.permanents.len = c.bind_frame.auto.permanents ∙ ap length c.deref_mut.ensures.value ∙ sym c.args.state.now.permanents.ok.0 in
    let m = machine_of c.args.state.now in
    let frame : (thread_at m.threads c.args.pid).frame ≡ p.frame = ap (λ t. t.frame) (thread_read c.args.state.now.processes.items c.args.pid p c.requires.pid c.index_mut-process.ensures.value) in
    let memory = memory_put (λ μ. bind_frame μ p.frame c.args.arguments.now c.args.state.now.bounds.items) m c.args.state.now.processes.items c.args.pid p _ refl c.requires.pid c.index_mut-process.ensures.value put in
    rw (map-set, with_items_is c.args.state.now.permanents c.bind_frame.new.permanents long) (memory ∙ ap (λ f. with_memory m c.args.pid (bind_frame (memory_at m c.args.pid) f c.args.arguments.now c.args.state.now.bounds.items)) (sym frame))

pub bind_frame-requires-clause-fit : goal.bind_frame-requires-clause-fit
bind_frame-requires-clause-fit c =
    let p = c.index_mut-process.result.now in
    subst (λ bs. store.AllFitFrame (memory_of c.deref_mut.result.now p.room) p.frame c.args.arguments.now bs) (sym c.deref.ensures.value) (own_memory (λ m f. store.AllFitFrame m f c.args.arguments.now c.args.state.now.bounds.items) c.args.state.now c.args.pid c.index_mut-process.result.now _ c.requires.pid c.index_mut-process.ensures.value c.deref_mut.ensures.value c.requires.fit)
