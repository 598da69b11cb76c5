use Rattle.cp_machine.proofs.Words.{◌≡◌, refl, machine_of, memory_at, origin_of, frame_at, origin_address}
use Rattle.cp_store.specs.Inside as store
use Rattle.cp_machine.proofs.frames.ReadLemmas.{begins, named_in, own_memory, whole_memory}
use Rattle.cp_machine.proofs.memory.origin_of.Goals as goal

pub origin_address-requires : goal.origin_address-requires
origin_address-requires c =
    let m = machine_of c.args.state.now in
    let can = c.requires.name in
    own_memory (λ x f. store.Begins x.references f c.args.variable) c.args.state.now c.args.pid c.index-process.result.now _ c.requires.pid c.index-process.ensures refl (begins (memory_at m c.args.pid) can.1.0 (frame_at m c.args.pid) c.args.variable can.0 can.1.1 can.1.2)

pub returns-clause-cells : goal.returns-clause-cells
returns-clause-cells c =
    let s = c.args.state.now in
    let is : c.origin_address.result ≡ origin_of (machine_of s) c.args.pid c.args.variable = whole_memory (λ m f. c.origin_address.result ≡ origin_address m.references f c.args.variable) s c.args.pid c.index-process.result.now _ c.requires.pid c.index-process.ensures refl c.origin_address.ensures in
    λ cells can. named_in (machine_of s) c.args.pid c.args.variable cells c.origin_address.result is can
