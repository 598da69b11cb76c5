use Rattle.cp_machine.proofs.Words.{◌≡◌, machine_of, address_of, address_at}
use Rattle.cp_store.specs.Inside as store
use Rattle.cp_machine.proofs.frames.ReadLemmas.{own_memory, reached_in, whole_memory}
use Rattle.cp_machine.proofs.memory.address_of.Goals as goal

pub address-requires : goal.address-requires
address-requires c = (c.requires.reach.0, own_memory (λ m f. store.CanReach m f c.args.place.now c.requires.reach.0) c.args.state.now c.args.pid c.index-process.result.now _ c.requires.pid c.index-process.ensures c.deref.ensures.value c.requires.reach.1)

pub returns-clause-cells : goal.returns-clause-cells
returns-clause-cells c =
    let s = c.args.state.now in
    let is : c.address.result ≡ address_of (machine_of s) c.args.pid c.args.place.now = whole_memory (λ m f. c.address.result ≡ address_at m f c.args.place.now) c.args.state.now c.args.pid c.index-process.result.now _ c.requires.pid c.index-process.ensures c.deref.ensures.value c.address.ensures.value in
    λ cells can. reached_in (machine_of s) c.args.pid c.args.place.now cells c.address.result is can
