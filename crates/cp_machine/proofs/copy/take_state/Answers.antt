use Rattle.cp_machine.proofs.Words.{◌≡◌, ◌∙◌, length, sym, refl, machine_of}
use Rattle.cp_machine.proofs.CopyLemmas.{have_room}
use Rattle.cp_machine.proofs.TakeLemmas.{processes_count}
use Rattle.cp_machine.proofs.copy.take_state.Goals as goal

pub take_processes-requires-clause-room : goal.take_processes-requires-clause-room
take_processes-requires-clause-room g c =
    let r = c.requires.own.0 in
    let mine = c.requires.own.1 in
    let theirs = c.requires.own.2 in
    let ours = c.args.to.now.processes.items in
    let others = c.args.from.now.processes.items in
    let long : length ours ≡ length others = processes_count r c.args.to.now mine ∙ sym (processes_count r c.args.from.now theirs) in
    rw (c.deref_mut.ensures.value, c.deref-4.ensures.value) (have_room r ours others (machine_of c.args.from.now) refl long mine.sound theirs.fits mine.reserved.stacks mine.reserved.cells mine.reserved.references)
