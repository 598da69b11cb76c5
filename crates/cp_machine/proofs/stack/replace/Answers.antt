use Rattle.cp_machine.proofs.Words.{refl, ◌≡◌, map, map-set, thread_of, thread_at}
use Rattle.cp_machine.proofs.ThreadLemmas.{thread_read}
use Rattle.cp_machine.proofs.stack.replace.Goals as goal

pub returns-clause-after : goal.returns-clause-after
returns-clause-after c =
    let e : thread_at (map thread_of c.args.state.now.processes.items) c.args.pid ≡ thread_of c.index_mut-process.result.now = thread_read _ _ _ c.requires.within c.index_mut-process.ensures.value in
    rw (map-set, e, c.put.ensures.entries, c.go_on.ensures.entries) refl
