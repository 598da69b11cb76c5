use Rattle.cp_machine.proofs.Words.{◌≡◌, ◌∷◌, ap, drop, map, sym, map-set, frame_behind, Thread, machine_of, thread_of, thread_at, with_thread, add_frame, rest_of}
use Rattle.cp_slots.specs.Tables.{routine_view}
use Rattle.cp_machine.proofs.ThreadLemmas.{thread_read}
use Rattle.cp_machine.proofs.Words.{◌+◌, ◌<◌, ◌≤◌, ProcessState, subst, vec_capacity, vec_len}
use Rattle.cp_machine.proofs.frame.open.Goals as goal

pub returns-clause-after : goal.returns-clause-after
returns-clause-after c =
    let r = c.args.program.now in
    let m = machine_of c.args.state.now in
    let p = c.index_mut-process.result.now in
    let e : thread_at (map thread_of c.args.state.now.processes.items) c.args.pid ≡ thread_of p = thread_read _ _ _ c.requires.replaces.within c.index_mut-process.ensures.value in
    let v = routine_view c.routine-callee.result.now in
    let G : Thread → Thread = λ t. add_frame (record t { frame = frame_behind r t c.args.routine c.args.component; stack = rest_of v.body (c.args.end ∷ rest_of c.args.next (drop 1 t.stack)) }) v in
    rw (map-set, c.go_into.ensures.entries, c.open_frame.ensures.cells, c.open_frame.ensures.references, c.deref.ensures.value, c.component-own.ensures.value, c.len.ensures, c.len-2.ensures, p.room.cells.ok.0, p.room.references.ok.0) (rw (← c.routine-callee.ensures) (ap (λ t. with_thread m c.args.pid (G t)) (sym e)))

pub go_into-requires : goal.go_into-requires
go_into-requires c =
    let p = c.index_mut-process.result.now in
    let read = sym c.index_mut-process.ensures.value in
    record { busy = subst (λ (q : ProcessState). 0 < vec_len q.stack) read (c.requires.replaces.busy p); room = subst (λ (q : ProcessState). vec_len q.stack + 2 ≤ vec_capacity q.stack) read (c.requires.room.two p) }
