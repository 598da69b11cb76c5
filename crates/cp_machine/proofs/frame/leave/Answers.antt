use Rattle.cp_machine.proofs.Words.{◌≡◌, ◌∙◌, ap, drop, map, subst, sym, map-set, routine_at, Frame, Machine, Thread, machine_of, thread_of, thread_at, with_thread}
use Rattle.cp_machine.specs.Calls.{give_up_frame, give_up_from}
use Rattle.cp_machine.specs.Results.{HasResult}
use Rattle.cp_machine.proofs.ThreadLemmas.{thread_read}
use Rattle.cp_machine.proofs.frame.leave.Goals as goal

pub returns-clause-after : goal.returns-clause-after
returns-clause-after c =
    let r = c.args.program.now in
    let m = machine_of c.args.state.now in
    let p = c.index_mut-process.result.now in
    let e : thread_at (map thread_of c.args.state.now.processes.items) c.args.pid ≡ thread_of p = thread_read _ _ _ c.requires.within c.index_mut-process.ensures.value in
    let from : c.routine-callee.result.now.result ≡ (routine_at r (thread_of p).frame.routine).result = ap (λ v. v.result) c.routine-callee.ensures ∙ ap (λ (f : Frame). (routine_at r f.routine).result) (c.frame_of.ensures ∙ ap (λ t. t.frame) e) in
    let G : Thread → Machine = λ t. with_thread m c.args.pid (give_up_frame r t c.args.caller c.args.slot (drop 1 t.stack)) in
    rw map-set (ap (with_thread m c.args.pid) (c.give_up.ensures.after ∙ ap (λ n. give_up_from (thread_of p) c.args.caller n c.args.slot (drop 1 (thread_of p).stack)) from) ∙ ap G (sym e))

pub give_up-requires : goal.give_up-requires
give_up-requires c =
    let r = c.args.program.now in
    let p = c.index_mut-process.result.now in
    let e : thread_at (map thread_of c.args.state.now.processes.items) c.args.pid ≡ thread_of p = thread_read _ _ _ c.requires.within c.index_mut-process.ensures.value in
    let from : c.routine-callee.result.now.result ≡ (routine_at r (thread_of p).frame.routine).result = ap (λ v. v.result) c.routine-callee.ensures ∙ ap (λ (f : Frame). (routine_at r f.routine).result) (c.frame_of.ensures ∙ ap (λ t. t.frame) e) in
    record { result = subst (λ n. HasResult (thread_of p) c.args.caller n c.args.slot) (sym from) (subst (λ t. HasResult t c.args.caller (routine_at r t.frame.routine).result c.args.slot) e c.requires.result) }
