use Rattle.cp_machine.proofs.Words.{◌≡◌, ◌∙◌, ◌+◌, ◌<◌, ◌≤◌, ap, arith, length, sym, List, slice_index_or, filter, range_with_len, length-map}
use Rattle.cp_machine.proofs.Words.{ProcessState, is_ready, is_ready_status, machine_of, readiness_of, thread_of}
use Rattle.cp_machine.proofs.ListLemmas.{readiness_kept, readiness_same, several_done}
use Rattle.cp_machine.proofs.ThreadLemmas.{thread_read}
use Rattle.cp_machine.proofs.state.State.readiness.Goals as goal
use Rattle.cp_machine.proofs.state.State.readiness.Goals.{then-is_ready, else-is_ready}

pub loop-pid-preserved : goal.loop-pid-preserved
loop-pid-preserved c =
    let m = machine_of c.args.self.now in
    let lt : c.loop-pid.pid < length c.args.self.now.processes.items = rw (← c.deref-process-items.ensures.value) c.loop-pid-test.true in
    let at : c.process-item.result ≡ slice_index_or c.args.self.now.processes.items c.loop-pid.pid c.process-item.result = c.process-item.is ∙ ap (λ (ps : List ProcessState). slice_index_or ps c.loop-pid.pid c.process-item.result) c.deref-process-items.ensures.value in
    let read = thread_read c.args.self.now.processes.items c.loop-pid.pid c.process-item.result lt at in
    let test : is_ready m c.loop-pid.pid ≡ c.is_ready.result = ap (λ t. is_ready_status t.status) read ∙ sym c.is_ready.ensures in
    elim c.if-is_ready.branch [
      | then-is_ready w ↦ w.readiness-is ∙ w.more-readiness.ensures ∙ readiness_kept (is_ready m) c.loop-pid.pid c.loop-pid.readiness (test ∙ w.if-is_ready.true) c.loop-pid.invariant
      | else-is_ready w ↦ w.readiness-is ∙ c.loop-pid.invariant ∙ readiness_same (is_ready m) c.loop-pid.pid (test ∙ w.if-is_ready.false)
    ]

pub returns-in-Several : goal.returns-in-Several
returns-in-Several c =
    let m = machine_of c.args.self.now in
    let lt : c.loop-pid.pid < length c.args.self.now.processes.items = rw (← c.deref-process-items.ensures.value) c.loop-pid-test.true in
    let at : c.process-item.result ≡ slice_index_or c.args.self.now.processes.items c.loop-pid.pid c.process-item.result = c.process-item.is ∙ ap (λ (ps : List ProcessState). slice_index_or ps c.loop-pid.pid c.process-item.result) c.deref-process-items.ensures.value in
    let read = thread_read c.args.self.now.processes.items c.loop-pid.pid c.process-item.result lt at in
    let test : is_ready m c.loop-pid.pid ≡ c.is_ready.result = ap (λ t. is_ready_status t.status) read ∙ sym c.is_ready.ensures in
    let now : c.if-is_ready.readiness ≡ readiness_of (filter (is_ready m) (range_with_len 0 (c.loop-pid.pid + 1))) = elim c.if-is_ready.branch [
      | then-is_ready w ↦ w.readiness-is ∙ w.more-readiness.ensures ∙ readiness_kept (is_ready m) c.loop-pid.pid c.loop-pid.readiness (test ∙ w.if-is_ready.true) c.loop-pid.invariant
      | else-is_ready w ↦ w.readiness-is ∙ c.loop-pid.invariant ∙ readiness_same (is_ready m) c.loop-pid.pid (test ∙ w.if-is_ready.false)
    ] in
    let le : c.loop-pid.pid + 1 ≤ length m.threads = omega (arith, lt, length-map c.args.self.now.processes.items thread_of) in
    several_done (is_ready m) (c.loop-pid.pid + 1) (length m.threads) c.if-is_ready.readiness le now c.in-Several.is
