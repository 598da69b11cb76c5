use Rattle.cp_machine.proofs.Words.{◌≡◌, ◌∙◌, ◌<◌, ap, length, sym, true, false, arith, List, append-nil, slice_index_or, array_vec_len, ProcessState}
use Rattle.cp_machine.proofs.Words.{is_ready, is_ready_status, machine_of}
use Rattle.cp_machine.proofs.ListLemmas.{kept_more}
use Rattle.cp_machine.proofs.ThreadLemmas.{thread_read}
use Rattle.cp_machine.proofs.state.State.ready.Goals as goal
use Rattle.cp_machine.proofs.state.State.ready.Goals.{then-is_ready, else-is_ready}

pub loop-pid-preserved : goal.loop-pid-preserved
loop-pid-preserved c =
    let m = machine_of c.args.self.now in
    let lt : c.loop-pid.pid < length c.args.self.now.processes.items = rw (← c.deref-process-items.ensures.value) c.loop-pid-test.true in
    let at : c.process-item.result ≡ slice_index_or c.args.self.now.processes.items c.loop-pid.pid c.process-item.result = c.process-item.is ∙ ap (λ (ps : List ProcessState). slice_index_or ps c.loop-pid.pid c.process-item.result) c.deref-process-items.ensures.value in
    let read = thread_read c.args.self.now.processes.items c.loop-pid.pid c.process-item.result lt at in
    let test : is_ready m c.loop-pid.pid ≡ c.is_ready.result = ap (λ t. is_ready_status t.status) read ∙ sym c.is_ready.ensures in
    elim c.if-is_ready.branch [
      | then-is_ready w ↦ record {
        items = kept_more (is_ready m) c.loop-pid.pid true _ _ (test ∙ w.if-is_ready.true) c.loop-pid.invariant.items (ap (λ r. r.items) w.ready-is ∙ w.push.ensures.items);
        few = omega (arith, w.push.ensures.len, ap array_vec_len w.ready-is, c.loop-pid.invariant.few);
      }
      | else-is_ready w ↦ record {
        items = kept_more (is_ready m) c.loop-pid.pid false _ _ (test ∙ w.if-is_ready.false) c.loop-pid.invariant.items (ap (λ r. r.items) w.ready-is ∙ sym (append-nil c.loop-pid.ready.items));
        few = omega (arith, ap array_vec_len w.ready-is, c.loop-pid.invariant.few);
      }
    ]
