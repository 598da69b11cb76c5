use Rattle.cp_machine.proofs.Words.{◌≡◌, ◌∙◌, ◌<◌, ap, length, sym, true, false, arith, List, append-nil, slice_index_or, array_vec_len, ProcessState}
use Rattle.cp_machine.proofs.Words.{is_at_gate, machine_of, thread_at}
use Rattle.cp_machine.proofs.ListLemmas.{kept_more}
use Rattle.cp_machine.proofs.ThreadLemmas.{thread_read}
use Rattle.cp_machine.proofs.state.State.waiting.Goals as goal
use Rattle.cp_machine.proofs.state.State.waiting.Goals.{then-is_at_gate, else-is_at_gate}

pub loop-pid-preserved : goal.loop-pid-preserved
loop-pid-preserved c =
    let m = machine_of c.args.self.now in
    let lt : c.loop-pid.pid < length c.args.self.now.processes.items = rw (← c.deref-process-items.ensures.value) c.loop-pid-test.true in
    let at : c.process-item.result ≡ slice_index_or c.args.self.now.processes.items c.loop-pid.pid c.process-item.result = c.process-item.is ∙ ap (λ (ps : List ProcessState). slice_index_or ps c.loop-pid.pid c.process-item.result) c.deref-process-items.ensures.value in
    let read = thread_read c.args.self.now.processes.items c.loop-pid.pid c.process-item.result lt at in
    let test : is_at_gate c.args.monitor (thread_at m.threads c.loop-pid.pid).status ≡ c.is_at_gate.result = ap (λ t. is_at_gate c.args.monitor t.status) read ∙ sym c.is_at_gate.ensures in
    elim c.if-is_at_gate.branch [
      | then-is_at_gate w ↦ record {
        items = kept_more (λ pid. is_at_gate c.args.monitor (thread_at m.threads pid).status) c.loop-pid.pid true _ _ (test ∙ w.if-is_at_gate.true) c.loop-pid.invariant.items (ap (λ r. r.items) w.waiting-is ∙ w.push.ensures.items);
        few = omega (arith, w.push.ensures.len, ap array_vec_len w.waiting-is, c.loop-pid.invariant.few);
      }
      | else-is_at_gate w ↦ record {
        items = kept_more (λ pid. is_at_gate c.args.monitor (thread_at m.threads pid).status) c.loop-pid.pid false _ _ (test ∙ w.if-is_at_gate.false) c.loop-pid.invariant.items (ap (λ r. r.items) w.waiting-is ∙ sym (append-nil c.loop-pid.waiting.items));
        few = omega (arith, ap array_vec_len w.waiting-is, c.loop-pid.invariant.few);
      }
    ]
