use Rattle.std.proofs.Common.{◌≡◌, ◌∙◌, ◌<◌, ℕ, ap, length, sym, true, false, arith, List}
use Rattle.std.proofs.lemmas.List.{append-nil}
use Rattle.std.specs.Prelude.{◌&&◌, ◌==◌, not, slice_index_or}
use Rattle.arrayvec.specs.ArrayVec.{array_vec_len}
use Rattle.cp_machine.specs.declared.process.ProcessState.{ProcessState}
use Rattle.cp_machine.specs.declared.process.Status.TheVariants.{Ended}
use Rattle.cp_machine.specs.Machine.{is_ready, is_ready_status, machine_of}
use Rattle.cp_machine.proofs.ListLemmas.{kept_more}
use Rattle.cp_machine.proofs.ThreadLemmas.{thread_read}
use Rattle.cp_story.specs.Story.{is_gated}
use Rattle.cp_story.proofs.statuses.processes_let_in.Goals as goal
use Rattle.cp_story.proofs.statuses.processes_let_in.Goals.{then-is_let_in, else-is_let_in}

pub loop-number-preserved : goal.loop-number-preserved
loop-number-preserved c =
    let m = machine_of c.args.state.now in
    let n = c.loop-number.number in
    let f = λ (q : ℕ). is_gated (slice_index_or c.args.before.now q Ended) && not (q == c.args.process) && is_ready m q in
    let lt : n < length c.args.state.now.processes.items = rw (← c.deref-one-items.ensures.value) c.loop-number-test.true in
    let at : c.one-item.result ≡ slice_index_or c.args.state.now.processes.items n c.one-item.result = c.one-item.is ∙ ap (λ (ps : List ProcessState). slice_index_or ps n c.one-item.result) c.deref-one-items.ensures.value in
    let read = thread_read c.args.state.now.processes.items n c.one-item.result lt at in
    let test : f n ≡ c.is_let_in.result = ap (λ t. is_gated (slice_index_or c.args.before.now n Ended) && not (n == c.args.process) && is_ready_status t.status) read ∙ sym c.is_let_in.ensures in
    elim c.if-is_let_in.branch [
      | then-is_let_in w ↦ record {
        items = kept_more f n true _ _ (test ∙ w.if-is_let_in.true) c.loop-number.invariant.items (ap (λ r. r.items) w.gone-is ∙ w.push.ensures.items);
        few = omega (arith, w.push.ensures.len, ap array_vec_len w.gone-is, c.loop-number.invariant.few);
      }
      | else-is_let_in w ↦ record {
        items = kept_more f n false _ _ (test ∙ w.if-is_let_in.false) c.loop-number.invariant.items (ap (λ r. r.items) w.gone-is ∙ sym (append-nil c.loop-number.gone.items));
        few = omega (arith, ap array_vec_len w.gone-is, c.loop-number.invariant.few);
      }
    ]
