use Rattle.std.proofs.Common.{◌≡◌, ◌∙◌, ◌<◌, ℕ, ap, length, sym, List}
use Rattle.std.specs.Prelude.{◌&&◌, not, slice_index_or}
use Rattle.cp_machine.specs.declared.process.ProcessState.{ProcessState}
use Rattle.cp_machine.specs.declared.process.Status.TheVariants.{Ended}
use Rattle.cp_machine.specs.Machine.{is_unstarted, machine_of, thread_at}
use Rattle.cp_machine.proofs.ThreadLemmas.{thread_read}
use Rattle.cp_story.proofs.Lists.{last_kept, last_same}
use Rattle.cp_story.proofs.statuses.started_process.Goals as goal
use Rattle.cp_story.proofs.statuses.started_process.Goals.{then-has_started, else-has_started}

pub loop-number-preserved : goal.loop-number-preserved
loop-number-preserved c =
    let m = machine_of c.args.state.now in
    let n = c.loop-number.number in
    let f = λ (q : ℕ). is_unstarted (slice_index_or c.args.before.now q Ended) && not (is_unstarted (thread_at m.threads q).status) in
    let lt : n < length c.args.state.now.processes.items = rw (← c.deref-one-items.ensures.value) c.loop-number-test.true in
    let at : c.one-item.result ≡ slice_index_or c.args.state.now.processes.items n c.one-item.result = c.one-item.is ∙ ap (λ (ps : List ProcessState). slice_index_or ps n c.one-item.result) c.deref-one-items.ensures.value in
    let read = thread_read c.args.state.now.processes.items n c.one-item.result lt at in
    let test : f n ≡ c.has_started.result = ap (λ t. is_unstarted (slice_index_or c.args.before.now n Ended) && not (is_unstarted t.status)) read ∙ sym c.has_started.ensures in
    elim c.if-has_started.branch [
      | then-has_started w ↦ w.found-is ∙ last_kept f n (test ∙ w.if-has_started.true)
      | else-has_started w ↦ w.found-is ∙ c.loop-number.invariant ∙ last_same f n (test ∙ w.if-has_started.false)
    ]
