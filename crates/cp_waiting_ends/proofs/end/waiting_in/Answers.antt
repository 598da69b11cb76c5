use Rattle.std.proofs.Common.{◌≡◌, ◌∙◌, ◌<◌, ◌∷◌, ◌++◌, [], ap, length, sym, arith, List, if◌then◌else◌, slice_index_or}
use Rattle.std.proofs.lemmas.List.{length-map}
use Rattle.cp_machine.specs.Machine.{is_waiting, thread_of}
use Rattle.cp_machine.specs.System.{machine_of}
use Rattle.cp_machine.specs.declared.process.ProcessState.{ProcessState}
use Rattle.cp_machine.proofs.CallerLemmas.{threads_count}
use Rattle.cp_machine.proofs.ThreadLemmas.{thread_read}
use Rattle.cp_run.specs.Run.{those_below}
use Rattle.cp_endless_laws.specs.Silent.{waits_on_slots}
use Rattle.cp_waiting_ends.proofs.Waits.{those_more}
use Rattle.cp_waiting_ends.proofs.end.waiting_in.Goals as goal

pub loop-pid-preserved : goal.loop-pid-preserved
loop-pid-preserved c =
    let m = machine_of c.args.state.now in
    let pid = c.loop-pid.pid in
    let lt : pid < length c.args.state.now.processes.items = rw (← c.deref-process-items.ensures.value) c.loop-pid-test.true in
    let at : c.process-item.result ≡ slice_index_or c.args.state.now.processes.items pid c.process-item.result = c.process-item.is ∙ ap (λ (ps : List ProcessState). slice_index_or ps pid c.process-item.result) c.deref-process-items.ensures.value in
    let read = thread_read c.args.state.now.processes.items pid c.process-item.result lt at in
    let f = waits_on_slots m in
    record { items = c.in_ok-push_if_waits.ensures ∙ ap (λ l. l ++ (if is_waiting c.process-item.result.status then pid ∷ [] else [])) c.loop-pid.invariant.items ∙ ap (λ b. those_below pid f ++ (if b then pid ∷ [] else [])) (sym (ap (λ t. is_waiting t.status) read)) ∙ sym (those_more pid f) }

pub returns : goal.returns
returns c =
    let r = c.args.job.now.run.program.now in
    let s = c.args.state.now in
    let same : length r.processes ≡ length s.processes.items = sym (threads_count r s c.requires) ∙ length-map s.processes.items thread_of in
    let len = ap length c.deref-process-items.ensures.value in
    let count : c.loop-pid.pid ≡ length r.processes = omega (arith, same, len) in
    c.loop-pid.invariant.items ∙ ap (λ n. those_below n (waits_on_slots (machine_of s))) count
