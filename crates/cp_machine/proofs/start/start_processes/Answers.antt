use Rattle.cp_machine.proofs.Words.{◌≡◌, ◌<◌, ◌∷◌, ◌++◌, [], length, arith, vec_capacity, no_process, unstarted_thread}
use Rattle.cp_machine.proofs.StartLemmas.{room_more, threads_more}
use Rattle.cp_machine.proofs.start.start_processes.Goals as goal

pub loop-number-preserved : goal.loop-number-preserved
loop-number-preserved c =
    let r = c.args.program.now in
    let ps = c.loop-number.processes.items in
    let p = c.in_ok-start_process.field-0 in
    let pushed : c.push.new.self.items ≡ ps ++ p ∷ [] = c.in_ok-push.ensures.items in
    let lt : c.loop-number.number < length r.processes = omega (arith, c.processes-count.ensures.value, c.loop-number-test.true) in
    record {
      threads = threads_more (unstarted_thread r) ps c.push.new.self.items p r.processes c.loop-number.number no_process pushed lt c.in_ok-start_process.ensures.thread c.loop-number.invariant.threads;
      stacks = room_more (λ x. vec_capacity x.stack) r.depth ps c.push.new.self.items p pushed c.in_ok-start_process.ensures.stack c.loop-number.invariant.stacks;
      cells = room_more (λ x. vec_capacity x.room.cells) r.cells ps c.push.new.self.items p pushed c.in_ok-start_process.ensures.cells c.loop-number.invariant.cells;
      references = room_more (λ x. vec_capacity x.room.references) r.references ps c.push.new.self.items p pushed c.in_ok-start_process.ensures.references c.loop-number.invariant.references;
    }
