use Rattle.cp_key.proofs.Words.{◌∙◌, ◌≤◌, ◌++◌, arith, subst, sym, slice_index_or, vec_capacity, append_assoc, no_thread, status_key, list_key}
use Rattle.cp_store.specs.declared.memory.Room.{Room}
use Rattle.cp_key.proofs.KnownBodies.{bodies_key, room_same, thread_is}
use Rattle.cp_key.proofs.Places.{threads_seen}
use Rattle.cp_key.proofs.reading.thaw_processes.Goals as goal

pub returns-clause-same : goal.returns-clause-same
returns-clause-same c = λ ts more e room.
    (let s = c.thaw_statuses.ensures.same ts (bodies_key ts ++ more) (e ∙ append_assoc (list_key (λ t. status_key t.status) ts) (bodies_key ts) more) room.count in
    let b = c.thaw_bodies.ensures.same ts more s.1 (room_same c.thaw_statuses.new.processes c.args.processes.now ts (omega arith) c.thaw_statuses.ensures.insides room) in
    (threads_seen c.thaw_bodies.new.processes ts (omega (arith, room.count)) (λ k d lt. thread_is (slice_index_or c.thaw_bodies.new.processes k d) (slice_index_or ts k no_thread) (c.thaw_bodies.ensures.statuses k d ∙ s.0 k d (omega (arith, lt))) (b.0 k d (omega (arith, lt)))), b.1, b.2))

pub returns-clause-stacks : goal.returns-clause-stacks
returns-clause-stacks c = λ depth h. c.thaw_bodies.ensures.stacks depth (λ q d lt. subst (λ v. depth ≤ vec_capacity v) (sym (c.thaw_statuses.ensures.insides q d).stack) (h q d (omega (arith, lt))))

pub returns-clause-cells : goal.returns-clause-cells
returns-clause-cells c = λ n h. c.thaw_bodies.ensures.cells n (λ q d lt. subst (λ (v : Room). n ≤ vec_capacity v.cells) (sym (c.thaw_statuses.ensures.insides q d).room) (h q d (omega (arith, lt))))

pub returns-clause-references : goal.returns-clause-references
returns-clause-references c = λ n h. c.thaw_bodies.ensures.references n (λ q d lt. subst (λ (v : Room). n ≤ vec_capacity v.references) (sym (c.thaw_statuses.ensures.insides q d).room) (h q d (omega (arith, lt))))
