use Rattle.cp_machine.proofs.Words.{◌≡◌, ◌+◌, ◌<◌, ◌≤◌, ◌∙◌, List, ap, false, length, subst, sym, arith, slice_index_or, vec_capacity, ProcessState, thread_of}
use Rattle.cp_machine.proofs.CopyLemmas.{AreCopied, body_kept, copied_next, status_taken, threads_same}
use Rattle.cp_machine.proofs.copy.take_processes.Goals as goal
use Rattle.cp_machine.proofs.copy.take_processes.Goals.{then-has, else-has}

pub loop-at-preserved : goal.loop-at-preserved
loop-at-preserved g c =
    let mine : c.loop-at.at < length c.loop-at.mine = omega arith in
    let theirs : c.loop-at.at < length c.args.theirs.now = omega arith in
    let before : c.loop-at.at < length c.args.mine.now = omega (arith, c.requires.room.count, theirs) in
    let Next : List ProcessState → Type 0 = λ ps. AreCopied c.args.mine.now ps c.args.theirs.now (c.loop-at.at + 1) in
    let next = copied_next c.args.mine.now c.loop-at.mine c.args.theirs.now c.loop-at.at in
    elim c.if-has.branch [
      | then-has w ↦ (
          let old = w.index-mine-at.result in
          let new = w.take_process.new.to in
          let stack : vec_capacity old.stack ≤ vec_capacity new.stack = (let e = ap (λ (p : ProcessState). vec_capacity p.stack) w.index-mine-at.is in omega (arith, e, w.take_process.ensures.stack)) in
          let cells : vec_capacity old.room.cells ≤ vec_capacity new.room.cells = (let e = ap (λ (p : ProcessState). vec_capacity p.room.cells) w.index-mine-at.is in omega (arith, e, w.take_process.ensures.cells)) in
          let references : vec_capacity old.room.references ≤ vec_capacity new.room.references = (let e = ap (λ (p : ProcessState). vec_capacity p.room.references) w.index-mine-at.is in omega (arith, e, w.take_process.ensures.references)) in
          subst Next (sym w.mine-is) (next new old w.index-theirs-at.result mine theirs w.index-mine-at.is w.index-theirs-at.is w.take_process.ensures.same stack cells references c.loop-at.invariant)
          )
      | else-has w ↦ (
          let at = c.loop-at.at in
          let Reads : List ProcessState → ProcessState → Type 0 = λ ps p. p ≡ slice_index_or ps at p in
          let old = slice_index_or c.loop-at.mine at w.index-mine-at-else-has.result in
          let other = slice_index_or c.args.theirs.now at w.index-theirs-at-else-has.result in
          let read_mine : Reads c.loop-at.mine old = ap (λ d. slice_index_or c.loop-at.mine at d) w.index-mine-at-else-has.is in
          let read : Reads c.args.theirs.now other = ap (λ d. slice_index_or c.args.theirs.now at d) w.index-theirs-at-else-has.is in
          let unmoved : g.W.Watch.moved c.args.watch.now at ≡ false = sym c.has.ensures ∙ w.if-has.false in
          let body = body_kept c.args.mine.now c.loop-at.mine c.args.theirs.now at old other before theirs (c.loop-at.invariant.rest at old (omega arith)) read_mine read (c.requires.kept at unmoved) in
          let new : ProcessState = record old { status = other.status } in
          subst Next (sym w.mine-is) (next new old other mine theirs read_mine read (status_taken (thread_of old) (thread_of other) body) (omega arith) (omega arith) (omega arith) c.loop-at.invariant)
          )
    ]

pub returns-clause-same : goal.returns-clause-same
returns-clause-same g c = threads_same c.loop-at.mine c.args.theirs.now (omega arith) (λ k d lt. c.loop-at.invariant.copied k d (omega arith))
