use Rattle.cp_key.proofs.Words.{◌≡◌, ◌∙◌, ◌+◌, ◌<◌, ◌++◌, ap, arith, drop, length, sym, slice_index_or, flat_map, ProcessState, no_thread, thread_at}
use Rattle.cp_key.proofs.Words.{set_each, status_key, AreSameInside}
use Rattle.std.proofs.lemmas.List.{get_or_read, length-set}
use Rattle.cp_key.proofs.Lists.{next_of}
use Rattle.cp_key.proofs.reading.thaw_statuses.Goals as goal

pub loop-at-preserved : goal.loop-at-preserved
loop-at-preserved c =
    let at = c.loop-at.at in
    let ps = c.loop-at.processes in
    let old = c.index-processes-at.result in
    let read : ProcessState = slice_index_or ps at old in
    let new : ProcessState = record { status = c.thaw-in-loop-at.result; frame = read.frame; stack = read.stack; room = read.room } in
    let here : c.loop-at.at < length c.loop-at.processes = omega arith in
    let long = length-set ps at new in
    let same : (d : ProcessState) → read ≡ slice_index_or ps at d = λ d. sym c.index-processes-at.is ∙ get_or_read ps at old here c.index-processes-at.is d in
    record {
      read = λ ts more e count. (
          let before = c.loop-at.invariant.read ts more e (omega (arith, count, long)) in
          let lt : c.loop-at.at < length ts = omega (arith, count, long, here) in
          let got = c.thaw-in-loop-at.ensures (thread_at ts at).status (flat_map (λ t. status_key t.status) (drop (at + 1) ts) ++ more) (before.1 ∙ next_of (λ t. status_key t.status) ts at no_thread more lt) in
          (set_each (λ k d p. p.status ≡ (thread_at ts k).status) ps at new here (λ d. got.0) (at + 1) (λ k d l ne. before.0 k d (omega arith)), got.1)
          );
      insides = λ q d. set_each (λ k d p. AreSameInside p (slice_index_or c.args.processes.now k d)) ps at new here (λ d. (let past = c.loop-at.invariant.insides at d in record { frame = ap (λ p. p.frame) (same d) ∙ past.frame; stack = ap (λ p. p.stack) (same d) ∙ past.stack; room = ap (λ p. p.room) (same d) ∙ past.room })) (q + 1) (λ k d l ne. c.loop-at.invariant.insides k d) q d (omega arith);
    }
