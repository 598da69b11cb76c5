use Rattle.std.proofs.Common.{◌≡◌, ◌∙◌, ◌<◌, ap, arith, length, refl, subst, sym}
use Rattle.std.specs.Prelude.{slice_index_or}
use Rattle.std.proofs.lemmas.List.{get_or-set_other}
use Rattle.cp_machine.specs.Machine.{thread_at}
use Rattle.cp_parts.specs.Taking.{AreTaken, HasRoomFor}
use Rattle.cp_parts.proofs.Threads.{still_old, taken_next, taken_none}
use Rattle.cp_parts.proofs.Making.{thread_there}
use Rattle.cp_parts.proofs.store.PartStore.take_processes.Goals as goal

pub loop-at-init : goal.loop-at-init
loop-at-init c = record { still = λ k d le. refl; taken = λ r m n can was. taken_none (λ q. thread_at m.threads q) c.args.processes.now }

pub take_process-requires-clause-at : goal.take_process-requires-clause-at
take_process-requires-clause-at c = omega (arith, c.requires.count)

pub take_process-requires-clause-can : goal.take_process-requires-clause-can
take_process-requires-clause-can c =
    let at = c.loop-at.at in
    let d = c.index-processes-at.result in
    let m = c.requires.can.1 in (
      c.requires.can.0,
      m,
      c.requires.can.2,
      c.requires.can.3,
      subst (λ p. HasRoomFor p (thread_at m.threads at)) (sym (c.loop-at.invariant.still at d (omega arith))) (c.requires.can.4 at d (omega arith)),
    )

pub loop-at-preserved : goal.loop-at-preserved
loop-at-preserved c =
    let ps = c.loop-at.processes in
    let at = c.loop-at.at in
    record {
      still = λ k d le. get_or-set_other ps at k _ d (λ e. omega (arith, e, le)) ∙ c.loop-at.invariant.still k d (omega (arith, le));
      taken = λ r m n can was. (let inv = c.loop-at.invariant.taken r m n can was in
          let here : at < length ps = omega (arith, inv.count) in
          let old = slice_index_or ps at c.index-processes-at.result in
          let read : old ≡ slice_index_or ps at old = ap (λ d. slice_index_or ps at d) c.index-processes-at.is in
          let first : old ≡ slice_index_or c.args.processes.now at old = still_old (λ q. thread_at m.threads q) c.args.processes.now ps at old here read inv in
          let before : at < length c.args.processes.now = omega (arith, here, inv.count) in
          taken_next (λ q. thread_at m.threads q) c.args.processes.now ps at c.take_process.new.process old here read
          (c.take_process.ensures.same r m n can (sym (thread_there c.args.processes.now at old before first) ∙ ap (λ ts. thread_at ts at) was)) c.take_process.ensures.room inv);
    }

pub returns : goal.returns
returns c = λ r m n can was.
    (let all : c.loop-at.at ≡ length c.args.processes.now = omega arith in
    subst (AreTaken (λ q. thread_at m.threads q) c.args.processes.now c.loop-at.processes) all (c.loop-at.invariant.taken r m n can was))
