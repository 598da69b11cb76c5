use Rattle.cp_run.proofs.Words.{◌∙◌, ◌<◌, ap, sym, arith, length, machine_of, turn_after, ready_thread, threads_count, Local}
use Rattle.cp_run.specs.Silent.{left_by, slots_by}
use Rattle.cp_run.proofs.Silently.{made_by, pending_left, ready_left, told_by}
use Rattle.cp_run.proofs.Stretching.{after_local}
use Rattle.cp_run.proofs.Tracing.{counted}
use Rattle.std.proofs.Common.{refl, subst}
use Rattle.cp_run.proofs.observing.expect_step.Goals as goal

pub returns-then-local_step : goal.returns-then-local_step
returns-then-local_step g c =
    let b = g.O.Observe.IS_SILENT in
    let r = c.args.job.now.program.now in
    let discipline = c.args.job.now.limits.discipline in
    let sys = slots_by b r discipline in
    let s = machine_of c.args.state.now in
    let p = c.args.process in
    let n = machine_of c.local_step.new.state in
    let t = machine_of c.leave.new.state in
    let o = c.expect_step.new.self in
    let fold = g.O.Observe.fold r discipline in
    let step = c.local_step.ensures.taken c.if-local_step.true in
    let left_so = c.leave.ensures.state ∙ ap (λ b. left_by b n) c.is_silent.ensures in
    let ready = ready_left b n t p left_so ∙ c.local_step.ensures.ready in
    let still = pending_left b n t left_so ∙ c.local_step.ensures.still in
    let within : p < length r.processes = omega (arith, ready_thread s p c.requires.ready, threads_count r c.args.state.now c.requires.own) in
    let made = made_by b r discipline s n t p Local step left_so in
    let event = told_by b r discipline s n t p Local step left_so in
    record {
      state = λ _. made;
      turn = λ _. after_local sys t p Local refl within ready still ∙ ap (turn_after sys t p) event;
      seen = λ _ x h.
          (let unseen = sym c.sees_local.ensures ∙ c.if-not-sees_local.true in
          let passed = g.met.O.Observe.passes unseen o r discipline s n p x step (c.in_ok-expect_step.ensures x h) in
          subst (λ e. g.O.Observe.holds o r discipline t (fold.on_step s p e t x)) event (subst (λ m. g.O.Observe.holds o r discipline m (fold.on_step s p Local m x)) (sym left_so) passed));
      same = λ no. absurd (cc);
      expects = λ no. absurd (cc);
      own = c.leave.ensures.own;
      ready = ready;
      free = still;
      steps = counted c.local_step.result g.S.Count.counts _ _ c.local_step.ensures.ticks;
      none = λ no. absurd (cc);
    }
