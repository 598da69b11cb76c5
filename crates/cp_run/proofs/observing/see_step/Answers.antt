use Rattle.cp_run.proofs.Words.{◌∙◌, ap, sym, machine_of}
use Rattle.cp_machine.proofs.CallerLemmas.{local_ready, ready_thread}
use Rattle.cp_run.specs.Silent.{left_by}
use Rattle.cp_machine.specs.System.{succeeds}
use Rattle.cp_run.proofs.Silently.{follows_by, made_by, ready_left, told_by}
use Rattle.cp_run.proofs.Tracing.{counted}
use Rattle.std.proofs.Common.{subst}
use Rattle.cp_run.proofs.observing.see_step.Goals as goal

pub turn_of-requires-clause-goes_on : goal.turn_of-requires-clause-goes_on
turn_of-requires-clause-goes_on g c =
    let s = machine_of c.args.state.now in
    let p = c.args.process in
    let left_so = c.leave.ensures.state ∙ ap (λ b. left_by b (machine_of c.step-event.new.state)) c.is_silent.ensures in
    λ local. ready_left g.O.Observe.IS_SILENT (machine_of c.step-event.new.state) (machine_of c.leave.new.state) p left_so ∙ local_ready c.args.job.now.program.now s (machine_of c.step-event.new.state) p c.step-event.result (ready_thread s p c.requires.ready) c.requires.ready c.step-event.ensures.after local

pub returns : goal.returns
returns g c =
    let b = g.O.Observe.IS_SILENT in
    let r = c.args.job.now.program.now in
    let discipline = c.args.job.now.limits.discipline in
    let fold = g.O.Observe.fold r discipline in
    let s = machine_of c.args.state.now in
    let p = c.args.process in
    let o = c.see_step.new.self in
    let n = machine_of c.step-event.new.state in
    let t = machine_of c.leave.new.state in
    let event = c.step-event.result in
    let step = c.step-event.ensures.after in
    let left_so = c.leave.ensures.state ∙ ap (λ b. left_by b n) c.is_silent.ensures in
    record {
      state = made_by b r discipline s n t p event step left_so;
      turn = follows_by b r discipline s n t p event step left_so c.turn_of.result c.turn_of.ensures.turn;
      seen = λ x h. subst (λ e. g.O.Observe.holds o r discipline t (fold.on_step s p e t x)) (told_by b r discipline s n t p event step left_so) (subst (λ m. g.O.Observe.holds o r discipline m (fold.on_step s p event m x)) (sym left_so) (c.in_ok-see_step.ensures s x step h));
      own = c.leave.ensures.own;
      ready = c.turn_of.ensures.ready;
      free = c.turn_of.ensures.free;
      steps = counted (succeeds event) g.S.Count.counts _ _ c.step-event.ensures.ticks;
    }
