use Rattle.cp_run.proofs.Words.{◌≡◌, ◌<◌, ◌∙◌, length, sym, ap, arith, if◌then◌else◌, Over, Due, Goes, AllWaiting, Finished, ready_thread, threads_count}
use Rattle.cp_machine.specs.declared.state.Readiness.TheVariants.{Nobody, One, Several}
use Rattle.cp_machine.specs.System.{machine_of, is_ready, readiness_of}
use Rattle.cp_run.specs.Run.{those_below, settled_turn as spec_turn}
use Rattle.cp_run.specs.Slots.{slots, processes_of}
use Rattle.cp_run.proofs.Owning.{own_ready}
use Rattle.cp_run.proofs.Turning.{among_nobody, among_one, among_several, one_may}
use Rattle.cp_run.proofs.Wanting.{goes_on}
use Rattle.cp_run.proofs.turn.settled_turn.Goals as goal

pub returns-then-waits-clause-turn : goal.returns-then-waits-clause-turn
returns-then-waits-clause-turn c =
    let m = machine_of c.args.state.now in
    let sys = slots c.args.job.now.program.now c.args.job.now.limits.discipline in
    let alone : readiness_of (those_below (processes_of c.args.job.now.program.now) (is_ready m)) ≡ Nobody = ap readiness_of (sym (own_ready c.args.job.now.program.now c.args.state.now c.requires.own)) ∙ sym c.readiness.ensures ∙ c.in-Nobody.is in
    sym (among_nobody sys m c.args.kernel c.args.process (those_below (processes_of c.args.job.now.program.now) (is_ready m)) alone ∙ ap (λ b. if b then Over AllWaiting else Over Finished) (sym c.waits.ensures ∙ c.if-waits.true))

pub returns-else-waits-clause-turn : goal.returns-else-waits-clause-turn
returns-else-waits-clause-turn c =
    let m = machine_of c.args.state.now in
    let sys = slots c.args.job.now.program.now c.args.job.now.limits.discipline in
    let alone : readiness_of (those_below (processes_of c.args.job.now.program.now) (is_ready m)) ≡ Nobody = ap readiness_of (sym (own_ready c.args.job.now.program.now c.args.state.now c.requires.own)) ∙ sym c.readiness.ensures ∙ c.in-Nobody.is in
    sym (among_nobody sys m c.args.kernel c.args.process (those_below (processes_of c.args.job.now.program.now) (is_ready m)) alone ∙ ap (λ b. if b then Over AllWaiting else Over Finished) (sym c.waits.ensures ∙ c.if-waits.false))

pub returns-in-One : goal.returns-in-One
returns-in-One c =
    let m = machine_of c.args.state.now in
    let sys = slots c.args.job.now.program.now c.args.job.now.limits.discipline in
    let alone : readiness_of (those_below (processes_of c.args.job.now.program.now) (is_ready m)) ≡ One c.in-One.one = ap readiness_of (sym (own_ready c.args.job.now.program.now c.args.state.now c.requires.own)) ∙ sym c.readiness.ensures ∙ c.in-One.is in
    record {
      turn = sym (among_one sys m c.args.kernel c.args.process (those_below (processes_of c.args.job.now.program.now) (is_ready m)) c.in-One.one alone);
      ready = one_may (processes_of c.args.job.now.program.now) (is_ready m) c.in-One.one alone;
    }

pub returns-in-Several-clause-turn : goal.returns-in-Several-clause-turn
returns-in-Several-clause-turn c =
    let m = machine_of c.args.state.now in
    let sys = slots c.args.job.now.program.now c.args.job.now.limits.discipline in
    let alone : readiness_of (those_below (processes_of c.args.job.now.program.now) (is_ready m)) ≡ Several = ap readiness_of (sym (own_ready c.args.job.now.program.now c.args.state.now c.requires.own)) ∙ sym c.readiness.ensures ∙ c.in-Several.is in
    sym (among_several sys m c.args.kernel c.args.process (those_below (processes_of c.args.job.now.program.now) (is_ready m)) alone ∙ ap (λ b. if b then Due else Goes c.args.process) c.if-not-kernel.false)

pub returns-then-not-kernel-clause-turn : goal.returns-then-not-kernel-clause-turn
returns-then-not-kernel-clause-turn c =
    let r = c.args.job.now.program.now in
    let m = machine_of c.args.state.now in
    let p = c.args.process in
    let on = c.requires.goes_on c.if-not-kernel.true in
    let within : p < length r.processes = omega (arith, ready_thread m p on, threads_count r c.args.state.now c.requires.own) in
    sym (ap (λ b. spec_turn (slots r c.args.job.now.limits.discipline) m b p) c.if-not-kernel.true ∙ goes_on (slots r c.args.job.now.limits.discipline) m p within on)
