use Rattle.std.proofs.Common.{◌≡◌, ◌∙◌, sym, false}
use Rattle.cp_machine.specs.System.{machine_of, is_pending, is_ready}
use Rattle.cp_machine.proofs.CallerLemmas.{pending_is, ready_within}
use Rattle.cp_run.specs.Slots.{slots}
use Rattle.cp_run.proofs.Choosing.{may_be_ready}
use Rattle.cp_tests.proofs.steps.step_of_first.Goals as goal

pub step-requires-clause-still : goal.step-requires-clause-still
step-requires-clause-still g c = pending_is (machine_of c.args.state.now) c.pending.result false c.pending.ensures (sym c.if-is_some.ensures)

pub step-requires-clause-ready : goal.step-requires-clause-ready
step-requires-clause-ready g c =
    let e : is_pending (machine_of c.args.state.now) ≡ false = pending_is (machine_of c.args.state.now) c.pending.result false c.pending.ensures (sym c.if-is_some.ensures) in
    may_be_ready (slots c.args.job.now.program.now c.args.job.now.limits.discipline) (machine_of c.args.state.now) 0 e (sym c.may.ensures ∙ c.if-not-may.false)

pub step-requires-clause-pid : goal.step-requires-clause-pid
step-requires-clause-pid g c =
    let e : is_pending (machine_of c.args.state.now) ≡ false = pending_is (machine_of c.args.state.now) c.pending.result false c.pending.ensures (sym c.if-is_some.ensures) in
    ready_within c.args.state.now 0 (may_be_ready (slots c.args.job.now.program.now c.args.job.now.limits.discipline) (machine_of c.args.state.now) 0 e (sym c.may.ensures ∙ c.if-not-may.false))
