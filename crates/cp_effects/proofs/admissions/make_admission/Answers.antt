use Rattle.std.proofs.Common.{◌<◌, arith, subst}
use Rattle.std.specs.Prelude.{IfSome}
use Rattle.std.proofs.lemmas.Result.{IfOk-weaker}
use Rattle.cp_machine.specs.Machine.{machine_of}
use Rattle.cp_effects.proofs.Admitting.{admission_made}
use Rattle.cp_effects.proofs.admissions.make_admission.Goals as goal

pub number_part-requires-clause-placed : goal.number_part-requires-clause-placed
number_part-requires-clause-placed c = (c.args.program.now, c.requires.placed, (c.admit.ensures.own c.args.program.now c.requires.own).fits)

pub number_part-requires-clause-place : goal.number_part-requires-clause-place
number_part-requires-clause-place c =
    let r = c.args.program.now in
    let within : c.args.monitor < r.monitors = subst (λ w. IfSome w (λ k. k < r.monitors)) c.requires.pending c.requires.own.fits.pending in
    omega (arith, within, c.requires.placed.monitors, c.of_monitor.ensures)

pub returns-clause-own : goal.returns-clause-own
returns-clause-own c = c.admit.ensures.own c.args.program.now c.requires.own

pub returns-clause-admission : goal.returns-clause-admission
returns-clause-admission c =
    let a = c.args in
    IfOk-weaker c.number_part.result _ _ (λ part is row stands.
    admission_made a.store.now c.number_part.new.self a.table.now a.program.now (machine_of a.state.now) (machine_of c.admit.new.self) a.pid a.monitor c.of_monitor.result part row
    c.requires.placed c.requires.own.fits c.requires.pending c.requires.line c.number_part.ensures.kept stands c.admit.ensures.after c.of_monitor.ensures is) c.number_part.ensures.number
