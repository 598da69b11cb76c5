use Rattle.std.proofs.Common.{refl}
use Rattle.cp_machine.specs.System.{machine_of}
use Rattle.cp_ends.proofs.told.ToldObserve.expect_step.Goals as goal

pub returns : goal.returns
returns g c = λ x h.
    (let r = c.args._job.now.program.now in
    let discipline = c.args._job.now.limits.discipline in
    let m = machine_of c.args.state.now in
    let look = c.look.ensures r m (c.requires.own, refl) in
    (h.0, h.1, h.2, c.then.ensures r discipline x.1.0 x.1.1 _ h.3 (c.moved.ensures r discipline m look)))
