use Rattle.std.proofs.Common.{refl}
use Rattle.cp_machine.specs.System.{machine_of}
use Rattle.cp_run.proofs.Moving.{moved_by}
use Rattle.cp_run.proofs.moves.MovesObserve.see_step.Goals as goal

pub returns : goal.returns
returns g c = λ from before step h. moved_by (g.W.Watch.moved c.args.self.now.watch) c.args._job.now.program.now before from (machine_of c.args._state.now) c.args._process _ step refl h.0 h.1
