use Rattle.cp_machine.specs.System.{machine_of}
use Rattle.cp_run.proofs.Moving.{let_in}
use Rattle.cp_run.proofs.moves.MovesObserve.see_admission.Goals as goal

pub returns : goal.returns
returns g c = λ from before at h. let_in (g.W.Watch.moved c.args.self.now.watch) before from (machine_of c.args._state.now) c.args._process at h
