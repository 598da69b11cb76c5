use Rattle.cp_machine.specs.System.{machine_of}
use Rattle.cp_machine.proofs.Unmoved.{keep_more}
use Rattle.cp_run.proofs.moves.MovesObserve.expect_step.Goals as goal

pub returns : goal.returns
returns g c = λ before h. (keep_more (g.W.Watch.moved c.args.self.now.watch) (g.W.Watch.moved c.add.new.self) before (machine_of c.args._state.now) c.args.process h c.add.ensures.others c.add.ensures.this, c.add.ensures.this)
