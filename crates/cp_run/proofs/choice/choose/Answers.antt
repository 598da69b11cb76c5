use Rattle.std.proofs.Common.{subst}
use Rattle.cp_run.proofs.Words.{true, ◌∙◌, ap, sym, machine_of, node_of, slots}
use Rattle.cp_machine.specs.Bodies.{KeepBodies}
use Rattle.cp_run.proofs.Moving.{blind_chosen}
use Rattle.cp_run.proofs.choice.choose.Goals as goal

pub returns : goal.returns
returns g c =
    let moved = c.in-Ok.ensures in
    record {
      node = moved.node ∙ ap (λ h. node_of h (machine_of c.observe_choice.new.state)) (sym c.halt_at.ensures);
      own = moved.own;
      steps = moved.steps;
      calls = c.tick.ensures;
      kept = λ before h. subst (λ b. KeepBodies (g.W.Watch.moved c.observe_choice.new.observer.watch) b (machine_of c.observe_choice.new.state)) (blind_chosen (slots c.args.job.now.program.now c.args.job.now.limits.discipline) c.args.job.now.limits.steps (machine_of c.args.state.now) c.args.process before) (moved.seen before h);
    }
