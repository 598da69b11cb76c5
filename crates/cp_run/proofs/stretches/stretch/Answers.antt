use Rattle.cp_run.proofs.Words.{◌∙◌, ap, sym, machine_of, node_of, slots}
use Rattle.cp_run.specs.declared.outcome.Turn.TheVariants.{Goes}
use Rattle.cp_run.proofs.Walking.{halts_so}
use Rattle.cp_run.proofs.stretches.stretch.Goals as goal

pub returns : goal.returns
returns g c =
    let moved = c.in-Ok.ensures in
    let sys = slots c.args.job.now.program.now c.args.job.now.limits.discipline in
    record {
      node = halts_so sys c.args.job.now.limits.steps (machine_of c.args.state.now) (Goes c.args.process) (machine_of c.observe_stretch.new.state) _ moved.walked ∙ ap (λ h. node_of h (machine_of c.observe_stretch.new.state)) (sym c.halt_at.ensures);
      own = moved.own;
      steps = moved.steps;
      calls = c.tick.ensures;
    }
