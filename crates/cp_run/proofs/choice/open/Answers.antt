use Rattle.cp_run.proofs.Words.{true, ◌∙◌, ap, sym, machine_of, node_of}
use Rattle.cp_run.proofs.choice.open.Goals as goal

pub returns : goal.returns
returns g c =
    let moved = c.in-Ok.ensures in
    record {
      node = moved.node ∙ ap (λ h. node_of h (machine_of c.observe_opening.new.state)) (sym c.halt_at.ensures);
      own = moved.own;
      steps = moved.steps;
      calls = c.tick.ensures;
    }
