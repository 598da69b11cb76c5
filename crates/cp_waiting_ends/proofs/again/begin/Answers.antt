use Rattle.std.proofs.Common.{[], refl}
use Rattle.cp_machine.specs.System.{machine_of}
use Rattle.cp_run.specs.Code.{node_of}
use Rattle.cp_waiting_ends.proofs.Meeting.{met_first}
use Rattle.cp_waiting_ends.proofs.again.begin.Goals as goal

pub returns-clause-met : goal.returns-clause-met
returns-clause-met c = λ f holds.
    (let run = c.args.job.now.run in
    met_first run.program.now run.limits.discipline run.limits.steps c.args.searched.now.looked f.states c.args.ends.now c.arrive.new.ends (node_of c.open-halt.result (machine_of c.open-halt.new.state)) c.requires.no_ends c.requires.no_words c.open-halt.ensures.node (c.in_ok-arrive.ensures.marks f [] holds refl) (c.in_ok-arrive.ensures.words f [] holds refl))
