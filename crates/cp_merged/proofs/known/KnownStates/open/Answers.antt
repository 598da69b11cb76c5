use Rattle.std.proofs.Common.{◌∙◌, sym}
use Rattle.cp_machine.specs.Machine.{machine_of}
use Rattle.cp_merged.proofs.Loud.{opened_ruled}
use Rattle.cp_merged.proofs.known.KnownStates.open.Goals as goal

pub find_row-requires-clause-same : goal.find_row-requires-clause-same
find_row-requires-clause-same c =
    let l = c.args.job.now.limits in
    opened_ruled c.args.job.now.program.now l.discipline l.steps c.open-halt.result (machine_of c.open-halt.new.state) c.open-halt.ensures.node ∙ sym c.requires.ruled
