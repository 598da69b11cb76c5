use Rattle.std.proofs.Common.{All}
use Rattle.cp_machine.specs.System.{IsStateOf}
use Rattle.cp_page.proofs.Searched.{anywhere}
use Rattle.cp_page.proofs.data.lay_out.Goals as goal

pub lay-requires-clause-states : goal.lay-requires-clause-states
lay-requires-clause-states g c = anywhere (All (IsStateOf c.args.job.now.run.program.now) c.visit_all.new.visit.states.items) c.in_ok-visit_all.field-0 c.in_ok-visit_all.ensures.searched
