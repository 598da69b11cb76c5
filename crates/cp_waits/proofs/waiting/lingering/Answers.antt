use Rattle.cp_waits.proofs.Shown.{found_line, in_its_call}
use Rattle.cp_waits.proofs.waiting.lingering.Goals as goal

pub returns : goal.returns
returns c = found_line c.args.graph.now c.args.states.now c.args.process _ (in_its_call c.args.graph.now c.args.states.now c.args.process c.requires) c.lasso.result c.lasso.ensures
