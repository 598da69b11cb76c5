use Rattle.cp_waits.specs.declared.passing.Keeping.TheVariants as keeping
use Rattle.cp_waits.proofs.Shown.{found_line, throughout}
use Rattle.cp_waits.proofs.waiting.round_of.Goals as goal

pub returns : goal.returns
returns c = found_line c.args.graph.now c.args.states.now c.args.process _ (throughout c.args.graph.now c.args.states.now c.args.process) c.lasso.result c.lasso.ensures
