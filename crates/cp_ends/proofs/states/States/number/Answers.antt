use Rattle.cp_ends.proofs.Numbering.{numbered}
use Rattle.cp_ends.proofs.states.States.number.Goals as goal

pub returns : goal.returns
returns c = λ r states m held is. numbered r c.args.self.now states held m c.args.row.now is c.get_index_of.result c.get_index_of.ensures.index c.get_index_of.ensures.found
