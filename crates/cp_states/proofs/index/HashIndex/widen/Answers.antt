use Rattle.cp_states.proofs.Chaining.{alike}
use Rattle.cp_states.proofs.index.HashIndex.widen.Goals as goal

pub returns-clause-same : goal.returns-clause-same
returns-clause-same c = alike c.args.self.now.links.items c.chain_all.new.links.items c.chain_all.ensures.long c.chain_all.ensures.same
