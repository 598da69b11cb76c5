use Rattle.std.proofs.Common.{refl}
use Rattle.cp_at_once.proofs.Keeping.{states_more}
use Rattle.cp_at_once.proofs.kept.Kept.add.Goals as goal

pub returns-clause-kept : goal.returns-clause-kept
returns-clause-kept c = λ r states m word h new stated is. states_more r c.args.self.now states h c.args.row c.args.origin m word new stated is _ refl c.in_ok-insert.ensures.entries
