use Rattle.cp_waits.proofs.Sets.{or_has}
use Rattle.cp_waits.proofs.set.Set.or.Goals as goal

pub returns : goal.returns
returns c = λ q. or_has c.args.self.bits c.args.other.bits q
