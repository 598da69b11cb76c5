use Rattle.cp_waits.proofs.Sets.{and_has}
use Rattle.cp_waits.proofs.set.Set.and.Goals as goal

pub returns : goal.returns
returns c = λ q. and_has c.args.self.bits c.args.other.bits q
