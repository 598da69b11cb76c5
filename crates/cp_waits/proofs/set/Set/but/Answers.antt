use Rattle.cp_waits.proofs.Sets.{but_has}
use Rattle.cp_waits.proofs.set.Set.but.Goals as goal

pub returns : goal.returns
returns c = λ q. but_has c.args.self.bits c.args.other.bits q
