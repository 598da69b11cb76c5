use Rattle.cp_waits.proofs.Sets.{nobody_has}
use Rattle.cp_waits.proofs.set.Set.nobody.Goals as goal

pub returns : goal.returns
returns c = nobody_has
