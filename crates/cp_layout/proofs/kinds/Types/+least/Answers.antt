use Rattle.std.proofs.Common.{rules}
use Rattle.cp_layout.proofs.Least.{nothing_there}
use Rattle.cp_layout.proofs.kinds.Types.+least.Goals as goal

pub add_compound-returns-in-None : goal.add_compound-returns-in-None
add_compound-returns-in-None t c = nothing_there _ _ _ (search rules)
