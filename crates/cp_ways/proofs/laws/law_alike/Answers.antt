use Rattle.std.proofs.Common.{◌≡◌}
use Rattle.cp_ways.proofs.Told.{ways_alike}
use Rattle.cp_ways.proofs.laws.law_alike.Goals as goal

pub returns : goal.returns
returns c = λ r discipline steps left m n e o. ways_alike r discipline steps left m n e o
