use Rattle.cp_parts.proofs.Same.{part_law}
use Rattle.cp_parts.proofs.laws.law_part.Goals as goal

pub returns : goal.returns
returns c = part_law
