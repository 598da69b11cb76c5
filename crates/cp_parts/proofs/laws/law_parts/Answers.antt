use Rattle.cp_parts.proofs.Same.{same_part_law}
use Rattle.cp_parts.proofs.laws.law_parts.Goals as goal

pub returns : goal.returns
returns c = same_part_law
