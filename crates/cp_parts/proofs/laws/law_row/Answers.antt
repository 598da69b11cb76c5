use Rattle.cp_parts.proofs.Rows.{row_law}
use Rattle.cp_parts.proofs.laws.law_row.Goals as goal

pub returns : goal.returns
returns c = row_law
