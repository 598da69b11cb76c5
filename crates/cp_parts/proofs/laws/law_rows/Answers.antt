use Rattle.cp_parts.proofs.Rows.{one_row_law}
use Rattle.cp_parts.proofs.laws.law_rows.Goals as goal

pub returns : goal.returns
returns c = one_row_law
