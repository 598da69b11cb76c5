use Rattle.cp_effects.proofs.Admitting.{admission_row_law}
use Rattle.cp_effects.proofs.laws.law_admission_row.Goals as goal

pub returns : goal.returns
returns c = admission_row_law
