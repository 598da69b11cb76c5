use Rattle.cp_legend_laws.proofs.LocalsNamed.{locals_law}
use Rattle.cp_legend_laws.proofs.laws.law_locals.Goals as goal

pub returns : goal.returns
returns c = locals_law
