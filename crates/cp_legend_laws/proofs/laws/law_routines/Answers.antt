use Rattle.cp_legend_laws.proofs.NamedRoutines.{routines_law}
use Rattle.cp_legend_laws.proofs.laws.law_routines.Goals as goal

pub returns : goal.returns
returns c = routines_law
