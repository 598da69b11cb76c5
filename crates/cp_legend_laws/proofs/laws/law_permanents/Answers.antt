use Rattle.cp_legend_laws.proofs.PermanentsNamed.{permanents_law}
use Rattle.cp_legend_laws.proofs.laws.law_permanents.Goals as goal

pub returns : goal.returns
returns c = permanents_law
