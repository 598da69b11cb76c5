use Rattle.cp_legend_laws.proofs.PathsOfTree.{legend_law}
use Rattle.cp_legend_laws.proofs.laws.law_legend.Goals as goal

pub returns : goal.returns
returns c = legend_law
