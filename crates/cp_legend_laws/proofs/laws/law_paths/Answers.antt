use Rattle.cp_legend_laws.proofs.PathsOfTree.{paths_law}
use Rattle.cp_legend_laws.proofs.laws.law_paths.Goals as goal

pub returns : goal.returns
returns c = paths_law
