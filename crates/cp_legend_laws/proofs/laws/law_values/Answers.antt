use Rattle.cp_legend_laws.proofs.ValuesOfTree.{values_law}
use Rattle.cp_legend_laws.proofs.laws.law_values.Goals as goal

pub returns : goal.returns
returns c = values_law
