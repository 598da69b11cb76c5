use Rattle.cp_merged.proofs.Sorted.{layers_tally}
use Rattle.cp_merged.proofs.laws.law_layers.Goals as goal

pub returns : goal.returns
returns c = λ sys same ex eq sound choices steps. layers_tally sys same ex eq sound choices steps
