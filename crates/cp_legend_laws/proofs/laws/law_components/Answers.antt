use Rattle.cp_legend_laws.proofs.LinedUp.{components_line_up}
use Rattle.cp_legend_laws.proofs.laws.law_components.Goals as goal

pub returns : goal.returns
returns c = components_line_up
