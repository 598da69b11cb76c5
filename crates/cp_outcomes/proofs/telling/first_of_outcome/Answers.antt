use Rattle.cp_outcomes.specs.Chosen.{IsFirst}
use Rattle.cp_outcomes.proofs.Choosing.{chosen_among}
use Rattle.cp_outcomes.proofs.telling.first_of_outcome.Goals as goal

pub returns : goal.returns
returns g c = chosen_among c.args.job c.args.number IsFirst c.first_found.result c.in_ok-finding.finding c.in_ok-finding.ensures c.first_found.ensures
