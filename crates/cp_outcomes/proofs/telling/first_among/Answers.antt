use Rattle.std.proofs.Common.{length, refl}
use Rattle.cp_outcomes.proofs.Choosing.{none_first}
use Rattle.cp_outcomes.proofs.telling.first_among.Goals as goal

pub returns-in-None : goal.returns-in-None
returns-in-None c = none_first c.args.tallies.now c.args.number c.args.choices (record { count = length c.args.tallies.now; choices = c.args.choices }) c.in-None.ensures.is refl refl
