use Rattle.cp_legend_laws.proofs.PlacesNamed.{places_law}
use Rattle.cp_legend_laws.proofs.laws.law_places.Goals as goal

pub returns : goal.returns
returns c = places_law
