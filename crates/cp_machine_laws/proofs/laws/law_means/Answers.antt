use Rattle.cp_machine_laws.proofs.Meaning.{meaning_law}
use Rattle.cp_machine_laws.proofs.laws.law_means.Goals as goal

pub returns : goal.returns
returns c = meaning_law
