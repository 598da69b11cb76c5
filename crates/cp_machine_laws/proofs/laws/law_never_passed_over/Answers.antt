use Rattle.cp_machine_laws.proofs.reached.Followed.{following_law}
use Rattle.cp_machine_laws.proofs.laws.law_never_passed_over.Goals as goal

pub returns : goal.returns
returns c = following_law
