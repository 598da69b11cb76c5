use Rattle.cp_endless_laws.proofs.Words.{slots, without_output, ShowsLess}
use Rattle.cp_endless_laws.proofs.possible.Tables.{witnesses}
use Rattle.cp_endless_laws.proofs.slots.Output.{slots_forget}
use Rattle.cp_endless_laws.proofs.laws.law_witness.Goals as goal

pub returns : goal.returns
returns c = λ r discipline. witnesses (slots r discipline) without_output ShowsLess (slots_forget r discipline)
