use Rattle.cp_endless_laws.proofs.Words.{Contains, slots, without_output, ShowsLess}
use Rattle.cp_endless_laws.proofs.possible.Tables.{tables_known}
use Rattle.cp_endless_laws.proofs.slots.Output.{slots_forget}
use Rattle.cp_endless_laws.proofs.laws.law_tables.Goals as goal

pub returns : goal.returns
returns c = λ r discipline states. tables_known (slots r discipline) without_output ShowsLess (slots_forget r discipline) (Contains states)
