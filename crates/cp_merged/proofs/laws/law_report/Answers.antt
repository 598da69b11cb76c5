use Rattle.cp_merged.proofs.Words.{ap, ◌∙◌, table, same_outcome, told_text}
use Rattle.cp_merged.proofs.Exact.{exact_outcomes}
use Rattle.cp_merged.proofs.Sorted.{layers_tally}
use Rattle.cp_merged.proofs.Telling.{told_report}
use Rattle.cp_merged.proofs.laws.law_report.Goals as goal

pub returns : goal.returns
returns c = λ names sys eq sound choices steps. ap (told_text names) (layers_tally sys same_outcome exact_outcomes eq sound choices steps) ∙ told_report names (table sys choices steps)
