use Rattle.std.proofs.Common.{◌≡◌, true}
use Rattle.cp_merged.proofs.Completing.{closed_table}
use Rattle.cp_merged.proofs.laws.law_closed.Goals as goal

pub returns : goal.returns
returns c = λ sys steps among known closed choices. closed_table sys steps (λ s. among s ≡ true) (λ k. known k ≡ true) closed choices
