use Rattle.std.proofs.Common.{◌∙◌, ap, if◌then◌else◌, sym, Bool}
use Rattle.cp_run.specs.declared.outcome.OutcomeKind.TheVariants.{AllWaiting, Finished}
use Rattle.cp_run.specs.declared.outcome.Turn.TheVariants.{Over}
use Rattle.cp_stretches.proofs.numbers.StatusNumbers.end.Goals as goal

pub returns-then-waits : goal.returns-then-waits
returns-then-waits c = λ r s m can. ap (λ (b : Bool). if b then Over AllWaiting else Over Finished) (sym c.if-waits.true ∙ c.waits.ensures r s m can)

pub returns-else-waits : goal.returns-else-waits
returns-else-waits c = λ r s m can. ap (λ (b : Bool). if b then Over AllWaiting else Over Finished) (sym c.if-waits.false ∙ c.waits.ensures r s m can)
