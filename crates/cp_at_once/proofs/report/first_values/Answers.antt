use Rattle.std.proofs.Common.{◌∙◌, ap, refl}
use Rattle.cp_ends.specs.declared.found.TheConstants.{MOST_VALUES}
use Rattle.cp_at_once.proofs.Telling.{first_or_all}
use Rattle.cp_at_once.proofs.report.first_values.Goals as goal

pub returns : goal.returns
returns c = ap (λ b. b.now) c.unwrap_or.ensures ∙ first_or_all c.args.values.now MOST_VALUES c.get.result c.args.values c.get.ensures.lookup refl
