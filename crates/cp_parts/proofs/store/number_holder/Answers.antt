use Rattle.std.proofs.Common.{◌∙◌, ap, sym}
use Rattle.std.proofs.lemmas.Result.{IfOk-weaker}
use Rattle.cp_parts.specs.Coded.{option_list}
use Rattle.cp_parts.proofs.store.number_holder.Goals as goal

pub returns-in-None-clause-number : goal.returns-in-None-clause-number
returns-in-None-clause-number c = IfOk-weaker c.number_of.result _ _ (λ n h. record { within = h.0; is = h.1 ∙ ap option_list (sym c.in-None.is) }) c.number_of.ensures.number

pub returns-in-Some-clause-number : goal.returns-in-Some-clause-number
returns-in-Some-clause-number c = IfOk-weaker c.number_of-in-Some.result _ _ (λ n h. record { within = h.0; is = h.1 ∙ ap option_list (sym c.in-Some.is) }) c.number_of-in-Some.ensures.number
