use Rattle.std.proofs.Common.{◌∙◌, sym, ap}
use Rattle.cp_scope.proofs.Held.{all_parameters, parameters_left}
use Rattle.cp_scope.proofs.scope.Scope.parameters.Goals as goal

pub loop-meaning-init : goal.loop-meaning-init
loop-meaning-init c = rw c.new-parameters.ensures.items (all_parameters c.args.self.now ∙ sym (ap parameters_left (c.into_iter-meaning-iterator.ensures.into_iter_gives ∙ c.values-meaning-items.ensures.rest)))
