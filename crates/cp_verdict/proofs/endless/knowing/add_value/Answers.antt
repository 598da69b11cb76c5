use Rattle.std.proofs.Common.{◌∙◌, ap}
use Rattle.cp_verdict.specs.endless.Knowledge.{value_pair}
use Rattle.cp_verdict.proofs.any_length.Learning.{add_in, add_out}
use Rattle.cp_verdict.proofs.endless.knowing.add_value.Goals as goal

pub returns-in_ok-push-clause-values : goal.returns-in_ok-push-clause-values
returns-in_ok-push-clause-values c = λ r f word h is.
    let same = c.in_ok-word.ensures r f.states word h.states is in
    add_in value_pair c.args.looked c.args.values.now.items c.args.value.now.value word c.push.new.self.items _ c.is_within.result c.deref.result.now c.in_ok-push.ensures.items
    (ap (λ w. (c.args.value.now.value, w)) same) c.is_within.ensures (c.deref.ensures.value ∙ same) c.if-is_within.true

pub returns-else-is_within-clause-values : goal.returns-else-is_within-clause-values
returns-else-is_within-clause-values c = λ r f word h is.
    add_out value_pair c.args.looked c.args.values.now.items c.args.value.now.value word c.is_within.result c.deref.result.now c.is_within.ensures (c.deref.ensures.value ∙ c.in_ok-word.ensures r f.states word h.states is) c.if-is_within.false
