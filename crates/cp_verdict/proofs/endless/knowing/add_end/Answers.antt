use Rattle.std.proofs.Common.{◌∙◌, ap}
use Rattle.cp_verdict.specs.endless.Knowledge.{end_pair}
use Rattle.cp_verdict.proofs.any_length.Learning.{add_in, add_out}
use Rattle.cp_verdict.proofs.endless.knowing.add_end.Goals as goal

pub returns-in_ok-push : goal.returns-in_ok-push
returns-in_ok-push c = λ r f word h is.
    let same = c.in_ok-word.ensures r f.states word h.states is in
    add_in end_pair c.args.looked c.args.ends.now.items c.args.end.now.end word c.push.new.self.items _ c.is_within.result c.deref.result.now c.in_ok-push.ensures.items
    (ap (λ w. (c.args.end.now.end, w)) same) c.is_within.ensures (c.deref.ensures.value ∙ same) c.if-is_within.true

pub returns-else-is_within : goal.returns-else-is_within
returns-else-is_within c = λ r f word h is.
    add_out end_pair c.args.looked c.args.ends.now.items c.args.end.now.end word c.is_within.result c.deref.result.now c.is_within.ensures (c.deref.ensures.value ∙ c.in_ok-word.ensures r f.states word h.states is) c.if-is_within.false
