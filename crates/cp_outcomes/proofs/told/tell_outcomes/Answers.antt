use Rattle.std.proofs.Common.{map}
use Rattle.cp_merged.specs.Code.{tally_of}
use Rattle.cp_outcomes.specs.Told.{setting_of}
use Rattle.cp_outcomes.proofs.Ordering.{all_told}
use Rattle.cp_outcomes.proofs.told.tell_outcomes.Goals as goal

pub returns : goal.returns
returns c =
    all_told (setting_of c.args.subject c.args.subject.limits.choices) (map tally_of c.args.tallies.now) c.new-told.result.items c.push_told.new.told.items c.push_told-2.new.told.items c.new-told.ensures.items c.in_ok-push_told.ensures.order c.in_ok-push_told-2.ensures.order c.in_ok-push_told.ensures.each c.in_ok-push_told-2.ensures.each
