use Rattle.std.proofs.Common.{◌∙◌, ap, codes, option_copied}
use Rattle.serde_json.specs.Data.{object, no_members}
use Rattle.cp_story.specs.Objects.{members_in, number_data, with_member}
use Rattle.cp_merged.specs.Code.{tally_of}
use Rattle.cp_outcomes.specs.Data.{count_members, end_members, outcome_members, simple_members, told_data}
use Rattle.cp_outcomes.specs.Told.{setting_of}
use Rattle.cp_outcomes.proofs.Jsons.{told_parts}
use Rattle.cp_outcomes.proofs.objects.told_value.Goals as goal

pub returns : goal.returns
unfolding told_data
returns c =
    let s = setting_of c.args.subject c.args.subject.limits.choices in
    let t = c.args.told.now.tally.now in
    c.into_value.ensures ∙ ap object (told_parts no_members (members_in c.number.new.self) (members_in c.put_count.new.object) (members_in c.put_outcome.new.object) (members_in c.put_simple.new.object) (members_in c.put_end.new.object) (codes "number", number_data c.args.number) (count_members t.count c.args.whole.now) (outcome_members s.legend (tally_of t).first) (simple_members (option_copied c.args.told.now.simple)) (end_members s t.first.items t.outcome.kind) (c.in_ok-number.ensures ∙ ap (λ m. with_member m (codes "number") (number_data c.args.number)) c.new-object.ensures) c.in_ok-put_count.ensures c.in_ok-put_outcome.ensures c.in_ok-put_simple.ensures c.in_ok-put_end.ensures)
