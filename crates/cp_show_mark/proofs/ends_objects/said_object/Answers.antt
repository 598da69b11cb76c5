use Rattle.std.proofs.Common.{◌∙◌, ap, refl, string_bytes}
use Rattle.serde_json.specs.Data.{object}
use Rattle.cp_story.specs.Objects.{members_in}
use Rattle.cp_show_mark.specs.EndsData.{against_members, said_data}
use Rattle.cp_show_mark.specs.EndsText.{said_reason}
use Rattle.cp_show_mark.specs.MarkText.{setting_of}
use Rattle.cp_show_mark.proofs.Gathered.{expectation_put}
use Rattle.cp_show_mark.proofs.ends_objects.said_object.Goals as goal

pub returns : goal.returns
unfolding said_data
returns c =
    let s = setting_of c.args.examinee in
    let x = c.args.said.now in
    c.into_value.ensures ∙ ap object (expectation_put (members_in c.new-object.result) (members_in c.put_against.new.object) (members_in c.put_expectation.new.object) (against_members s x.against) c.as_str.result.now (string_bytes x.expectation) x.standing x.standing c.as_str-2.result.now (said_reason s x) c.new-object.ensures c.in_ok-put_against.ensures c.in_ok-put_expectation.ensures c.as_str.ensures.value refl (c.as_str-2.ensures.value ∙ c.in_ok-reason.ensures))
