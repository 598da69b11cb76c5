use Rattle.std.proofs.Common.{◌∙◌, ap}
use Rattle.serde_json.specs.Data.{object}
use Rattle.cp_story.specs.Objects.{members_in}
use Rattle.cp_expectation.specs.Written.{expectation_text}
use Rattle.cp_show_mark.specs.MarkData.{judged_data, shown_members}
use Rattle.cp_show_mark.specs.MarkText.{reason_text, setting_of, standing_of}
use Rattle.cp_show_mark.proofs.Gathered.{expectation_put}
use Rattle.cp_show_mark.proofs.mark_objects.judged_object.Goals as goal

pub returns : goal.returns
unfolding judged_data
returns c =
    let s = setting_of c.args.examinee in
    let e = c.args.expectation.now in
    let j = c.args.judgement.now in
    c.into_value.ensures ∙ ap object (expectation_put (members_in c.new-object.result) (members_in c.put_shown.new.object) (members_in c.put_expectation.new.object) (shown_members s j) c.as_str.result.now (expectation_text e) c.standing_of.result (standing_of j) c.as_str-2.result.now (reason_text s c.args.marked.now.stops e.claim j) c.new-object.ensures c.in_ok-put_shown.ensures c.in_ok-put_expectation.ensures (c.as_str.ensures.value ∙ c.in_ok-expected.ensures) c.standing_of.ensures (c.as_str-2.ensures.value ∙ c.in_ok-reason.ensures))
