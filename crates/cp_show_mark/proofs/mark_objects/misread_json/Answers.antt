use Rattle.std.proofs.Common.{◌≡◌, ◌∙◌, ap, codes}
use Rattle.serde_json.specs.Data.{no_members, object}
use Rattle.serde_json.specs.Written.{has_float}
use Rattle.cp_run.proofs.Tracing.{ok_as}
use Rattle.cp_story.specs.Objects.{line_of, members_in, text_data, with_member}
use Rattle.cp_show_mark.specs.MarkData.{misread_data}
use Rattle.cp_show_mark.proofs.MarkFloats.{misread_free}
use Rattle.cp_show_mark.proofs.mark_objects.misread_json.Goals as goal

pub returns : goal.returns
returns c =
    let name = codes "misread" in
    let is : object (members_in c.text.new.self) ≡ misread_data c.args.said.now = ap object (c.in_ok-text.ensures ∙ ap (λ ms. with_member ms name (text_data c.trim_end.result.now)) c.new-object.ensures ∙ ap (λ t. with_member no_members name (text_data t)) c.trim_end.ensures.trim) in
    ok_as c.into_line.result _ _ c.into_line.ensures (λ t said. said (ap has_float is ∙ misread_free c.args.said.now) ∙ ap line_of is)
