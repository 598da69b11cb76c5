use Rattle.std.proofs.Common.{◌∙◌, ap, map, string_bytes, sym}
use Rattle.serde_json.specs.Data.{no_members, object}
use Rattle.cp_legend.specs.Names.{legend_seen}
use Rattle.cp_story.proofs.Floats.{with_both}
use Rattle.cp_story.specs.Objects.{with_members}
use Rattle.cp_story.specs.StoryData.{again_members, story_members}
use Rattle.cp_story.proofs.objects.story_object.Goals as goal

pub returns : goal.returns
returns c =
    let again = again_members c.args.again in
    let told = story_members (legend_seen c.args.legend.now) c.args.story.now c.args.word.now (map string_bytes c.args.source.now) in
    ap object (c.in_ok-put_story.ensures ∙ ap (λ ms. with_members ms told) (c.in_ok-put_again.ensures ∙ ap (λ ms. with_members ms again) c.new-whole.ensures) ∙ sym (with_both no_members again told))
