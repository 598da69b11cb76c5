use Rattle.std.proofs.Common.{◌∙◌, ap, map}
use Rattle.std.specs.String.{string_bytes}
use Rattle.serde_json.specs.Written.{has_float}
use Rattle.cp_legend.specs.Names.{legend_seen}
use Rattle.cp_run.proofs.Tracing.{ok_as}
use Rattle.cp_story.proofs.StoryFloats.{story_free}
use Rattle.cp_story.specs.Objects.{line_of}
use Rattle.cp_story.proofs.objects.json.Goals as goal

pub returns : goal.returns
returns c =
    let is = c.in_ok-whole.ensures in
    let free = ap has_float is ∙ story_free (legend_seen c.args.legend.now) c.args.story.now c.args.again c.args.word.now (map string_bytes c.args.source.now) in
    ok_as c.into_line.result _ _ c.into_line.ensures (λ t said. said free ∙ ap line_of is)
