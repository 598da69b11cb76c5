use Rattle.std.proofs.Common.{◌∙◌, ap, map, sym}
use Rattle.cp_legend.specs.Values.{value_seen}
use Rattle.cp_run.proofs.Tracing.{ok_as}
use Rattle.cp_story.proofs.Arrays.{list_is}
use Rattle.cp_story.specs.Objects.{array_of}
use Rattle.cp_story.specs.StoryData.{value_data}
use Rattle.cp_story.proofs.objects.+value_json.Goals as goal

pub value-returns-in-List : goal.value-returns-in-List
value-returns-in-List t c =
    let all = ap (λ vs. array_of (map value_data (map value_seen vs))) c.deref-in-List.ensures.value in
    let is = sym (list_is c.args.written.now c.in-List.items c.in-List.is) in
    ok_as c.values.result _ _ c.values.ensures (λ v seen. seen ∙ all ∙ is)
