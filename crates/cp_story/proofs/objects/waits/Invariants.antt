use Rattle.std.proofs.Common.{◌≡◌, ◌++◌, drop, map}
use Rattle.serde_json.specs.View.{view}
use Rattle.cp_legend.specs.Names.{legend_seen}
use Rattle.cp_story.specs.StoryData.{wait_data}
use Rattle.cp_story.specs.Views.{wait_of}
use Rattle.cp_story.proofs.objects.waits.Given as goal

-- what is gathered, with what is left, is all
abbrev pub invariant-loop-wait : goal.invariant-loop-wait
invariant-loop-wait l = map (wait_data (legend_seen l.legend)) (map wait_of l.waits) ≡ map view l.items.items ++ map (wait_data (legend_seen l.legend)) (map wait_of (drop l.wait-index l.waits))
