use Rattle.std.proofs.Common.{◌≡◌, ◌++◌, drop, map}
use Rattle.serde_json.specs.View.{view}
use Rattle.cp_legend.specs.Names.{legend_seen}
use Rattle.cp_story.specs.StoryData.{status_data}
use Rattle.cp_story.proofs.objects.statuses.Given as goal

-- what is gathered, with what is left, is all
abbrev pub invariant-loop-status : goal.invariant-loop-status
invariant-loop-status l = map (status_data (legend_seen l.legend)) l.statuses ≡ map view l.items.items ++ map (status_data (legend_seen l.legend)) (drop l.status-index l.statuses)
