use Rattle.std.proofs.Common.{◌≡◌, map}
use Rattle.serde_json.specs.View.{view}
use Rattle.cp_legend.specs.Names.{at_each, legend_seen}
use Rattle.cp_story.specs.StoryData.{monitor_data}
use Rattle.cp_story.proofs.objects.monitors.Given as goal

-- what is gathered, with what is left, is all
abbrev pub invariant-loop-monitor : goal.invariant-loop-monitor
invariant-loop-monitor l = map view l.items.items ≡ at_each (monitor_data (legend_seen l.legend)) l.monitor
