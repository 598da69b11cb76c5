use Rattle.std.proofs.Common.{◌≡◌, ◌++◌, drop, map}
use Rattle.serde_json.specs.View.{view}
use Rattle.cp_legend.specs.Names.{legend_seen}
use Rattle.cp_story.specs.StoryData.{event_data}
use Rattle.cp_story.specs.Views.{told_of}
use Rattle.cp_story.proofs.objects.events.Given as goal

-- what is gathered, with what is left, is all
abbrev pub invariant-loop-event : goal.invariant-loop-event
invariant-loop-event l = map (event_data (legend_seen l.legend)) (map told_of l.events) ≡ map view l.items.items ++ map (event_data (legend_seen l.legend)) (map told_of (drop l.event-index l.events))
