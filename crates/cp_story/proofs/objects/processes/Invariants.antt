use Rattle.std.proofs.Common.{◌≡◌, map}
use Rattle.serde_json.specs.View.{view}
use Rattle.cp_legend.specs.Names.{at_each, legend_seen}
use Rattle.cp_story.specs.StoryData.{process_data}
use Rattle.cp_story.proofs.objects.processes.Given as goal

-- what is gathered, with what is left, is all
abbrev pub invariant-loop-process : goal.invariant-loop-process
invariant-loop-process l = map view l.items.items ≡ at_each (process_data (legend_seen l.legend)) l.process
