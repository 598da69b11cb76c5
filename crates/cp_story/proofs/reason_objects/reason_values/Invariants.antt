use Rattle.std.proofs.Common.{◌≡◌, ◌++◌, drop, map}
use Rattle.serde_json.specs.View.{view}
use Rattle.cp_legend.specs.Names.{legend_seen}
use Rattle.cp_story.specs.ReasonText.{reason_data}
use Rattle.cp_story.specs.Reasons.{reason_seen}
use Rattle.cp_story.proofs.reason_objects.reason_values.Given as goal

-- what is gathered, with what is left, is all
abbrev pub invariant-loop-reason : goal.invariant-loop-reason
invariant-loop-reason l = map (reason_data (legend_seen l.legend)) (map reason_seen l.reasons) ≡ map view l.items.items ++ map (reason_data (legend_seen l.legend)) (map reason_seen (drop l.reason-index l.reasons))
