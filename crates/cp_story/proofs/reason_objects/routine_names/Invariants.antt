use Rattle.std.proofs.Common.{◌≡◌, ◌++◌, drop, map}
use Rattle.serde_json.specs.View.{view}
use Rattle.cp_legend.specs.Names.{legend_seen}
use Rattle.cp_story.specs.Objects.{text_data}
use Rattle.cp_story.specs.ReasonText.{routine_text}
use Rattle.cp_story.proofs.reason_objects.routine_names.Given as goal

-- what is gathered, with what is left, is all
abbrev pub invariant-loop-routine : goal.invariant-loop-routine
invariant-loop-routine l = map (λ n. text_data (routine_text (legend_seen l.legend) n)) l.routines ≡ map view l.items.items ++ map (λ n. text_data (routine_text (legend_seen l.legend) n)) (drop l.routine-index l.routines)
