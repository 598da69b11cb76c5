use Rattle.std.proofs.Common.{◌≡◌, map, take}
use Rattle.serde_json.specs.View.{view}
use Rattle.cp_show_mark.specs.EndsData.{said_data}
use Rattle.cp_show_mark.specs.MarkText.{setting_of}
use Rattle.cp_show_mark.proofs.ends_objects.said_objects.Given as goal

abbrev pub invariant-loop-said : goal.invariant-loop-said
invariant-loop-said l = map view l.items.items ≡ map (said_data (setting_of l.examinee)) (take l.said-index l.all)
