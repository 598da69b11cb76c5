use Rattle.std.proofs.Common.{◌≡◌, map, take}
use Rattle.serde_json.specs.View.{view}
use Rattle.cp_outcomes.specs.Data.{numbered_data}
use Rattle.cp_outcomes.specs.Told.{setting_of, told_of}
use Rattle.cp_outcomes.proofs.objects.told_values.Given as goal

abbrev pub invariant-loop-index : goal.invariant-loop-index
invariant-loop-index l = map view l.items.items ≡ numbered_data (setting_of l.subject l.subject.limits.choices) l.whole 1 (map told_of (take l.index l.told))
