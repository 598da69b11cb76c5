use Rattle.std.proofs.Common.{◌≡◌, length, map, take}
use Rattle.std.specs.List.{zip}
use Rattle.serde_json.specs.View.{view}
use Rattle.cp_show_mark.specs.MarkData.{judged_data}
use Rattle.cp_show_mark.specs.MarkText.{setting_of}
use Rattle.cp_show_mark.proofs.mark_objects.judged_objects.Given as goal

abbrev pub invariant-loop-expectation : goal.invariant-loop-expectation
invariant-loop-expectation l = map view l.items.items ≡ map (judged_data (setting_of l.examinee) l.marked.stops) (take (length l.yielded) (zip l.reading.expectations.items l.marked.judgements.items))
