use Rattle.std.proofs.Common.{length, take}
use Rattle.std.specs.List.{zip}
use Rattle.cp_prose.specs.Telling.{UnlessRefused, appended}
use Rattle.cp_show_mark.specs.MarkText.{is_of, setting_of, those_text}
use Rattle.cp_show_mark.proofs.mark_words.push_those.Given as goal

abbrev pub invariant-loop-expectation : goal.invariant-loop-expectation
invariant-loop-expectation l = UnlessRefused l.text (appended l.initial.text (those_text (setting_of l.examinee) l.marked.stops (is_of l.failing) (take (length l.yielded) (zip l.reading.expectations.items l.marked.judgements.items))))
