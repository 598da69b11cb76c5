use Rattle.std.proofs.Common.{take}
use Rattle.cp_prose.specs.Telling.{UnlessRefused, appended}
use Rattle.cp_show_mark.specs.EndsText.{those_said}
use Rattle.cp_show_mark.specs.MarkText.{setting_of}
use Rattle.cp_show_mark.proofs.ends_words.push_those.Given as goal

abbrev pub invariant-loop-said : goal.invariant-loop-said
invariant-loop-said l = UnlessRefused l.text (appended l.initial.text (those_said (setting_of l.examinee) l.failing (take l.said-index l.all)))
