use Rattle.std.proofs.Common.{map, take}
use Rattle.cp_legend.specs.Names.{legend_seen}
use Rattle.cp_prose.specs.Telling.{UnlessRefused, appended}
use Rattle.cp_run.specs.Table.{each}
use Rattle.cp_story.specs.Views.{wait_of}
use Rattle.cp_show_mark.specs.MarkText.{waiting_text}
use Rattle.cp_show_mark.proofs.mark_words.push_waits.Given as goal

abbrev pub invariant-loop-wait : goal.invariant-loop-wait
invariant-loop-wait l = UnlessRefused l.text (appended l.initial.text (each (waiting_text (legend_seen l.examinee.legend.now)) (map wait_of (take l.wait-index l.waits))))
