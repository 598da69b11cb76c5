use Rattle.std.proofs.Common.{map, ap, arith}
use Rattle.std.proofs.lemmas.List.{take_all}
use Rattle.cp_legend.specs.Names.{legend_seen}
use Rattle.cp_run.specs.Table.{each}
use Rattle.cp_story.specs.Views.{wait_of}
use Rattle.cp_show_mark.specs.MarkText.{waiting_text}
use Rattle.cp_show_mark.proofs.Pieces.{also}
use Rattle.cp_show_mark.proofs.mark_words.push_waits.Goals as goal

pub returns : goal.returns
returns c = also c.args.text.now c.loop-wait.text (ap (λ ws. each (waiting_text (legend_seen c.args.examinee.legend.now)) (map wait_of ws)) (take_all c.loop-wait.wait-index c.args.waits.now (omega arith))) c.loop-wait.invariant
