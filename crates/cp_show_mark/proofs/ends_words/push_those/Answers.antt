use Rattle.std.proofs.Common.{ap, arith}
use Rattle.std.proofs.lemmas.List.{take_all}
use Rattle.cp_run.specs.Table.{each}
use Rattle.cp_show_mark.specs.EndsText.{said_if}
use Rattle.cp_show_mark.specs.MarkText.{setting_of}
use Rattle.cp_show_mark.proofs.Pieces.{also, one_piece}
use Rattle.cp_show_mark.proofs.ends_words.push_those.Goals as goal

pub loop-said-preserved : goal.loop-said-preserved
loop-said-preserved c = one_piece (said_if (setting_of c.args.examinee) c.args.failing) c.args.all.now c.loop-said.said-index c.said-item.result c.args.text.now c.loop-said.text c.push_if.new.text c.loop-said-test.true c.said-item.is c.loop-said.invariant c.push_if.ensures

pub returns : goal.returns
returns c = also c.args.text.now c.loop-said.text (ap (each (said_if (setting_of c.args.examinee) c.args.failing)) (take_all c.loop-said.said-index c.args.all.now (omega arith))) c.loop-said.invariant
