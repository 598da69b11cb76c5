use Rattle.std.proofs.Common.{codes, ap, sym}
use Rattle.std.specs.Prelude.{decimal}
use Rattle.cp_show_mark.specs.MarkText.{excess_text}
use Rattle.cp_show_mark.proofs.Pieces.{also, three}
use Rattle.cp_show_mark.proofs.excess.push_excess.Goals as goal

pub returns-in-States : goal.returns-in-States
returns-in-States c =
    let states = c.args.examinee.options.now.states in
    also c.args.text.now c.put-in-States.new.self (ap (excess_text states) (sym c.in-States.is)) (three c.args.text.now c.put.new.self c.put_display.new.self c.put-in-States.new.self (codes "too many states: a layer may have ") (decimal states) (codes "\ntry greater --states, or mark --ends\n") c.put.ensures c.put_display.ensures c.put-in-States.ensures)

pub returns-in-Outcomes : goal.returns-in-Outcomes
returns-in-Outcomes c = also c.args.text.now c.put-in-Outcomes.new.self (ap (excess_text c.args.examinee.options.now.states) (sym c.in-Outcomes.is)) c.put-in-Outcomes.ensures
