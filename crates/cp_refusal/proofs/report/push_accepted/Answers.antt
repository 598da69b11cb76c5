use Rattle.std.proofs.Common.{codes}
use Rattle.cp_refusal.proofs.Texts.{accepted_taken}
use Rattle.cp_refusal.proofs.report.push_accepted.Goals as goal

pub returns : goal.returns
returns c = accepted_taken c.args.text.now c.put.new.self c.push_hints.new.text c.put_prose.new.self (codes "accepted\n") c.put.ensures c.put_prose.ensures
