use Rattle.std.proofs.Common.{◌∙◌}
use Rattle.cp_verdict.proofs.any_length.Learning.{stopped_at}
use Rattle.cp_verdict.proofs.endless.knowing.numbers_looked_at.Goals as goal

pub returns : goal.returns
returns c = λ r f h. stopped_at r c.args.found.now f h c.in-Some.stopped c.args.found.now.stopped c.origin.result c.in_ok-word.word.items c.in-Some.is c.origin.ensures c.in_ok-word.ensures c.len.result (c.len.ensures ∙ c.in_ok-word.word.ok.0)
