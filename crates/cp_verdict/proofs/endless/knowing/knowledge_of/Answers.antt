use Rattle.cp_verdict.proofs.any_length.Learning.{learned}
use Rattle.cp_verdict.proofs.endless.knowing.knowledge_of.Goals as goal

pub returns-clause-known : goal.returns-clause-known
returns-clause-known c = λ discipline steps most a waits. learned c.args.program.now discipline steps most c.args.found.now _ c.in_ok-looked.ensures c.in_ok-ends.ensures c.in_ok-values.ensures.values c.in_ok-values.ensures.texts a waits
