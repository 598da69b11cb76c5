use Rattle.cp_verdict.proofs.any_length.KnownAtOnce.{all_known}
use Rattle.cp_verdict.proofs.endless.knowing_at_once.knowledge_at_once.Goals as goal

pub returns : goal.returns
returns c = λ steps most a.
    all_known c.args.found.now _ c.in_ok-ends.ensures.ends c.in_ok-values.ensures.values c.args.program.now steps most a c.numbers_looked_at.ensures
    (c.in_ok-ends.ensures.words c.args.program.now steps a.states a.kept a.ends, c.in_ok-values.ensures.words c.args.program.now steps a.states a.kept a.values) c.in_ok-values.ensures.texts
