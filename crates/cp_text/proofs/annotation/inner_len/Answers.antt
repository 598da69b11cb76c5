use Rattle.cp_text.proofs.AnnotationLaws.{inner_within}
use Rattle.cp_text.proofs.annotation.inner_len.Goals as goal

pub returns-in-42-clause-within : goal.returns-in-42-clause-within
returns-in-42-clause-within c = inner_within c.args.text.now c.without_separators.result.now c.without_separators.ensures
