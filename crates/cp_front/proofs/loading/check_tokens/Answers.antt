use Rattle.cp_front.proofs.Parsing.{without_tree}
use Rattle.cp_front.proofs.loading.check_tokens.Goals as goal

pub check_tree-requires : goal.check_tree-requires
check_tree-requires c = let it = c.in-Ok in record { proper = it.ensures.proper.0; spelled = it.ensures.proper.1; lines = it.ensures.lines }

pub returns-in_default-clause-refused : goal.returns-in_default-clause-refused
returns-in_default-clause-refused c = λ source text.
    (let it = c.in-Err in
    (text, without_tree c.args.tokens it.fault c.in_default.not-Memory it.ensures.read it.ensures.unexpected it.ensures.outside it.ensures.too_deep))
