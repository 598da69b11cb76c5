use Rattle.cp_scope.proofs.Tokens.{kept_first, ok_on}
use Rattle.cp_scope.proofs.shapes.Shapes.keep.Goals as goal

pub returns-clause-ok : goal.returns-clause-ok
returns-clause-ok c = ok_on _ _ c.keep_first.result (kept_first c.args.self.now (record { items = c.keep_first.new.items }) c.args.at c.args.shape) c.keep_first.ensures.kept
