use Rattle.cp_at_once.proofs.Words.{◌∙◌}
use Rattle.cp_at_once.proofs.Keeping.{found_same, owned}
use Rattle.cp_at_once.proofs.kept.Kept.contains.Goals as goal

pub returns : goal.returns
returns c = λ r states m h is. c.contains_key.ensures ∙ found_same r c.args.self.now.store h.known.cached.placed c.args.self.now.known.entries states c.args.row.now m h.rows (owned r c.args.self.now states h) is
