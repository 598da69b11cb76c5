use Rattle.std.proofs.Common.{sym}
use Rattle.cp_at_once.proofs.Keeping.{no_state, state_of}
use Rattle.cp_at_once.proofs.kept.Kept.row_at.Goals as goal

pub returns-clause-found : goal.returns-clause-found
returns-clause-found c = λ r states h. state_of r c.args.self.now states h c.args.number _ (sym c.in-Some.ensures.entry)

pub returns-in_default-clause-none : goal.returns-in_default-clause-none
returns-in_default-clause-none c = λ r states h. no_state r c.args.self.now states h c.args.number (sym c.in_default.ensures.entry)
