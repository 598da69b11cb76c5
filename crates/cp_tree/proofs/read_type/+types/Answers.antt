use Rattle.std.proofs.Common.{arith}
use Rattle.cp_tree.proofs.Turns as turns
use Rattle.cp_tree.specs.ReadingTypes.{type_term, type_at}
use Rattle.cp_tree.proofs.read_type.+types.Goals as goal

pub type_term-returns : goal.type_term-returns
unfolding type_term type_at
type_term-returns t c = rw (turns.deeper (λ n. type_term n c.args.cursor.now) c.args.budget (omega arith)) c.type_within.ensures
