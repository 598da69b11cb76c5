use Rattle.std.proofs.Common.{arith}
use Rattle.cp_tree.proofs.Turns as turns
use Rattle.cp_tree.specs.ReadingExpressions.{expression, deeper, factor_at}
use Rattle.cp_tree.proofs.read_expression.+expression.Goals as goal

pub expression-returns : goal.expression-returns
unfolding expression factor_at
expression-returns t c = rw (turns.deeper (λ n. expression n c.args.cursor.now) c.args.budget (omega arith)) c.expression_within.ensures

pub deeper_factor-returns : goal.deeper_factor-returns
unfolding deeper factor_at
deeper_factor-returns t c = rw (turns.deeper (λ n. deeper n c.args.cursor.now) c.args.budget (omega arith)) c.factor.ensures
