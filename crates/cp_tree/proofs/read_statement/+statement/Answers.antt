use Rattle.std.proofs.Common.{rules, arith}
use Rattle.std.proofs.lemmas.Grind.{common_steps}
use Rattle.cp_tree.proofs.Turns as turns
use Rattle.cp_tree.specs.Input.{expect, after}
use Rattle.cp_tree.specs.ReadingStatements.{statement, statement_at, if_at, if_with, statement_after}
use Rattle.cp_tree.proofs.Views.{if_then_view, if_else_view}
use Rattle.cp_tree.proofs.read_statement.+statement.Goals as goal

pub statement-returns : goal.statement-returns
unfolding statement statement_at
statement-returns t c = rw (turns.deeper (λ n. statement n c.args.cursor.now) c.args.budget (omega arith)) c.statement_within.ensures

pub choice-returns-then-sees : goal.choice-returns-then-sees
unfolding if_at if_with statement_after expect after
choice-returns-then-sees t c =
    let v = if_else_view c.at-at.result c.in_ok-both.both.0.0 c.in_ok-both.both.0.1 c.in_ok-both.both.1 in
    rw v (first_of (search rules, grind (arith, common_steps)))

pub choice-returns : goal.choice-returns
unfolding if_at if_with statement_after expect after
choice-returns t c =
    let v = if_then_view c.at-at.result c.in_ok-held.held.0 c.in_ok-held.held.1 in
    rw v (first_of (search rules, grind (arith, common_steps)))
