-- An `if` with two branches.
use Rattle.std.proofs.Common.{◌≡◌, ◌∙◌, ℕ, false, Option, Some, Box, Global, rules, ap, Ok}
use Rattle.cp_tree.specs.declared.expression.Expression as tree_expression
use Rattle.cp_tree.specs.declared.statement.Statement as tree_statement
use Rattle.cp_tree.specs.declared.statement.StatementKind as tree_kind
use Rattle.cp_tree.specs.declared.statement.StatementKind.{the_lemmas}
use Rattle.cp_tree.specs.declared.statement.StatementKind.TheVariants as kinds
use Rattle.cp_tree.specs.Syntax.{if_else}
use Rattle.cp_check.proofs.Words.{expression_view, statement_view, CheckFault, Scopes, Refuses, Context, Operand}
use Rattle.cp_check.specs.Expressions.{expression}
use Rattle.cp_check.specs.Statements.{statement, together, test_then}
use Rattle.cp_check.proofs.Judging.{refuses_both, refuses_second}

shown : (at : ℕ) (e : tree_expression.Expression) (s t : Box tree_statement.Statement Global) → statement_view (record { at = at; kind = kinds.If e s (Some t) }) ≡ if_else at (expression_view e) (statement_view s.value) (statement_view t.value)
shown at e s t = search (rules, the_lemmas)

module _ (s : Scopes) (w : Context) (n : tree_statement.Statement) (test : tree_expression.Expression) (first second : Box tree_statement.Statement Global) (o : Option (Box tree_statement.Statement Global)) (is_if : n.kind ≡ kinds.If test first o) (is_some : o ≡ Some second) where
  is_else : statement_view n ≡ if_else n.at (expression_view test) (statement_view first.value) (statement_view second.value)
  is_else = ap (λ (k : tree_kind.StatementKind). statement_view (record { at = n.at; kind = k })) (is_if ∙ ap (λ (p : Option (Box tree_statement.Statement Global)). kinds.If test first p) is_some) ∙ shown n.at test first second

  pub else_first : (e : CheckFault) → Refuses e (expression s w false (expression_view test)) → Refuses e (statement s w (statement_view n))
  unfolding statement
  else_first e h = rw is_else (refuses_both e _ _ (test_then n.at) h)

  pub else_second : (e : CheckFault) (x : Operand) → expression s w false (expression_view test) ≡ Ok x → Refuses e (statement s w (statement_view first.value)) → Refuses e (statement s w (statement_view n))
  unfolding statement
  else_second e x i h = rw (is_else, i) (refuses_second e x _ (test_then n.at) (refuses_both e _ _ together h))
