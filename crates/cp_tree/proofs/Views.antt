-- What a statement with an optional part, what is said before a statement and the routine of invariants stand for.
use Rattle.std.proofs.Common.{◌≡◌, ◌<◌, ℕ, rules, arith, List, [], ◌∷◌, length, Some, None, Box, Global, refl}
use Rattle.cp_tree.specs.declared.expression.Expression as tree_expression
use Rattle.cp_tree.specs.declared.statement.AssertionKind.{AssertionKind}
use Rattle.cp_tree.specs.declared.statement.Statement as tree_statement
use Rattle.cp_tree.specs.declared.statement.StatementKind.{the_lemmas}
use Rattle.cp_tree.specs.declared.statement.StatementKind.TheVariants as kinds
use Rattle.cp_tree.specs.ReadingDeclarations.{said, nameless_routine, nameless_of}
use Rattle.cp_tree.specs.Syntax.{Statement, if_then, if_else}
use Rattle.cp_tree.specs.View.{expression_view, expressions_view, asserted_of, statement_view}

pub if_then_view : (at : ℕ) (e : tree_expression.Expression) (s : Box tree_statement.Statement Global) → statement_view (tree_statement.roll-Statement (record { at = at; kind = kinds.If e s None })) ≡ if_then at (expression_view e) (statement_view s.value)
if_then_view at e s = search (rules, the_lemmas)

pub if_else_view : (at : ℕ) (e : tree_expression.Expression) (s t : Box tree_statement.Statement Global) → statement_view (tree_statement.roll-Statement (record { at = at; kind = kinds.If e s (Some t) })) ≡ if_else at (expression_view e) (statement_view s.value) (statement_view t.value)
if_else_view at e s t = search (rules, the_lemmas)

-- Invariants, where there are some, are a routine.
pub nameless_some : (at end : ℕ) (tests : List tree_expression.Expression) → 0 < length tests → nameless_of at (expressions_view tests) end ≡ Some (nameless_routine at (said (expressions_view tests) end))
nameless_some at end [] some = absurd (omega arith)
nameless_some at end (e ∷ es) some = refl

pub nameless_none : (at end : ℕ) (tests : List tree_expression.Expression) → length tests ≡ 0 → nameless_of at (expressions_view tests) end ≡ None
nameless_none at end [] none = refl
nameless_none at end (e ∷ es) none = absurd (omega arith)

-- Where nothing is said before a statement, it stands alone.
pub asserted_none : (k : AssertionKind) (tests : List tree_expression.Expression) (s : Statement) → length tests ≡ 0 → asserted_of k (expressions_view tests) s ≡ s
asserted_none k [] s none = refl
asserted_none k (e ∷ es) s none = absurd (omega arith)
