-- Loops over statements and starts: what is left leads where all lead.
use Rattle.std.proofs.Common.{◌≡◌, List, [], ◌∷◌, length, refl, arith}
use Rattle.cp_check.proofs.Words.{CheckFault, Use, Scopes, Judged, both, ◌>>=◌, Refuses, Context}
use Rattle.cp_tree.specs.declared.expression.Expression as tree_expression
use Rattle.cp_tree.specs.Syntax.{Expression, Start, Statements, no_statements, more_statements}
use Rattle.cp_tree.specs.View.{expressions_view, expressions_of}
use Rattle.cp_check.specs.Statements.{assertion, assertions, statement, statements, start, starts, together, number_of}
use Rattle.cp_check.proofs.Judging.{refuses_both}

pub number_is : (xs : List tree_expression.Expression) → number_of (expressions_of (expressions_view xs)) ≡ length xs
number_is [] = refl
number_is (x ∷ xs) = grind (arith, number_is xs)

-- ---- statements

pub statements_refuse : (s : Scopes) (w : Context) (e : CheckFault) (j : Judged Use) (ts : Statements) → Refuses e j → Refuses e (statements s w j ts)
unfolding statements
statements_refuse s w e j no_statements h = h
statements_refuse s w e j (more_statements t ts) h = statements_refuse s w e (both j (statement s w t) >>= together) ts (refuses_both e j _ together h)

-- ---- what is said before a statement

pub assertions_refuse : (s : Scopes) (w : Context) (e : CheckFault) (j : Judged Use) (es : List Expression) → Refuses e j → Refuses e (assertions s w j es)
unfolding assertions
assertions_refuse s w e j [] h = h
assertions_refuse s w e j (x ∷ es) h = assertions_refuse s w e (both j (assertion s w x) >>= together) es (refuses_both e j _ together h)

-- ---- starts

pub starts_refuse : (s : Scopes) (w : Context) (e : CheckFault) (j : Judged Use) (is : List Start) → Refuses e j → Refuses e (starts s w j is)
unfolding starts
starts_refuse s w e j [] h = h
starts_refuse s w e j (i ∷ is) h = starts_refuse s w e (both j (start s w i) >>= together) is (refuses_both e j _ together h)
