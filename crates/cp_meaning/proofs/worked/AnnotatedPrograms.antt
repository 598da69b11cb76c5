-- Programs with assertions and invariants.
use Rattle.std.specs.Prelude.{[], ◌∷◌, true, false, None, codes}
use Rattle.cp_tree.specs.declared.constant.ConstantKind.TheVariants as constant_kind
use Rattle.cp_tree.specs.declared.expression.Relation.TheVariants as relation
use Rattle.cp_tree.specs.declared.expression.Addition.TheVariants.{Plus}
use Rattle.cp_tree.specs.declared.expression.Multiplication.TheVariants.{Div}
use Rattle.cp_tree.specs.declared.statement.AssertionKind.TheVariants as said
use Rattle.cp_tree.specs.declared.declaration.SystemKind.TheVariants as system_kind
use Rattle.cp_tree.specs.Syntax.{alone, related, sum, no_terms, more_terms, term, no_factors, more_factors, number, named, no_expressions, more_expressions, designator, no_selectors, more_selectors, field, index, empty, assign, invoke, if_then, if_else, while_do, init, asserted, no_statements, more_statements, type_name, subrange, simple, array_of, variables, procedure, function, invariants, system_definition, program_types, program_variables, Program, nameless}
use Rattle.cp_meaning.proofs.Written.{named_at, just}

-- var x: integer; begin x := 1; "(* assert x = 1 *)" x := 2; display(x); "(* assert x = 1 *)" display(3) end.
abbrev pub assertion_before : Program
assertion_before =
    record { parts = ((program_variables 0 ((record { names = ((named_at 1 (codes "x")) ∷ []); variable_type = (simple 3 (type_name 3 (codes "integer"))) }) ∷ [])) ∷ []); routines = []; body = (record { at = 5; statements = (more_statements (assign 6 (designator (named_at 6 (codes "x")) no_selectors) (just 8 (number 8 1))) (more_statements (asserted 11 said.Assertion (related 11 (sum 11 None (term 11 (named 11 (designator (named_at 11 (codes "x")) no_selectors) no_expressions) no_factors) no_terms) relation.Equal (sum 13 None (term 13 (number 13 1) no_factors) no_terms)) (assign 15 (designator (named_at 15 (codes "x")) no_selectors) (just 17 (number 17 2)))) (more_statements (invoke 19 (designator (named_at 19 (codes "display")) no_selectors) (more_expressions (just 21 (named 21 (designator (named_at 21 (codes "x")) no_selectors) no_expressions)) no_expressions)) (more_statements (asserted 25 said.Assertion (related 25 (sum 25 None (term 25 (named 25 (designator (named_at 25 (codes "x")) no_selectors) no_expressions) no_factors) no_terms) relation.Equal (sum 27 None (term 27 (number 27 1) no_factors) no_terms)) (invoke 29 (designator (named_at 29 (codes "display")) no_selectors) (more_expressions (just 31 (number 31 3)) no_expressions))) no_statements)))) }); period = 34 }

-- var x: integer; begin x := 1; "(* assert x = 2 *)" "(* assert 1 div 0 = 1 *)" display(1) end.
abbrev pub assertions_in_order : Program
assertions_in_order =
    record { parts = ((program_variables 0 ((record { names = ((named_at 1 (codes "x")) ∷ []); variable_type = (simple 3 (type_name 3 (codes "integer"))) }) ∷ [])) ∷ []); routines = []; body = (record { at = 5; statements = (more_statements (assign 6 (designator (named_at 6 (codes "x")) no_selectors) (just 8 (number 8 1))) (more_statements (asserted 11 said.Assertion (related 11 (sum 11 None (term 11 (named 11 (designator (named_at 11 (codes "x")) no_selectors) no_expressions) no_factors) no_terms) relation.Equal (sum 13 None (term 13 (number 13 2) no_factors) no_terms)) (asserted 16 said.Assertion (related 16 (sum 16 None (term 16 (number 16 1) (more_factors Div (number 18 0) no_factors)) no_terms) relation.Equal (sum 20 None (term 20 (number 20 1) no_factors) no_terms)) (invoke 22 (designator (named_at 22 (codes "display")) no_selectors) (more_expressions (just 24 (number 24 1)) no_expressions)))) no_statements)) }); period = 27 }

-- begin "(* assert 1 div 0 = 1 *)" display(1) end.
abbrev pub assertion_with_error : Program
assertion_with_error =
    record { parts = []; routines = []; body = (record { at = 0; statements = (more_statements (asserted 2 said.Assertion (related 2 (sum 2 None (term 2 (number 2 1) (more_factors Div (number 4 0) no_factors)) no_terms) relation.Equal (sum 6 None (term 6 (number 6 1) no_factors) no_terms)) (invoke 8 (designator (named_at 8 (codes "display")) no_selectors) (more_expressions (just 10 (number 10 1)) no_expressions))) no_statements) }); period = 13 }

-- var x: integer; begin x := 0; "(* assert x = 0 *)" while x < 2 do x := x + 1; display(x) end.
abbrev pub assertion_before_loop : Program
assertion_before_loop =
    record { parts = ((program_variables 0 ((record { names = ((named_at 1 (codes "x")) ∷ []); variable_type = (simple 3 (type_name 3 (codes "integer"))) }) ∷ [])) ∷ []); routines = []; body = (record { at = 5; statements = (more_statements (assign 6 (designator (named_at 6 (codes "x")) no_selectors) (just 8 (number 8 0))) (more_statements (asserted 11 said.Assertion (related 11 (sum 11 None (term 11 (named 11 (designator (named_at 11 (codes "x")) no_selectors) no_expressions) no_factors) no_terms) relation.Equal (sum 13 None (term 13 (number 13 0) no_factors) no_terms)) (while_do 15 (related 16 (sum 16 None (term 16 (named 16 (designator (named_at 16 (codes "x")) no_selectors) no_expressions) no_factors) no_terms) relation.Less (sum 18 None (term 18 (number 18 2) no_factors) no_terms)) (assign 20 (designator (named_at 20 (codes "x")) no_selectors) (alone 22 (sum 22 None (term 22 (named 22 (designator (named_at 22 (codes "x")) no_selectors) no_expressions) no_factors) (more_terms Plus (term 24 (number 24 1) no_factors) no_terms)))))) (more_statements (invoke 26 (designator (named_at 26 (codes "display")) no_selectors) (more_expressions (just 28 (named 28 (designator (named_at 28 (codes "x")) no_selectors) no_expressions)) no_expressions)) no_statements))) }); period = 31 }

-- var x: integer; begin x := 1; if x = 2 then "(* assert x = 2 *)" display(2) else display(1); if x = 1 then "(* assert x = 2 *)" end.
abbrev pub assertion_in_branch : Program
assertion_in_branch =
    record { parts = ((program_variables 0 ((record { names = ((named_at 1 (codes "x")) ∷ []); variable_type = (simple 3 (type_name 3 (codes "integer"))) }) ∷ [])) ∷ []); routines = []; body = (record { at = 5; statements = (more_statements (assign 6 (designator (named_at 6 (codes "x")) no_selectors) (just 8 (number 8 1))) (more_statements (if_else 10 (related 11 (sum 11 None (term 11 (named 11 (designator (named_at 11 (codes "x")) no_selectors) no_expressions) no_factors) no_terms) relation.Equal (sum 13 None (term 13 (number 13 2) no_factors) no_terms)) (asserted 16 said.Assertion (related 16 (sum 16 None (term 16 (named 16 (designator (named_at 16 (codes "x")) no_selectors) no_expressions) no_factors) no_terms) relation.Equal (sum 18 None (term 18 (number 18 2) no_factors) no_terms)) (invoke 20 (designator (named_at 20 (codes "display")) no_selectors) (more_expressions (just 22 (number 22 2)) no_expressions))) (invoke 25 (designator (named_at 25 (codes "display")) no_selectors) (more_expressions (just 27 (number 27 1)) no_expressions))) (more_statements (if_then 30 (related 31 (sum 31 None (term 31 (named 31 (designator (named_at 31 (codes "x")) no_selectors) no_expressions) no_factors) no_terms) relation.Equal (sum 33 None (term 33 (number 33 1) no_factors) no_terms)) (asserted 36 said.Assertion (related 36 (sum 36 None (term 36 (named 36 (designator (named_at 36 (codes "x")) no_selectors) no_expressions) no_factors) no_terms) relation.Equal (sum 38 None (term 38 (number 38 2) no_factors) no_terms)) (empty 40))) no_statements))) }); period = 41 }

-- type m = monitor; var n: integer; "(* invariant n = 0 *)" begin n := 1; display(n) end; var x: m; begin init x; display(2) end.
abbrev pub end_of_initial : Program
end_of_initial =
    record { parts = ((program_types 0 ((record { name = (named_at 1 (codes "m")); value = (system_definition (record { at = 3; kind = system_kind.Monitor; parameters = []; has_semicolon = true; parts = ((variables 5 ((record { names = ((named_at 6 (codes "n")) ∷ []); variable_type = (simple 8 (type_name 8 (codes "integer"))) }) ∷ [])) ∷ []); routines = ((record { at = 10; is_entry = false; name = (named_at 10 nameless); kind = invariants; parts = []; body = (record { at = 11; statements = (more_statements (asserted 11 said.Invariant (related 11 (sum 11 None (term 11 (named 11 (designator (named_at 11 (codes "n")) no_selectors) no_expressions) no_factors) no_terms) relation.Equal (sum 13 None (term 13 (number 13 0) no_factors) no_terms)) (empty 15)) no_statements) }) }) ∷ []); body = (record { at = 15; statements = (more_statements (assign 16 (designator (named_at 16 (codes "n")) no_selectors) (just 18 (number 18 1))) (more_statements (invoke 20 (designator (named_at 20 (codes "display")) no_selectors) (more_expressions (just 22 (named 22 (designator (named_at 22 (codes "n")) no_selectors) no_expressions)) no_expressions)) no_statements)) }) })) }) ∷ [])) ∷ (program_variables 26 ((record { names = ((named_at 27 (codes "x")) ∷ []); variable_type = (simple 29 (type_name 29 (codes "m"))) }) ∷ [])) ∷ []); routines = []; body = (record { at = 31; statements = (more_statements (init 32 ((record { target = (designator (named_at 33 (codes "x")) no_selectors); arguments = no_expressions }) ∷ [])) (more_statements (invoke 35 (designator (named_at 35 (codes "display")) no_selectors) (more_expressions (just 37 (number 37 2)) no_expressions)) no_statements)) }); period = 40 }

-- type m = monitor; var n: integer; "(* invariant n = 0 *)" procedure p; begin n := 1 end; begin n := 2; p; n := 0 end; var x: m; begin init x; display(2) end.
abbrev pub within_initial : Program
within_initial =
    record { parts = ((program_types 0 ((record { name = (named_at 1 (codes "m")); value = (system_definition (record { at = 3; kind = system_kind.Monitor; parameters = []; has_semicolon = true; parts = ((variables 5 ((record { names = ((named_at 6 (codes "n")) ∷ []); variable_type = (simple 8 (type_name 8 (codes "integer"))) }) ∷ [])) ∷ []); routines = ((record { at = 10; is_entry = false; name = (named_at 10 nameless); kind = invariants; parts = []; body = (record { at = 11; statements = (more_statements (asserted 11 said.Invariant (related 11 (sum 11 None (term 11 (named 11 (designator (named_at 11 (codes "n")) no_selectors) no_expressions) no_factors) no_terms) relation.Equal (sum 13 None (term 13 (number 13 0) no_factors) no_terms)) (empty 15)) no_statements) }) }) ∷ (record { at = 15; is_entry = false; name = (named_at 16 (codes "p")); kind = (procedure []); parts = []; body = (record { at = 18; statements = (more_statements (assign 19 (designator (named_at 19 (codes "n")) no_selectors) (just 21 (number 21 1))) no_statements) }) }) ∷ []); body = (record { at = 24; statements = (more_statements (assign 25 (designator (named_at 25 (codes "n")) no_selectors) (just 27 (number 27 2))) (more_statements (invoke 29 (designator (named_at 29 (codes "p")) no_selectors) no_expressions) (more_statements (assign 31 (designator (named_at 31 (codes "n")) no_selectors) (just 33 (number 33 0))) no_statements))) }) })) }) ∷ [])) ∷ (program_variables 36 ((record { names = ((named_at 37 (codes "x")) ∷ []); variable_type = (simple 39 (type_name 39 (codes "m"))) }) ∷ [])) ∷ []); routines = []; body = (record { at = 41; statements = (more_statements (init 42 ((record { target = (designator (named_at 43 (codes "x")) no_selectors); arguments = no_expressions }) ∷ [])) (more_statements (invoke 45 (designator (named_at 45 (codes "display")) no_selectors) (more_expressions (just 47 (number 47 2)) no_expressions)) no_statements)) }); period = 50 }

-- type m = monitor; var n: integer; "(* invariant n < 2 *)" "(* invariant n = 0 *)" begin n := 1 end; var x: m; begin init x end.
abbrev pub second_invariant : Program
second_invariant =
    record { parts = ((program_types 0 ((record { name = (named_at 1 (codes "m")); value = (system_definition (record { at = 3; kind = system_kind.Monitor; parameters = []; has_semicolon = true; parts = ((variables 5 ((record { names = ((named_at 6 (codes "n")) ∷ []); variable_type = (simple 8 (type_name 8 (codes "integer"))) }) ∷ [])) ∷ []); routines = ((record { at = 10; is_entry = false; name = (named_at 10 nameless); kind = invariants; parts = []; body = (record { at = 11; statements = (more_statements (asserted 11 said.Invariant (related 11 (sum 11 None (term 11 (named 11 (designator (named_at 11 (codes "n")) no_selectors) no_expressions) no_factors) no_terms) relation.Less (sum 13 None (term 13 (number 13 2) no_factors) no_terms)) (asserted 16 said.Invariant (related 16 (sum 16 None (term 16 (named 16 (designator (named_at 16 (codes "n")) no_selectors) no_expressions) no_factors) no_terms) relation.Equal (sum 18 None (term 18 (number 18 0) no_factors) no_terms)) (empty 20))) no_statements) }) }) ∷ []); body = (record { at = 20; statements = (more_statements (assign 21 (designator (named_at 21 (codes "n")) no_selectors) (just 23 (number 23 1))) no_statements) }) })) }) ∷ [])) ∷ (program_variables 26 ((record { names = ((named_at 27 (codes "x")) ∷ []); variable_type = (simple 29 (type_name 29 (codes "m"))) }) ∷ [])) ∷ []); routines = []; body = (record { at = 31; statements = (more_statements (init 32 ((record { target = (designator (named_at 33 (codes "x")) no_selectors); arguments = no_expressions }) ∷ [])) no_statements) }); period = 35 }

-- type m = monitor; var n: integer; "(* invariant n = 0 *)" "(* invariant 1 div n = 2 *)" begin n := 1 end; var x: m; begin init x end.
abbrev pub first_invariant : Program
first_invariant =
    record { parts = ((program_types 0 ((record { name = (named_at 1 (codes "m")); value = (system_definition (record { at = 3; kind = system_kind.Monitor; parameters = []; has_semicolon = true; parts = ((variables 5 ((record { names = ((named_at 6 (codes "n")) ∷ []); variable_type = (simple 8 (type_name 8 (codes "integer"))) }) ∷ [])) ∷ []); routines = ((record { at = 10; is_entry = false; name = (named_at 10 nameless); kind = invariants; parts = []; body = (record { at = 11; statements = (more_statements (asserted 11 said.Invariant (related 11 (sum 11 None (term 11 (named 11 (designator (named_at 11 (codes "n")) no_selectors) no_expressions) no_factors) no_terms) relation.Equal (sum 13 None (term 13 (number 13 0) no_factors) no_terms)) (asserted 16 said.Invariant (related 16 (sum 16 None (term 16 (number 16 1) (more_factors Div (named 18 (designator (named_at 18 (codes "n")) no_selectors) no_expressions) no_factors)) no_terms) relation.Equal (sum 20 None (term 20 (number 20 2) no_factors) no_terms)) (empty 22))) no_statements) }) }) ∷ []); body = (record { at = 22; statements = (more_statements (assign 23 (designator (named_at 23 (codes "n")) no_selectors) (just 25 (number 25 1))) no_statements) }) })) }) ∷ [])) ∷ (program_variables 28 ((record { names = ((named_at 29 (codes "x")) ∷ []); variable_type = (simple 31 (type_name 31 (codes "m"))) }) ∷ [])) ∷ []); routines = []; body = (record { at = 33; statements = (more_statements (init 34 ((record { target = (designator (named_at 35 (codes "x")) no_selectors); arguments = no_expressions }) ∷ [])) no_statements) }); period = 37 }

-- type m = monitor; var n: integer; "(* invariant n < 2 *)" procedure entry e; begin n := n + 1; display(n) end; begin n := 0 end; var x: m; begin init x; x.e; x.e; display(3) end.
abbrev pub procedure_returns : Program
procedure_returns =
    record { parts = ((program_types 0 ((record { name = (named_at 1 (codes "m")); value = (system_definition (record { at = 3; kind = system_kind.Monitor; parameters = []; has_semicolon = true; parts = ((variables 5 ((record { names = ((named_at 6 (codes "n")) ∷ []); variable_type = (simple 8 (type_name 8 (codes "integer"))) }) ∷ [])) ∷ []); routines = ((record { at = 10; is_entry = false; name = (named_at 10 nameless); kind = invariants; parts = []; body = (record { at = 11; statements = (more_statements (asserted 11 said.Invariant (related 11 (sum 11 None (term 11 (named 11 (designator (named_at 11 (codes "n")) no_selectors) no_expressions) no_factors) no_terms) relation.Less (sum 13 None (term 13 (number 13 2) no_factors) no_terms)) (empty 15)) no_statements) }) }) ∷ (record { at = 15; is_entry = true; name = (named_at 17 (codes "e")); kind = (procedure []); parts = []; body = (record { at = 19; statements = (more_statements (assign 20 (designator (named_at 20 (codes "n")) no_selectors) (alone 22 (sum 22 None (term 22 (named 22 (designator (named_at 22 (codes "n")) no_selectors) no_expressions) no_factors) (more_terms Plus (term 24 (number 24 1) no_factors) no_terms)))) (more_statements (invoke 26 (designator (named_at 26 (codes "display")) no_selectors) (more_expressions (just 28 (named 28 (designator (named_at 28 (codes "n")) no_selectors) no_expressions)) no_expressions)) no_statements)) }) }) ∷ []); body = (record { at = 32; statements = (more_statements (assign 33 (designator (named_at 33 (codes "n")) no_selectors) (just 35 (number 35 0))) no_statements) }) })) }) ∷ [])) ∷ (program_variables 38 ((record { names = ((named_at 39 (codes "x")) ∷ []); variable_type = (simple 41 (type_name 41 (codes "m"))) }) ∷ [])) ∷ []); routines = []; body = (record { at = 43; statements = (more_statements (init 44 ((record { target = (designator (named_at 45 (codes "x")) no_selectors); arguments = no_expressions }) ∷ [])) (more_statements (invoke 47 (designator (named_at 47 (codes "x")) (more_selectors (field (named_at 49 (codes "e"))) no_selectors)) no_expressions) (more_statements (invoke 51 (designator (named_at 51 (codes "x")) (more_selectors (field (named_at 53 (codes "e"))) no_selectors)) no_expressions) (more_statements (invoke 55 (designator (named_at 55 (codes "display")) no_selectors) (more_expressions (just 57 (number 57 3)) no_expressions)) no_statements)))) }); period = 60 }

-- type c = class; var n: integer; "(* invariant n < 2 *)" function entry f: integer; begin n := n + 1; f := n end; begin n := 0 end; var x: c; begin init x; display(x.f); display(x.f) end.
abbrev pub function_returns : Program
function_returns =
    record { parts = ((program_types 0 ((record { name = (named_at 1 (codes "c")); value = (system_definition (record { at = 3; kind = system_kind.Class; parameters = []; has_semicolon = true; parts = ((variables 5 ((record { names = ((named_at 6 (codes "n")) ∷ []); variable_type = (simple 8 (type_name 8 (codes "integer"))) }) ∷ [])) ∷ []); routines = ((record { at = 10; is_entry = false; name = (named_at 10 nameless); kind = invariants; parts = []; body = (record { at = 11; statements = (more_statements (asserted 11 said.Invariant (related 11 (sum 11 None (term 11 (named 11 (designator (named_at 11 (codes "n")) no_selectors) no_expressions) no_factors) no_terms) relation.Less (sum 13 None (term 13 (number 13 2) no_factors) no_terms)) (empty 15)) no_statements) }) }) ∷ (record { at = 15; is_entry = true; name = (named_at 17 (codes "f")); kind = (function [] (named_at 19 (codes "integer"))); parts = []; body = (record { at = 21; statements = (more_statements (assign 22 (designator (named_at 22 (codes "n")) no_selectors) (alone 24 (sum 24 None (term 24 (named 24 (designator (named_at 24 (codes "n")) no_selectors) no_expressions) no_factors) (more_terms Plus (term 26 (number 26 1) no_factors) no_terms)))) (more_statements (assign 28 (designator (named_at 28 (codes "f")) no_selectors) (just 30 (named 30 (designator (named_at 30 (codes "n")) no_selectors) no_expressions))) no_statements)) }) }) ∷ []); body = (record { at = 33; statements = (more_statements (assign 34 (designator (named_at 34 (codes "n")) no_selectors) (just 36 (number 36 0))) no_statements) }) })) }) ∷ [])) ∷ (program_variables 39 ((record { names = ((named_at 40 (codes "x")) ∷ []); variable_type = (simple 42 (type_name 42 (codes "c"))) }) ∷ [])) ∷ []); routines = []; body = (record { at = 44; statements = (more_statements (init 45 ((record { target = (designator (named_at 46 (codes "x")) no_selectors); arguments = no_expressions }) ∷ [])) (more_statements (invoke 48 (designator (named_at 48 (codes "display")) no_selectors) (more_expressions (just 50 (named 50 (designator (named_at 50 (codes "x")) (more_selectors (field (named_at 52 (codes "f"))) no_selectors)) no_expressions)) no_expressions)) (more_statements (invoke 55 (designator (named_at 55 (codes "display")) no_selectors) (more_expressions (just 57 (named 57 (designator (named_at 57 (codes "x")) (more_selectors (field (named_at 59 (codes "f"))) no_selectors)) no_expressions)) no_expressions)) no_statements))) }); period = 62 }

-- type m = monitor; var n: integer; "(* invariant n = 0 *)" procedure p; begin n := 1 end; procedure entry e; begin p; n := 0 end; begin n := 0 end; var x: m; begin init x; x.e; display(1) end.
abbrev pub local_returns : Program
local_returns =
    record { parts = ((program_types 0 ((record { name = (named_at 1 (codes "m")); value = (system_definition (record { at = 3; kind = system_kind.Monitor; parameters = []; has_semicolon = true; parts = ((variables 5 ((record { names = ((named_at 6 (codes "n")) ∷ []); variable_type = (simple 8 (type_name 8 (codes "integer"))) }) ∷ [])) ∷ []); routines = ((record { at = 10; is_entry = false; name = (named_at 10 nameless); kind = invariants; parts = []; body = (record { at = 11; statements = (more_statements (asserted 11 said.Invariant (related 11 (sum 11 None (term 11 (named 11 (designator (named_at 11 (codes "n")) no_selectors) no_expressions) no_factors) no_terms) relation.Equal (sum 13 None (term 13 (number 13 0) no_factors) no_terms)) (empty 15)) no_statements) }) }) ∷ (record { at = 15; is_entry = false; name = (named_at 16 (codes "p")); kind = (procedure []); parts = []; body = (record { at = 18; statements = (more_statements (assign 19 (designator (named_at 19 (codes "n")) no_selectors) (just 21 (number 21 1))) no_statements) }) }) ∷ (record { at = 24; is_entry = true; name = (named_at 26 (codes "e")); kind = (procedure []); parts = []; body = (record { at = 28; statements = (more_statements (invoke 29 (designator (named_at 29 (codes "p")) no_selectors) no_expressions) (more_statements (assign 31 (designator (named_at 31 (codes "n")) no_selectors) (just 33 (number 33 0))) no_statements)) }) }) ∷ []); body = (record { at = 36; statements = (more_statements (assign 37 (designator (named_at 37 (codes "n")) no_selectors) (just 39 (number 39 0))) no_statements) }) })) }) ∷ [])) ∷ (program_variables 42 ((record { names = ((named_at 43 (codes "x")) ∷ []); variable_type = (simple 45 (type_name 45 (codes "m"))) }) ∷ [])) ∷ []); routines = []; body = (record { at = 47; statements = (more_statements (init 48 ((record { target = (designator (named_at 49 (codes "x")) no_selectors); arguments = no_expressions }) ∷ [])) (more_statements (invoke 51 (designator (named_at 51 (codes "x")) (more_selectors (field (named_at 53 (codes "e"))) no_selectors)) no_expressions) (more_statements (invoke 55 (designator (named_at 55 (codes "display")) no_selectors) (more_expressions (just 57 (number 57 1)) no_expressions)) no_statements))) }); period = 60 }

-- type m = monitor; var n: integer; "(* invariant n = 1 *)" procedure entry e(n: integer); begin display(n) end; begin n := 1 end; var x: m; begin init x; x.e(2) end.
abbrev pub local_name_hides : Program
local_name_hides =
    record { parts = ((program_types 0 ((record { name = (named_at 1 (codes "m")); value = (system_definition (record { at = 3; kind = system_kind.Monitor; parameters = []; has_semicolon = true; parts = ((variables 5 ((record { names = ((named_at 6 (codes "n")) ∷ []); variable_type = (simple 8 (type_name 8 (codes "integer"))) }) ∷ [])) ∷ []); routines = ((record { at = 10; is_entry = false; name = (named_at 10 nameless); kind = invariants; parts = []; body = (record { at = 11; statements = (more_statements (asserted 11 said.Invariant (related 11 (sum 11 None (term 11 (named 11 (designator (named_at 11 (codes "n")) no_selectors) no_expressions) no_factors) no_terms) relation.Equal (sum 13 None (term 13 (number 13 1) no_factors) no_terms)) (empty 15)) no_statements) }) }) ∷ (record { at = 15; is_entry = true; name = (named_at 17 (codes "e")); kind = (procedure ((record { at = 19; is_var = false; group = record { names = ((named_at 19 (codes "n")) ∷ []); type_name = (named_at 21 (codes "integer")) } }) ∷ [])); parts = []; body = (record { at = 24; statements = (more_statements (invoke 25 (designator (named_at 25 (codes "display")) no_selectors) (more_expressions (just 27 (named 27 (designator (named_at 27 (codes "n")) no_selectors) no_expressions)) no_expressions)) no_statements) }) }) ∷ []); body = (record { at = 31; statements = (more_statements (assign 32 (designator (named_at 32 (codes "n")) no_selectors) (just 34 (number 34 1))) no_statements) }) })) }) ∷ [])) ∷ (program_variables 37 ((record { names = ((named_at 38 (codes "x")) ∷ []); variable_type = (simple 40 (type_name 40 (codes "m"))) }) ∷ [])) ∷ []); routines = []; body = (record { at = 42; statements = (more_statements (init 43 ((record { target = (designator (named_at 44 (codes "x")) no_selectors); arguments = no_expressions }) ∷ [])) (more_statements (invoke 46 (designator (named_at 46 (codes "x")) (more_selectors (field (named_at 48 (codes "e"))) no_selectors)) (more_expressions (just 50 (number 50 2)) no_expressions)) no_statements)) }); period = 53 }

-- type m = monitor; var n: integer; "(* invariant n = 0 *)" procedure delay; begin display(n) end; procedure entry e; begin n := 1; delay; n := 0 end; begin n := 0 end; var x: m; begin init x; x.e end.
abbrev pub own_delay : Program
own_delay =
    record { parts = ((program_types 0 ((record { name = (named_at 1 (codes "m")); value = (system_definition (record { at = 3; kind = system_kind.Monitor; parameters = []; has_semicolon = true; parts = ((variables 5 ((record { names = ((named_at 6 (codes "n")) ∷ []); variable_type = (simple 8 (type_name 8 (codes "integer"))) }) ∷ [])) ∷ []); routines = ((record { at = 10; is_entry = false; name = (named_at 10 nameless); kind = invariants; parts = []; body = (record { at = 11; statements = (more_statements (asserted 11 said.Invariant (related 11 (sum 11 None (term 11 (named 11 (designator (named_at 11 (codes "n")) no_selectors) no_expressions) no_factors) no_terms) relation.Equal (sum 13 None (term 13 (number 13 0) no_factors) no_terms)) (empty 15)) no_statements) }) }) ∷ (record { at = 15; is_entry = false; name = (named_at 16 (codes "delay")); kind = (procedure []); parts = []; body = (record { at = 18; statements = (more_statements (invoke 19 (designator (named_at 19 (codes "display")) no_selectors) (more_expressions (just 21 (named 21 (designator (named_at 21 (codes "n")) no_selectors) no_expressions)) no_expressions)) no_statements) }) }) ∷ (record { at = 25; is_entry = true; name = (named_at 27 (codes "e")); kind = (procedure []); parts = []; body = (record { at = 29; statements = (more_statements (assign 30 (designator (named_at 30 (codes "n")) no_selectors) (just 32 (number 32 1))) (more_statements (invoke 34 (designator (named_at 34 (codes "delay")) no_selectors) no_expressions) (more_statements (assign 36 (designator (named_at 36 (codes "n")) no_selectors) (just 38 (number 38 0))) no_statements))) }) }) ∷ []); body = (record { at = 41; statements = (more_statements (assign 42 (designator (named_at 42 (codes "n")) no_selectors) (just 44 (number 44 0))) no_statements) }) })) }) ∷ [])) ∷ (program_variables 47 ((record { names = ((named_at 48 (codes "x")) ∷ []); variable_type = (simple 50 (type_name 50 (codes "m"))) }) ∷ [])) ∷ []); routines = []; body = (record { at = 52; statements = (more_statements (init 53 ((record { target = (designator (named_at 54 (codes "x")) no_selectors); arguments = no_expressions }) ∷ [])) (more_statements (invoke 56 (designator (named_at 56 (codes "x")) (more_selectors (field (named_at 58 (codes "e"))) no_selectors)) no_expressions) no_statements)) }); period = 60 }

-- type m = monitor; var q: queue; n: integer; "(* invariant n = 0 *)" procedure entry hold; begin n := 1; delay(q) end; procedure entry go; begin n := 0 end; begin n := 0 end; a = process(x: m); begin x.hold end; b = process(x: m); begin x.go end; var x: m; r: a; s: b; begin init x, r(x), s(x) end.
abbrev pub before_delay : Program
before_delay =
    record { parts = ((program_types 0 ((record { name = (named_at 1 (codes "m")); value = (system_definition (record { at = 3; kind = system_kind.Monitor; parameters = []; has_semicolon = true; parts = ((variables 5 ((record { names = ((named_at 6 (codes "q")) ∷ []); variable_type = (simple 8 (type_name 8 (codes "queue"))) }) ∷ (record { names = ((named_at 10 (codes "n")) ∷ []); variable_type = (simple 12 (type_name 12 (codes "integer"))) }) ∷ [])) ∷ []); routines = ((record { at = 14; is_entry = false; name = (named_at 14 nameless); kind = invariants; parts = []; body = (record { at = 15; statements = (more_statements (asserted 15 said.Invariant (related 15 (sum 15 None (term 15 (named 15 (designator (named_at 15 (codes "n")) no_selectors) no_expressions) no_factors) no_terms) relation.Equal (sum 17 None (term 17 (number 17 0) no_factors) no_terms)) (empty 19)) no_statements) }) }) ∷ (record { at = 19; is_entry = true; name = (named_at 21 (codes "hold")); kind = (procedure []); parts = []; body = (record { at = 23; statements = (more_statements (assign 24 (designator (named_at 24 (codes "n")) no_selectors) (just 26 (number 26 1))) (more_statements (invoke 28 (designator (named_at 28 (codes "delay")) no_selectors) (more_expressions (just 30 (named 30 (designator (named_at 30 (codes "q")) no_selectors) no_expressions)) no_expressions)) no_statements)) }) }) ∷ (record { at = 34; is_entry = true; name = (named_at 36 (codes "go")); kind = (procedure []); parts = []; body = (record { at = 38; statements = (more_statements (assign 39 (designator (named_at 39 (codes "n")) no_selectors) (just 41 (number 41 0))) no_statements) }) }) ∷ []); body = (record { at = 44; statements = (more_statements (assign 45 (designator (named_at 45 (codes "n")) no_selectors) (just 47 (number 47 0))) no_statements) }) })) }) ∷ (record { name = (named_at 50 (codes "a")); value = (system_definition (record { at = 52; kind = system_kind.Process; parameters = ((record { names = ((named_at 54 (codes "x")) ∷ []); type_name = (named_at 56 (codes "m")) }) ∷ []); has_semicolon = true; parts = []; routines = []; body = (record { at = 59; statements = (more_statements (invoke 60 (designator (named_at 60 (codes "x")) (more_selectors (field (named_at 62 (codes "hold"))) no_selectors)) no_expressions) no_statements) }) })) }) ∷ (record { name = (named_at 65 (codes "b")); value = (system_definition (record { at = 67; kind = system_kind.Process; parameters = ((record { names = ((named_at 69 (codes "x")) ∷ []); type_name = (named_at 71 (codes "m")) }) ∷ []); has_semicolon = true; parts = []; routines = []; body = (record { at = 74; statements = (more_statements (invoke 75 (designator (named_at 75 (codes "x")) (more_selectors (field (named_at 77 (codes "go"))) no_selectors)) no_expressions) no_statements) }) })) }) ∷ [])) ∷ (program_variables 80 ((record { names = ((named_at 81 (codes "x")) ∷ []); variable_type = (simple 83 (type_name 83 (codes "m"))) }) ∷ (record { names = ((named_at 85 (codes "r")) ∷ []); variable_type = (simple 87 (type_name 87 (codes "a"))) }) ∷ (record { names = ((named_at 89 (codes "s")) ∷ []); variable_type = (simple 91 (type_name 91 (codes "b"))) }) ∷ [])) ∷ []); routines = []; body = (record { at = 93; statements = (more_statements (init 94 ((record { target = (designator (named_at 95 (codes "x")) no_selectors); arguments = no_expressions }) ∷ (record { target = (designator (named_at 97 (codes "r")) no_selectors); arguments = (more_expressions (just 99 (named 99 (designator (named_at 99 (codes "x")) no_selectors) no_expressions)) no_expressions) }) ∷ (record { target = (designator (named_at 102 (codes "s")) no_selectors); arguments = (more_expressions (just 104 (named 104 (designator (named_at 104 (codes "x")) no_selectors) no_expressions)) no_expressions) }) ∷ [])) no_statements) }); period = 107 }

-- type m = monitor; var q: queue; n: integer; "(* invariant n = 0 *)" procedure p; begin delay(q) end; procedure entry hold; begin n := 1; p end; procedure entry go; begin n := 0 end; begin n := 0 end; a = process(x: m); begin x.hold end; b = process(x: m); begin x.go end; var x: m; r: a; s: b; begin init x, r(x), s(x) end.
abbrev pub delay_in_local : Program
delay_in_local =
    record { parts = ((program_types 0 ((record { name = (named_at 1 (codes "m")); value = (system_definition (record { at = 3; kind = system_kind.Monitor; parameters = []; has_semicolon = true; parts = ((variables 5 ((record { names = ((named_at 6 (codes "q")) ∷ []); variable_type = (simple 8 (type_name 8 (codes "queue"))) }) ∷ (record { names = ((named_at 10 (codes "n")) ∷ []); variable_type = (simple 12 (type_name 12 (codes "integer"))) }) ∷ [])) ∷ []); routines = ((record { at = 14; is_entry = false; name = (named_at 14 nameless); kind = invariants; parts = []; body = (record { at = 15; statements = (more_statements (asserted 15 said.Invariant (related 15 (sum 15 None (term 15 (named 15 (designator (named_at 15 (codes "n")) no_selectors) no_expressions) no_factors) no_terms) relation.Equal (sum 17 None (term 17 (number 17 0) no_factors) no_terms)) (empty 19)) no_statements) }) }) ∷ (record { at = 19; is_entry = false; name = (named_at 20 (codes "p")); kind = (procedure []); parts = []; body = (record { at = 22; statements = (more_statements (invoke 23 (designator (named_at 23 (codes "delay")) no_selectors) (more_expressions (just 25 (named 25 (designator (named_at 25 (codes "q")) no_selectors) no_expressions)) no_expressions)) no_statements) }) }) ∷ (record { at = 29; is_entry = true; name = (named_at 31 (codes "hold")); kind = (procedure []); parts = []; body = (record { at = 33; statements = (more_statements (assign 34 (designator (named_at 34 (codes "n")) no_selectors) (just 36 (number 36 1))) (more_statements (invoke 38 (designator (named_at 38 (codes "p")) no_selectors) no_expressions) no_statements)) }) }) ∷ (record { at = 41; is_entry = true; name = (named_at 43 (codes "go")); kind = (procedure []); parts = []; body = (record { at = 45; statements = (more_statements (assign 46 (designator (named_at 46 (codes "n")) no_selectors) (just 48 (number 48 0))) no_statements) }) }) ∷ []); body = (record { at = 51; statements = (more_statements (assign 52 (designator (named_at 52 (codes "n")) no_selectors) (just 54 (number 54 0))) no_statements) }) })) }) ∷ (record { name = (named_at 57 (codes "a")); value = (system_definition (record { at = 59; kind = system_kind.Process; parameters = ((record { names = ((named_at 61 (codes "x")) ∷ []); type_name = (named_at 63 (codes "m")) }) ∷ []); has_semicolon = true; parts = []; routines = []; body = (record { at = 66; statements = (more_statements (invoke 67 (designator (named_at 67 (codes "x")) (more_selectors (field (named_at 69 (codes "hold"))) no_selectors)) no_expressions) no_statements) }) })) }) ∷ (record { name = (named_at 72 (codes "b")); value = (system_definition (record { at = 74; kind = system_kind.Process; parameters = ((record { names = ((named_at 76 (codes "x")) ∷ []); type_name = (named_at 78 (codes "m")) }) ∷ []); has_semicolon = true; parts = []; routines = []; body = (record { at = 81; statements = (more_statements (invoke 82 (designator (named_at 82 (codes "x")) (more_selectors (field (named_at 84 (codes "go"))) no_selectors)) no_expressions) no_statements) }) })) }) ∷ [])) ∷ (program_variables 87 ((record { names = ((named_at 88 (codes "x")) ∷ []); variable_type = (simple 90 (type_name 90 (codes "m"))) }) ∷ (record { names = ((named_at 92 (codes "r")) ∷ []); variable_type = (simple 94 (type_name 94 (codes "a"))) }) ∷ (record { names = ((named_at 96 (codes "s")) ∷ []); variable_type = (simple 98 (type_name 98 (codes "b"))) }) ∷ [])) ∷ []); routines = []; body = (record { at = 100; statements = (more_statements (init 101 ((record { target = (designator (named_at 102 (codes "x")) no_selectors); arguments = no_expressions }) ∷ (record { target = (designator (named_at 104 (codes "r")) no_selectors); arguments = (more_expressions (just 106 (named 106 (designator (named_at 106 (codes "x")) no_selectors) no_expressions)) no_expressions) }) ∷ (record { target = (designator (named_at 109 (codes "s")) no_selectors); arguments = (more_expressions (just 111 (named 111 (designator (named_at 111 (codes "x")) no_selectors) no_expressions)) no_expressions) }) ∷ [])) no_statements) }); period = 114 }

-- type m = monitor; var q: queue; n: integer; "(* invariant n = 0 *)" procedure entry hold; begin n := 0; delay(q); display(n); n := 0 end; procedure entry go; begin n := 1; continue(q) end; begin n := 0 end; a = process(x: m); begin x.hold end; b = process(x: m); begin x.go end; var x: m; r: a; s: b; begin init x, r(x), s(x) end.
abbrev pub before_continue : Program
before_continue =
    record { parts = ((program_types 0 ((record { name = (named_at 1 (codes "m")); value = (system_definition (record { at = 3; kind = system_kind.Monitor; parameters = []; has_semicolon = true; parts = ((variables 5 ((record { names = ((named_at 6 (codes "q")) ∷ []); variable_type = (simple 8 (type_name 8 (codes "queue"))) }) ∷ (record { names = ((named_at 10 (codes "n")) ∷ []); variable_type = (simple 12 (type_name 12 (codes "integer"))) }) ∷ [])) ∷ []); routines = ((record { at = 14; is_entry = false; name = (named_at 14 nameless); kind = invariants; parts = []; body = (record { at = 15; statements = (more_statements (asserted 15 said.Invariant (related 15 (sum 15 None (term 15 (named 15 (designator (named_at 15 (codes "n")) no_selectors) no_expressions) no_factors) no_terms) relation.Equal (sum 17 None (term 17 (number 17 0) no_factors) no_terms)) (empty 19)) no_statements) }) }) ∷ (record { at = 19; is_entry = true; name = (named_at 21 (codes "hold")); kind = (procedure []); parts = []; body = (record { at = 23; statements = (more_statements (assign 24 (designator (named_at 24 (codes "n")) no_selectors) (just 26 (number 26 0))) (more_statements (invoke 28 (designator (named_at 28 (codes "delay")) no_selectors) (more_expressions (just 30 (named 30 (designator (named_at 30 (codes "q")) no_selectors) no_expressions)) no_expressions)) (more_statements (invoke 33 (designator (named_at 33 (codes "display")) no_selectors) (more_expressions (just 35 (named 35 (designator (named_at 35 (codes "n")) no_selectors) no_expressions)) no_expressions)) (more_statements (assign 38 (designator (named_at 38 (codes "n")) no_selectors) (just 40 (number 40 0))) no_statements)))) }) }) ∷ (record { at = 43; is_entry = true; name = (named_at 45 (codes "go")); kind = (procedure []); parts = []; body = (record { at = 47; statements = (more_statements (assign 48 (designator (named_at 48 (codes "n")) no_selectors) (just 50 (number 50 1))) (more_statements (invoke 52 (designator (named_at 52 (codes "continue")) no_selectors) (more_expressions (just 54 (named 54 (designator (named_at 54 (codes "q")) no_selectors) no_expressions)) no_expressions)) no_statements)) }) }) ∷ []); body = (record { at = 58; statements = (more_statements (assign 59 (designator (named_at 59 (codes "n")) no_selectors) (just 61 (number 61 0))) no_statements) }) })) }) ∷ (record { name = (named_at 64 (codes "a")); value = (system_definition (record { at = 66; kind = system_kind.Process; parameters = ((record { names = ((named_at 68 (codes "x")) ∷ []); type_name = (named_at 70 (codes "m")) }) ∷ []); has_semicolon = true; parts = []; routines = []; body = (record { at = 73; statements = (more_statements (invoke 74 (designator (named_at 74 (codes "x")) (more_selectors (field (named_at 76 (codes "hold"))) no_selectors)) no_expressions) no_statements) }) })) }) ∷ (record { name = (named_at 79 (codes "b")); value = (system_definition (record { at = 81; kind = system_kind.Process; parameters = ((record { names = ((named_at 83 (codes "x")) ∷ []); type_name = (named_at 85 (codes "m")) }) ∷ []); has_semicolon = true; parts = []; routines = []; body = (record { at = 88; statements = (more_statements (invoke 89 (designator (named_at 89 (codes "x")) (more_selectors (field (named_at 91 (codes "go"))) no_selectors)) no_expressions) no_statements) }) })) }) ∷ [])) ∷ (program_variables 94 ((record { names = ((named_at 95 (codes "x")) ∷ []); variable_type = (simple 97 (type_name 97 (codes "m"))) }) ∷ (record { names = ((named_at 99 (codes "r")) ∷ []); variable_type = (simple 101 (type_name 101 (codes "a"))) }) ∷ (record { names = ((named_at 103 (codes "s")) ∷ []); variable_type = (simple 105 (type_name 105 (codes "b"))) }) ∷ [])) ∷ []); routines = []; body = (record { at = 107; statements = (more_statements (init 108 ((record { target = (designator (named_at 109 (codes "x")) no_selectors); arguments = no_expressions }) ∷ (record { target = (designator (named_at 111 (codes "r")) no_selectors); arguments = (more_expressions (just 113 (named 113 (designator (named_at 113 (codes "x")) no_selectors) no_expressions)) no_expressions) }) ∷ (record { target = (designator (named_at 116 (codes "s")) no_selectors); arguments = (more_expressions (just 118 (named 118 (designator (named_at 118 (codes "x")) no_selectors) no_expressions)) no_expressions) }) ∷ [])) no_statements) }); period = 121 }

-- type m = monitor; var q: queue; n: integer; "(* invariant empty(q) *)" procedure entry hold; begin delay(q) end; procedure entry go; begin continue(q) end; begin n := 0 end; a = process(x: m); begin x.hold end; b = process(x: m); begin x.go end; var x: m; r: a; s: b; begin init x, r(x), s(x) end.
abbrev pub queue_before : Program
queue_before =
    record { parts = ((program_types 0 ((record { name = (named_at 1 (codes "m")); value = (system_definition (record { at = 3; kind = system_kind.Monitor; parameters = []; has_semicolon = true; parts = ((variables 5 ((record { names = ((named_at 6 (codes "q")) ∷ []); variable_type = (simple 8 (type_name 8 (codes "queue"))) }) ∷ (record { names = ((named_at 10 (codes "n")) ∷ []); variable_type = (simple 12 (type_name 12 (codes "integer"))) }) ∷ [])) ∷ []); routines = ((record { at = 14; is_entry = false; name = (named_at 14 nameless); kind = invariants; parts = []; body = (record { at = 15; statements = (more_statements (asserted 15 said.Invariant (just 15 (named 15 (designator (named_at 15 (codes "empty")) no_selectors) (more_expressions (just 17 (named 17 (designator (named_at 17 (codes "q")) no_selectors) no_expressions)) no_expressions))) (empty 20)) no_statements) }) }) ∷ (record { at = 20; is_entry = true; name = (named_at 22 (codes "hold")); kind = (procedure []); parts = []; body = (record { at = 24; statements = (more_statements (invoke 25 (designator (named_at 25 (codes "delay")) no_selectors) (more_expressions (just 27 (named 27 (designator (named_at 27 (codes "q")) no_selectors) no_expressions)) no_expressions)) no_statements) }) }) ∷ (record { at = 31; is_entry = true; name = (named_at 33 (codes "go")); kind = (procedure []); parts = []; body = (record { at = 35; statements = (more_statements (invoke 36 (designator (named_at 36 (codes "continue")) no_selectors) (more_expressions (just 38 (named 38 (designator (named_at 38 (codes "q")) no_selectors) no_expressions)) no_expressions)) no_statements) }) }) ∷ []); body = (record { at = 42; statements = (more_statements (assign 43 (designator (named_at 43 (codes "n")) no_selectors) (just 45 (number 45 0))) no_statements) }) })) }) ∷ (record { name = (named_at 48 (codes "a")); value = (system_definition (record { at = 50; kind = system_kind.Process; parameters = ((record { names = ((named_at 52 (codes "x")) ∷ []); type_name = (named_at 54 (codes "m")) }) ∷ []); has_semicolon = true; parts = []; routines = []; body = (record { at = 57; statements = (more_statements (invoke 58 (designator (named_at 58 (codes "x")) (more_selectors (field (named_at 60 (codes "hold"))) no_selectors)) no_expressions) no_statements) }) })) }) ∷ (record { name = (named_at 63 (codes "b")); value = (system_definition (record { at = 65; kind = system_kind.Process; parameters = ((record { names = ((named_at 67 (codes "x")) ∷ []); type_name = (named_at 69 (codes "m")) }) ∷ []); has_semicolon = true; parts = []; routines = []; body = (record { at = 72; statements = (more_statements (invoke 73 (designator (named_at 73 (codes "x")) (more_selectors (field (named_at 75 (codes "go"))) no_selectors)) no_expressions) no_statements) }) })) }) ∷ [])) ∷ (program_variables 78 ((record { names = ((named_at 79 (codes "x")) ∷ []); variable_type = (simple 81 (type_name 81 (codes "m"))) }) ∷ (record { names = ((named_at 83 (codes "r")) ∷ []); variable_type = (simple 85 (type_name 85 (codes "a"))) }) ∷ (record { names = ((named_at 87 (codes "s")) ∷ []); variable_type = (simple 89 (type_name 89 (codes "b"))) }) ∷ [])) ∷ []); routines = []; body = (record { at = 91; statements = (more_statements (init 92 ((record { target = (designator (named_at 93 (codes "x")) no_selectors); arguments = no_expressions }) ∷ (record { target = (designator (named_at 95 (codes "r")) no_selectors); arguments = (more_expressions (just 97 (named 97 (designator (named_at 97 (codes "x")) no_selectors) no_expressions)) no_expressions) }) ∷ (record { target = (designator (named_at 100 (codes "s")) no_selectors); arguments = (more_expressions (just 102 (named 102 (designator (named_at 102 (codes "x")) no_selectors) no_expressions)) no_expressions) }) ∷ [])) no_statements) }); period = 105 }

-- type m = monitor; var q: queue; n: integer; "(* invariant n = 0 *)" procedure entry hold; begin delay(q); n := 2 end; procedure entry go; begin continue(q) end; begin n := 0 end; a = process(x: m); begin x.hold end; b = process(x: m); begin x.go end; var x: m; r: a; s: b; begin init x, r(x), s(x) end.
abbrev pub resumed_returns : Program
resumed_returns =
    record { parts = ((program_types 0 ((record { name = (named_at 1 (codes "m")); value = (system_definition (record { at = 3; kind = system_kind.Monitor; parameters = []; has_semicolon = true; parts = ((variables 5 ((record { names = ((named_at 6 (codes "q")) ∷ []); variable_type = (simple 8 (type_name 8 (codes "queue"))) }) ∷ (record { names = ((named_at 10 (codes "n")) ∷ []); variable_type = (simple 12 (type_name 12 (codes "integer"))) }) ∷ [])) ∷ []); routines = ((record { at = 14; is_entry = false; name = (named_at 14 nameless); kind = invariants; parts = []; body = (record { at = 15; statements = (more_statements (asserted 15 said.Invariant (related 15 (sum 15 None (term 15 (named 15 (designator (named_at 15 (codes "n")) no_selectors) no_expressions) no_factors) no_terms) relation.Equal (sum 17 None (term 17 (number 17 0) no_factors) no_terms)) (empty 19)) no_statements) }) }) ∷ (record { at = 19; is_entry = true; name = (named_at 21 (codes "hold")); kind = (procedure []); parts = []; body = (record { at = 23; statements = (more_statements (invoke 24 (designator (named_at 24 (codes "delay")) no_selectors) (more_expressions (just 26 (named 26 (designator (named_at 26 (codes "q")) no_selectors) no_expressions)) no_expressions)) (more_statements (assign 29 (designator (named_at 29 (codes "n")) no_selectors) (just 31 (number 31 2))) no_statements)) }) }) ∷ (record { at = 34; is_entry = true; name = (named_at 36 (codes "go")); kind = (procedure []); parts = []; body = (record { at = 38; statements = (more_statements (invoke 39 (designator (named_at 39 (codes "continue")) no_selectors) (more_expressions (just 41 (named 41 (designator (named_at 41 (codes "q")) no_selectors) no_expressions)) no_expressions)) no_statements) }) }) ∷ []); body = (record { at = 45; statements = (more_statements (assign 46 (designator (named_at 46 (codes "n")) no_selectors) (just 48 (number 48 0))) no_statements) }) })) }) ∷ (record { name = (named_at 51 (codes "a")); value = (system_definition (record { at = 53; kind = system_kind.Process; parameters = ((record { names = ((named_at 55 (codes "x")) ∷ []); type_name = (named_at 57 (codes "m")) }) ∷ []); has_semicolon = true; parts = []; routines = []; body = (record { at = 60; statements = (more_statements (invoke 61 (designator (named_at 61 (codes "x")) (more_selectors (field (named_at 63 (codes "hold"))) no_selectors)) no_expressions) no_statements) }) })) }) ∷ (record { name = (named_at 66 (codes "b")); value = (system_definition (record { at = 68; kind = system_kind.Process; parameters = ((record { names = ((named_at 70 (codes "x")) ∷ []); type_name = (named_at 72 (codes "m")) }) ∷ []); has_semicolon = true; parts = []; routines = []; body = (record { at = 75; statements = (more_statements (invoke 76 (designator (named_at 76 (codes "x")) (more_selectors (field (named_at 78 (codes "go"))) no_selectors)) no_expressions) no_statements) }) })) }) ∷ [])) ∷ (program_variables 81 ((record { names = ((named_at 82 (codes "x")) ∷ []); variable_type = (simple 84 (type_name 84 (codes "m"))) }) ∷ (record { names = ((named_at 86 (codes "r")) ∷ []); variable_type = (simple 88 (type_name 88 (codes "a"))) }) ∷ (record { names = ((named_at 90 (codes "s")) ∷ []); variable_type = (simple 92 (type_name 92 (codes "b"))) }) ∷ [])) ∷ []); routines = []; body = (record { at = 94; statements = (more_statements (init 95 ((record { target = (designator (named_at 96 (codes "x")) no_selectors); arguments = no_expressions }) ∷ (record { target = (designator (named_at 98 (codes "r")) no_selectors); arguments = (more_expressions (just 100 (named 100 (designator (named_at 100 (codes "x")) no_selectors) no_expressions)) no_expressions) }) ∷ (record { target = (designator (named_at 103 (codes "s")) no_selectors); arguments = (more_expressions (just 105 (named 105 (designator (named_at 105 (codes "x")) no_selectors) no_expressions)) no_expressions) }) ∷ [])) no_statements) }); period = 108 }

-- type m = monitor; var q: queue; n: integer; "(* invariant n = 0 *)" procedure entry hold; begin delay(q) end; procedure entry go; begin continue(q); n := 1 end; begin n := 0 end; a = process(x: m); begin x.hold end; b = process(x: m); begin x.go end; var x: m; r: a; s: b; begin init x, r(x), s(x) end.
abbrev pub goes_on_and_returns : Program
goes_on_and_returns =
    record { parts = ((program_types 0 ((record { name = (named_at 1 (codes "m")); value = (system_definition (record { at = 3; kind = system_kind.Monitor; parameters = []; has_semicolon = true; parts = ((variables 5 ((record { names = ((named_at 6 (codes "q")) ∷ []); variable_type = (simple 8 (type_name 8 (codes "queue"))) }) ∷ (record { names = ((named_at 10 (codes "n")) ∷ []); variable_type = (simple 12 (type_name 12 (codes "integer"))) }) ∷ [])) ∷ []); routines = ((record { at = 14; is_entry = false; name = (named_at 14 nameless); kind = invariants; parts = []; body = (record { at = 15; statements = (more_statements (asserted 15 said.Invariant (related 15 (sum 15 None (term 15 (named 15 (designator (named_at 15 (codes "n")) no_selectors) no_expressions) no_factors) no_terms) relation.Equal (sum 17 None (term 17 (number 17 0) no_factors) no_terms)) (empty 19)) no_statements) }) }) ∷ (record { at = 19; is_entry = true; name = (named_at 21 (codes "hold")); kind = (procedure []); parts = []; body = (record { at = 23; statements = (more_statements (invoke 24 (designator (named_at 24 (codes "delay")) no_selectors) (more_expressions (just 26 (named 26 (designator (named_at 26 (codes "q")) no_selectors) no_expressions)) no_expressions)) no_statements) }) }) ∷ (record { at = 30; is_entry = true; name = (named_at 32 (codes "go")); kind = (procedure []); parts = []; body = (record { at = 34; statements = (more_statements (invoke 35 (designator (named_at 35 (codes "continue")) no_selectors) (more_expressions (just 37 (named 37 (designator (named_at 37 (codes "q")) no_selectors) no_expressions)) no_expressions)) (more_statements (assign 40 (designator (named_at 40 (codes "n")) no_selectors) (just 42 (number 42 1))) no_statements)) }) }) ∷ []); body = (record { at = 45; statements = (more_statements (assign 46 (designator (named_at 46 (codes "n")) no_selectors) (just 48 (number 48 0))) no_statements) }) })) }) ∷ (record { name = (named_at 51 (codes "a")); value = (system_definition (record { at = 53; kind = system_kind.Process; parameters = ((record { names = ((named_at 55 (codes "x")) ∷ []); type_name = (named_at 57 (codes "m")) }) ∷ []); has_semicolon = true; parts = []; routines = []; body = (record { at = 60; statements = (more_statements (invoke 61 (designator (named_at 61 (codes "x")) (more_selectors (field (named_at 63 (codes "hold"))) no_selectors)) no_expressions) no_statements) }) })) }) ∷ (record { name = (named_at 66 (codes "b")); value = (system_definition (record { at = 68; kind = system_kind.Process; parameters = ((record { names = ((named_at 70 (codes "x")) ∷ []); type_name = (named_at 72 (codes "m")) }) ∷ []); has_semicolon = true; parts = []; routines = []; body = (record { at = 75; statements = (more_statements (invoke 76 (designator (named_at 76 (codes "x")) (more_selectors (field (named_at 78 (codes "go"))) no_selectors)) no_expressions) no_statements) }) })) }) ∷ [])) ∷ (program_variables 81 ((record { names = ((named_at 82 (codes "x")) ∷ []); variable_type = (simple 84 (type_name 84 (codes "m"))) }) ∷ (record { names = ((named_at 86 (codes "r")) ∷ []); variable_type = (simple 88 (type_name 88 (codes "a"))) }) ∷ (record { names = ((named_at 90 (codes "s")) ∷ []); variable_type = (simple 92 (type_name 92 (codes "b"))) }) ∷ [])) ∷ []); routines = []; body = (record { at = 94; statements = (more_statements (init 95 ((record { target = (designator (named_at 96 (codes "x")) no_selectors); arguments = no_expressions }) ∷ (record { target = (designator (named_at 98 (codes "r")) no_selectors); arguments = (more_expressions (just 100 (named 100 (designator (named_at 100 (codes "x")) no_selectors) no_expressions)) no_expressions) }) ∷ (record { target = (designator (named_at 103 (codes "s")) no_selectors); arguments = (more_expressions (just 105 (named 105 (designator (named_at 105 (codes "x")) no_selectors) no_expressions)) no_expressions) }) ∷ [])) no_statements) }); period = 108 }

-- type m = monitor; var q: array [1..2] of queue; n: integer; "(* invariant n = 0 *)" function f(i: integer): integer; begin n := 0; f := i end; procedure entry hold; begin n := 1; delay(q[f(1)]) end; begin n := 0 end; a = process(x: m); begin x.hold end; var x: m; r: a; begin init x, r(x) end.
abbrev pub calls_before_check : Program
calls_before_check =
    record { parts = ((program_types 0 ((record { name = (named_at 1 (codes "m")); value = (system_definition (record { at = 3; kind = system_kind.Monitor; parameters = []; has_semicolon = true; parts = ((variables 5 ((record { names = ((named_at 6 (codes "q")) ∷ []); variable_type = (array_of 8 (subrange 10 (record { at = 10; kind = constant_kind.Number None 1 }) (record { at = 12; kind = constant_kind.Number None 2 })) (simple 15 (type_name 15 (codes "queue")))) }) ∷ (record { names = ((named_at 17 (codes "n")) ∷ []); variable_type = (simple 19 (type_name 19 (codes "integer"))) }) ∷ [])) ∷ []); routines = ((record { at = 21; is_entry = false; name = (named_at 21 nameless); kind = invariants; parts = []; body = (record { at = 22; statements = (more_statements (asserted 22 said.Invariant (related 22 (sum 22 None (term 22 (named 22 (designator (named_at 22 (codes "n")) no_selectors) no_expressions) no_factors) no_terms) relation.Equal (sum 24 None (term 24 (number 24 0) no_factors) no_terms)) (empty 26)) no_statements) }) }) ∷ (record { at = 26; is_entry = false; name = (named_at 27 (codes "f")); kind = (function ((record { names = ((named_at 29 (codes "i")) ∷ []); type_name = (named_at 31 (codes "integer")) }) ∷ []) (named_at 34 (codes "integer"))); parts = []; body = (record { at = 36; statements = (more_statements (assign 37 (designator (named_at 37 (codes "n")) no_selectors) (just 39 (number 39 0))) (more_statements (assign 41 (designator (named_at 41 (codes "f")) no_selectors) (just 43 (named 43 (designator (named_at 43 (codes "i")) no_selectors) no_expressions))) no_statements)) }) }) ∷ (record { at = 46; is_entry = true; name = (named_at 48 (codes "hold")); kind = (procedure []); parts = []; body = (record { at = 50; statements = (more_statements (assign 51 (designator (named_at 51 (codes "n")) no_selectors) (just 53 (number 53 1))) (more_statements (invoke 55 (designator (named_at 55 (codes "delay")) no_selectors) (more_expressions (just 57 (named 57 (designator (named_at 57 (codes "q")) (more_selectors (index (just 59 (named 59 (designator (named_at 59 (codes "f")) no_selectors) (more_expressions (just 61 (number 61 1)) no_expressions)))) no_selectors)) no_expressions)) no_expressions)) no_statements)) }) }) ∷ []); body = (record { at = 67; statements = (more_statements (assign 68 (designator (named_at 68 (codes "n")) no_selectors) (just 70 (number 70 0))) no_statements) }) })) }) ∷ (record { name = (named_at 73 (codes "a")); value = (system_definition (record { at = 75; kind = system_kind.Process; parameters = ((record { names = ((named_at 77 (codes "x")) ∷ []); type_name = (named_at 79 (codes "m")) }) ∷ []); has_semicolon = true; parts = []; routines = []; body = (record { at = 82; statements = (more_statements (invoke 83 (designator (named_at 83 (codes "x")) (more_selectors (field (named_at 85 (codes "hold"))) no_selectors)) no_expressions) no_statements) }) })) }) ∷ [])) ∷ (program_variables 88 ((record { names = ((named_at 89 (codes "x")) ∷ []); variable_type = (simple 91 (type_name 91 (codes "m"))) }) ∷ (record { names = ((named_at 93 (codes "r")) ∷ []); variable_type = (simple 95 (type_name 95 (codes "a"))) }) ∷ [])) ∷ []); routines = []; body = (record { at = 97; statements = (more_statements (init 98 ((record { target = (designator (named_at 99 (codes "x")) no_selectors); arguments = no_expressions }) ∷ (record { target = (designator (named_at 101 (codes "r")) no_selectors); arguments = (more_expressions (just 103 (named 103 (designator (named_at 103 (codes "x")) no_selectors) no_expressions)) no_expressions) }) ∷ [])) no_statements) }); period = 106 }

-- begin "(* assert\n1 =\n2 *)"\ndisplay(1) end.
abbrev pub line_of_assertion : Program
line_of_assertion =
    record { parts = []; routines = []; body = (record { at = 0; statements = (more_statements (asserted 2 said.Assertion (related 2 (sum 2 None (term 2 (number 2 1) no_factors) no_terms) relation.Equal (sum 4 None (term 4 (number 4 2) no_factors) no_terms)) (invoke 6 (designator (named_at 6 (codes "display")) no_selectors) (more_expressions (just 8 (number 8 1)) no_expressions))) no_statements) }); period = 11 }

-- type m = monitor; var n: integer;\n"(* invariant n < 2 *)"\n"(* invariant\nn = 0 *)" begin n := 1 end; var x: m; begin init x end.
abbrev pub line_of_invariant : Program
line_of_invariant =
    record { parts = ((program_types 0 ((record { name = (named_at 1 (codes "m")); value = (system_definition (record { at = 3; kind = system_kind.Monitor; parameters = []; has_semicolon = true; parts = ((variables 5 ((record { names = ((named_at 6 (codes "n")) ∷ []); variable_type = (simple 8 (type_name 8 (codes "integer"))) }) ∷ [])) ∷ []); routines = ((record { at = 10; is_entry = false; name = (named_at 10 nameless); kind = invariants; parts = []; body = (record { at = 11; statements = (more_statements (asserted 11 said.Invariant (related 11 (sum 11 None (term 11 (named 11 (designator (named_at 11 (codes "n")) no_selectors) no_expressions) no_factors) no_terms) relation.Less (sum 13 None (term 13 (number 13 2) no_factors) no_terms)) (asserted 16 said.Invariant (related 16 (sum 16 None (term 16 (named 16 (designator (named_at 16 (codes "n")) no_selectors) no_expressions) no_factors) no_terms) relation.Equal (sum 18 None (term 18 (number 18 0) no_factors) no_terms)) (empty 20))) no_statements) }) }) ∷ []); body = (record { at = 20; statements = (more_statements (assign 21 (designator (named_at 21 (codes "n")) no_selectors) (just 23 (number 23 1))) no_statements) }) })) }) ∷ [])) ∷ (program_variables 26 ((record { names = ((named_at 27 (codes "x")) ∷ []); variable_type = (simple 29 (type_name 29 (codes "m"))) }) ∷ [])) ∷ []); routines = []; body = (record { at = 31; statements = (more_statements (init 32 ((record { target = (designator (named_at 33 (codes "x")) no_selectors); arguments = no_expressions }) ∷ [])) no_statements) }); period = 35 }

-- type m = monitor; var n: integer; "(* invariant n = 0 *)" "(* invariant n < 2 *)" begin n := 0 end; var x: m; begin init x end.
abbrev pub checked_steps : Program
checked_steps =
    record { parts = ((program_types 0 ((record { name = (named_at 1 (codes "m")); value = (system_definition (record { at = 3; kind = system_kind.Monitor; parameters = []; has_semicolon = true; parts = ((variables 5 ((record { names = ((named_at 6 (codes "n")) ∷ []); variable_type = (simple 8 (type_name 8 (codes "integer"))) }) ∷ [])) ∷ []); routines = ((record { at = 10; is_entry = false; name = (named_at 10 nameless); kind = invariants; parts = []; body = (record { at = 11; statements = (more_statements (asserted 11 said.Invariant (related 11 (sum 11 None (term 11 (named 11 (designator (named_at 11 (codes "n")) no_selectors) no_expressions) no_factors) no_terms) relation.Equal (sum 13 None (term 13 (number 13 0) no_factors) no_terms)) (asserted 16 said.Invariant (related 16 (sum 16 None (term 16 (named 16 (designator (named_at 16 (codes "n")) no_selectors) no_expressions) no_factors) no_terms) relation.Less (sum 18 None (term 18 (number 18 2) no_factors) no_terms)) (empty 20))) no_statements) }) }) ∷ []); body = (record { at = 20; statements = (more_statements (assign 21 (designator (named_at 21 (codes "n")) no_selectors) (just 23 (number 23 0))) no_statements) }) })) }) ∷ [])) ∷ (program_variables 26 ((record { names = ((named_at 27 (codes "x")) ∷ []); variable_type = (simple 29 (type_name 29 (codes "m"))) }) ∷ [])) ∷ []); routines = []; body = (record { at = 31; statements = (more_statements (init 32 ((record { target = (designator (named_at 33 (codes "x")) no_selectors); arguments = no_expressions }) ∷ [])) no_statements) }); period = 35 }
