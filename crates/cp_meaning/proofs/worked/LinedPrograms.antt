-- Programs of several lines that end in a run error.
use Rattle.cp_meaning.proofs.Words.{[], ◌∷◌, None, true, false, codes, Equal, Plus, Div}
use Rattle.cp_tree.specs.declared.constant.ConstantKind.TheVariants as constant_kind
use Rattle.cp_tree.specs.declared.statement.Direction.TheVariants as direction
use Rattle.cp_tree.specs.declared.declaration.SystemKind.TheVariants as system_kind
use Rattle.cp_tree.specs.Syntax.{alone, related, sum, no_terms, more_terms, term, no_factors, more_factors, number, named, no_expressions, more_expressions, designator, no_selectors, empty, assign, invoke, if_then, case_of, repeat_until, for_do, init, no_statements, more_statements, no_arms, more_arms, arm, type_name, subrange, simple, procedure, function, type_definition, system_definition, program_types, program_variables, Program}
use Rattle.cp_meaning.proofs.Written.{named_at, just}

-- type s = 1..2; function f(n: s): integer; begin end; begin display(1 +\nf(3)) end.
abbrev pub call_line : Program
call_line =
    record { parts = ((program_types 0 ((record { name = (named_at 1 (codes "s")); value = (type_definition (simple 3 (subrange 3 (record { at = 3; kind = constant_kind.Number None 1 }) (record { at = 5; kind = constant_kind.Number None 2 })))) }) ∷ [])) ∷ []); routines = ((record { at = 7; is_entry = false; name = (named_at 8 (codes "f")); kind = (function ((record { names = ((named_at 10 (codes "n")) ∷ []); type_name = (named_at 12 (codes "s")) }) ∷ []) (named_at 15 (codes "integer"))); parts = ([]); body = (record { at = 17; statements = (more_statements (empty 18) no_statements) }) }) ∷ []); body = (record { at = 20; statements = (more_statements (invoke 21 (designator (named_at 21 (codes "display")) no_selectors) (more_expressions (alone 23 (sum 23 None (term 23 (number 23 1) no_factors) (more_terms Plus (term 25 (named 25 (designator (named_at 25 (codes "f")) no_selectors) (more_expressions (just 27 (number 27 3)) no_expressions)) no_factors) no_terms))) no_expressions)) no_statements) }); period = 31 }

-- var i: 1..2; begin\nfor i := 1 to\n3 do end.
abbrev pub for_line : Program
for_line =
    record { parts = ((program_variables 0 ((record { names = ((named_at 1 (codes "i")) ∷ []); variable_type = (simple 3 (subrange 3 (record { at = 3; kind = constant_kind.Number None 1 }) (record { at = 5; kind = constant_kind.Number None 2 }))) }) ∷ [])) ∷ []); routines = ([]); body = (record { at = 7; statements = (more_statements (for_do 8 (named_at 9 (codes "i")) (just 11 (number 11 1)) direction.To (just 13 (number 13 3)) (empty 15)) no_statements) }); period = 16 }

-- begin repeat until\n1 div 0 = 1 end.
abbrev pub until_line : Program
until_line =
    record { parts = ([]); routines = ([]); body = (record { at = 0; statements = (more_statements (repeat_until 1 (more_statements (empty 2) no_statements) (related 3 (sum 3 None (term 3 (number 3 1) (more_factors Div (number 5 0) no_factors)) no_terms) Equal (sum 7 None (term 7 (number 7 1) no_factors) no_terms))) no_statements) }); period = 9 }

-- begin if\n1 div 0 = 1 then end.
abbrev pub test_line : Program
test_line =
    record { parts = ([]); routines = ([]); body = (record { at = 0; statements = (more_statements (if_then 1 (related 2 (sum 2 None (term 2 (number 2 1) (more_factors Div (number 4 0) no_factors)) no_terms) Equal (sum 6 None (term 6 (number 6 1) no_factors) no_terms)) (empty 8)) no_statements) }); period = 9 }

-- begin display(\n1 div 0) end.
abbrev pub display_line : Program
display_line =
    record { parts = ([]); routines = ([]); body = (record { at = 0; statements = (more_statements (invoke 1 (designator (named_at 1 (codes "display")) no_selectors) (more_expressions (alone 3 (sum 3 None (term 3 (number 3 1) (more_factors Div (number 5 0) no_factors)) no_terms)) no_expressions)) no_statements) }); period = 8 }

-- type k = class; begin end; var x: k; begin init\nx,\nx end.
abbrev pub start_line : Program
start_line =
    record { parts = ((program_types 0 ((record { name = (named_at 1 (codes "k")); value = (system_definition (record { at = 3; kind = system_kind.Class; parameters = ([]); has_semicolon = true; parts = ([]); routines = ([]); body = (record { at = 5; statements = (more_statements (empty 6) no_statements) }) })) }) ∷ [])) ∷ (program_variables 8 ((record { names = ((named_at 9 (codes "x")) ∷ []); variable_type = (simple 11 (type_name 11 (codes "k"))) }) ∷ [])) ∷ []); routines = ([]); body = (record { at = 13; statements = (more_statements (init 14 ((record { target = (designator (named_at 15 (codes "x")) no_selectors); arguments = no_expressions }) ∷ (record { target = (designator (named_at 17 (codes "x")) no_selectors); arguments = no_expressions }) ∷ [])) no_statements) }); period = 19 }

-- begin\ncase\n1 of 2: end end.
abbrev pub case_line : Program
case_line =
    record { parts = ([]); routines = ([]); body = (record { at = 0; statements = (more_statements (case_of 1 (just 2 (number 2 1)) (more_arms (arm ((record { at = 4; kind = constant_kind.Number None 2 }) ∷ []) (empty 6)) no_arms) false) no_statements) }); period = 8 }

-- type s = 1..2; var v: s; procedure p;\nbegin v :=\n3 end; begin\np end.
abbrev pub inner_line : Program
inner_line =
    record { parts = ((program_types 0 ((record { name = (named_at 1 (codes "s")); value = (type_definition (simple 3 (subrange 3 (record { at = 3; kind = constant_kind.Number None 1 }) (record { at = 5; kind = constant_kind.Number None 2 })))) }) ∷ [])) ∷ (program_variables 7 ((record { names = ((named_at 8 (codes "v")) ∷ []); variable_type = (simple 10 (type_name 10 (codes "s"))) }) ∷ [])) ∷ []); routines = ((record { at = 12; is_entry = false; name = (named_at 13 (codes "p")); kind = (procedure ([])); parts = ([]); body = (record { at = 15; statements = (more_statements (assign 16 (designator (named_at 16 (codes "v")) no_selectors) (just 18 (number 18 3))) no_statements) }) }) ∷ []); body = (record { at = 21; statements = (more_statements (invoke 22 (designator (named_at 22 (codes "p")) no_selectors) no_expressions) no_statements) }); period = 24 }
