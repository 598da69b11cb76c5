-- Programs whose values are worked out.
use Rattle.cp_meaning.proofs.Words.{[], ◌∷◌, Some, None, true, false, codes, Equal, In, Plus, Minus, Or, Div, Mod, And}
use Rattle.cp_tree.specs.declared.constant.Sign.TheVariants as sign
use Rattle.cp_tree.specs.declared.constant.ConstantKind.TheVariants as constant_kind
use Rattle.cp_tree.specs.declared.statement.Direction.TheVariants as direction
use Rattle.cp_tree.specs.declared.declaration.SystemKind.TheVariants as system_kind
use Rattle.cp_tree.specs.Syntax.{alone, related, sum, no_terms, more_terms, term, no_factors, more_factors, number, character, named, group, set_of, no_expressions, more_expressions, designator, no_selectors, more_selectors, field, index, empty, assign, invoke, if_then, if_else, for_do, init, no_statements, more_statements, type_name, enumeration, subrange, simple, array_of, set_type, procedure, function, type_definition, system_definition, program_types, program_variables, Program}
use Rattle.cp_meaning.proofs.Written.{named_at, just}

-- begin display(1 div 0) end.
abbrev pub divide_by_zero : Program
divide_by_zero =
    record { parts = ([]); routines = ([]); body = (record { at = 0; statements = (more_statements (invoke 1 (designator (named_at 1 (codes "display")) no_selectors) (more_expressions (alone 3 (sum 3 None (term 3 (number 3 1) (more_factors Div (number 5 0) no_factors)) no_terms)) no_expressions)) no_statements) }); period = 8 }

-- begin display(32767 + 1) end.
abbrev pub add_overflow : Program
add_overflow =
    record { parts = ([]); routines = ([]); body = (record { at = 0; statements = (more_statements (invoke 1 (designator (named_at 1 (codes "display")) no_selectors) (more_expressions (alone 3 (sum 3 None (term 3 (number 3 32767) no_factors) (more_terms Plus (term 5 (number 5 1) no_factors) no_terms))) no_expressions)) no_statements) }); period = 8 }

-- type t = (red, green); var e: t; begin e := succ(red); display(chr(65)); display(e); display(true); display(-7 div 2); display(-7 mod 2); display('(:10:)') end.
abbrev pub shown_values : Program
shown_values =
    record { parts = ((program_types 0 ((record { name = (named_at 1 (codes "t")); value = (type_definition (simple 3 (enumeration 3 ((named_at 4 (codes "red")) ∷ (named_at 6 (codes "green")) ∷ [])))) }) ∷ [])) ∷ (program_variables 9 ((record { names = ((named_at 10 (codes "e")) ∷ []); variable_type = (simple 12 (type_name 12 (codes "t"))) }) ∷ [])) ∷ []); routines = ([]); body = (record { at = 14; statements = (more_statements (assign 15 (designator (named_at 15 (codes "e")) no_selectors) (just 17 (named 17 (designator (named_at 17 (codes "succ")) no_selectors) (more_expressions (just 19 (named 19 (designator (named_at 19 (codes "red")) no_selectors) no_expressions)) no_expressions)))) (more_statements (invoke 22 (designator (named_at 22 (codes "display")) no_selectors) (more_expressions (just 24 (named 24 (designator (named_at 24 (codes "chr")) no_selectors) (more_expressions (just 26 (number 26 65)) no_expressions))) no_expressions)) (more_statements (invoke 30 (designator (named_at 30 (codes "display")) no_selectors) (more_expressions (just 32 (named 32 (designator (named_at 32 (codes "e")) no_selectors) no_expressions)) no_expressions)) (more_statements (invoke 35 (designator (named_at 35 (codes "display")) no_selectors) (more_expressions (just 37 (named 37 (designator (named_at 37 (codes "true")) no_selectors) no_expressions)) no_expressions)) (more_statements (invoke 40 (designator (named_at 40 (codes "display")) no_selectors) (more_expressions (alone 42 (sum 42 (Some sign.Minus) (term 43 (number 43 7) (more_factors Div (number 45 2) no_factors)) no_terms)) no_expressions)) (more_statements (invoke 48 (designator (named_at 48 (codes "display")) no_selectors) (more_expressions (alone 50 (sum 50 (Some sign.Minus) (term 51 (number 51 7) (more_factors Mod (number 53 2) no_factors)) no_terms)) no_expressions)) (more_statements (invoke 56 (designator (named_at 56 (codes "display")) no_selectors) (more_expressions (just 58 (character 58 10)) no_expressions)) no_statements))))))) }); period = 61 }

-- var n: integer; function f: integer; begin n := n + 1; f := n end; begin display(n + f) end.
abbrev pub function_call_first : Program
function_call_first =
    record { parts = ((program_variables 0 ((record { names = ((named_at 1 (codes "n")) ∷ []); variable_type = (simple 3 (type_name 3 (codes "integer"))) }) ∷ [])) ∷ []); routines = ((record { at = 5; is_entry = false; name = (named_at 6 (codes "f")); kind = (function ([]) (named_at 8 (codes "integer"))); parts = ([]); body = (record { at = 10; statements = (more_statements (assign 11 (designator (named_at 11 (codes "n")) no_selectors) (alone 13 (sum 13 None (term 13 (named 13 (designator (named_at 13 (codes "n")) no_selectors) no_expressions) no_factors) (more_terms Plus (term 15 (number 15 1) no_factors) no_terms)))) (more_statements (assign 17 (designator (named_at 17 (codes "f")) no_selectors) (just 19 (named 19 (designator (named_at 19 (codes "n")) no_selectors) no_expressions))) no_statements)) }) }) ∷ []); body = (record { at = 22; statements = (more_statements (invoke 23 (designator (named_at 23 (codes "display")) no_selectors) (more_expressions (alone 25 (sum 25 None (term 25 (named 25 (designator (named_at 25 (codes "n")) no_selectors) no_expressions) no_factors) (more_terms Plus (term 27 (named 27 (designator (named_at 27 (codes "f")) no_selectors) no_expressions) no_factors) no_terms))) no_expressions)) no_statements) }); period = 30 }

-- var i: integer; a: array [1..2] of integer; begin a[i] := 1 div 0 end.
abbrev pub right_side_first : Program
right_side_first =
    record { parts = ((program_variables 0 ((record { names = ((named_at 1 (codes "i")) ∷ []); variable_type = (simple 3 (type_name 3 (codes "integer"))) }) ∷ (record { names = ((named_at 5 (codes "a")) ∷ []); variable_type = (array_of 7 (subrange 9 (record { at = 9; kind = constant_kind.Number None 1 }) (record { at = 11; kind = constant_kind.Number None 2 })) (simple 14 (type_name 14 (codes "integer")))) }) ∷ [])) ∷ []); routines = ([]); body = (record { at = 16; statements = (more_statements (assign 17 (designator (named_at 17 (codes "a")) (more_selectors (index (just 19 (named 19 (designator (named_at 19 (codes "i")) no_selectors) no_expressions))) no_selectors)) (alone 22 (sum 22 None (term 22 (number 22 1) (more_factors Div (number 24 0) no_factors)) no_terms))) no_statements) }); period = 26 }

-- var i: 1..3; begin for i := 1 to 3 do display(i) end.
abbrev pub for_to_upper_bound : Program
for_to_upper_bound =
    record { parts = ((program_variables 0 ((record { names = ((named_at 1 (codes "i")) ∷ []); variable_type = (simple 3 (subrange 3 (record { at = 3; kind = constant_kind.Number None 1 }) (record { at = 5; kind = constant_kind.Number None 3 }))) }) ∷ [])) ∷ []); routines = ([]); body = (record { at = 7; statements = (more_statements (for_do 8 (named_at 9 (codes "i")) (just 11 (number 11 1)) direction.To (just 13 (number 13 3)) (invoke 15 (designator (named_at 15 (codes "display")) no_selectors) (more_expressions (just 17 (named 17 (designator (named_at 17 (codes "i")) no_selectors) no_expressions)) no_expressions))) no_statements) }); period = 20 }

-- var a, b: set of 0..9; begin a := [1, 3, 5]; b := [3, 4]; display(3 in a & b); display(1 in a - b); display(4 in (a or b)); display((a or b) = [1, 3, 4, 5]); display(200 in a) end.
abbrev pub set_operations : Program
set_operations =
    record { parts = ((program_variables 0 ((record { names = ((named_at 1 (codes "a")) ∷ (named_at 3 (codes "b")) ∷ []); variable_type = (set_type 5 (subrange 7 (record { at = 7; kind = constant_kind.Number None 0 }) (record { at = 9; kind = constant_kind.Number None 9 }))) }) ∷ [])) ∷ []); routines = ([]); body = (record { at = 11; statements = (more_statements (assign 12 (designator (named_at 12 (codes "a")) no_selectors) (just 14 (set_of 14 (more_expressions (just 15 (number 15 1)) (more_expressions (just 17 (number 17 3)) (more_expressions (just 19 (number 19 5)) no_expressions)))))) (more_statements (assign 22 (designator (named_at 22 (codes "b")) no_selectors) (just 24 (set_of 24 (more_expressions (just 25 (number 25 3)) (more_expressions (just 27 (number 27 4)) no_expressions))))) (more_statements (invoke 30 (designator (named_at 30 (codes "display")) no_selectors) (more_expressions (related 32 (sum 32 None (term 32 (number 32 3) no_factors) no_terms) In (sum 34 None (term 34 (named 34 (designator (named_at 34 (codes "a")) no_selectors) no_expressions) (more_factors And (named 36 (designator (named_at 36 (codes "b")) no_selectors) no_expressions) no_factors)) no_terms)) no_expressions)) (more_statements (invoke 39 (designator (named_at 39 (codes "display")) no_selectors) (more_expressions (related 41 (sum 41 None (term 41 (number 41 1) no_factors) no_terms) In (sum 43 None (term 43 (named 43 (designator (named_at 43 (codes "a")) no_selectors) no_expressions) no_factors) (more_terms Minus (term 45 (named 45 (designator (named_at 45 (codes "b")) no_selectors) no_expressions) no_factors) no_terms))) no_expressions)) (more_statements (invoke 48 (designator (named_at 48 (codes "display")) no_selectors) (more_expressions (related 50 (sum 50 None (term 50 (number 50 4) no_factors) no_terms) In (sum 52 None (term 52 (group 52 (alone 53 (sum 53 None (term 53 (named 53 (designator (named_at 53 (codes "a")) no_selectors) no_expressions) no_factors) (more_terms Or (term 55 (named 55 (designator (named_at 55 (codes "b")) no_selectors) no_expressions) no_factors) no_terms)))) no_factors) no_terms)) no_expressions)) (more_statements (invoke 59 (designator (named_at 59 (codes "display")) no_selectors) (more_expressions (related 61 (sum 61 None (term 61 (group 61 (alone 62 (sum 62 None (term 62 (named 62 (designator (named_at 62 (codes "a")) no_selectors) no_expressions) no_factors) (more_terms Or (term 64 (named 64 (designator (named_at 64 (codes "b")) no_selectors) no_expressions) no_factors) no_terms)))) no_factors) no_terms) Equal (sum 67 None (term 67 (set_of 67 (more_expressions (just 68 (number 68 1)) (more_expressions (just 70 (number 70 3)) (more_expressions (just 72 (number 72 4)) (more_expressions (just 74 (number 74 5)) no_expressions))))) no_factors) no_terms)) no_expressions)) (more_statements (invoke 78 (designator (named_at 78 (codes "display")) no_selectors) (more_expressions (related 80 (sum 80 None (term 80 (number 80 200) no_factors) no_terms) In (sum 82 None (term 82 (named 82 (designator (named_at 82 (codes "a")) no_selectors) no_expressions) no_factors) no_terms)) no_expressions)) no_statements))))))) }); period = 85 }

-- var a: set of 0..9; begin a := [10] end.
abbrev pub set_assignment_range : Program
set_assignment_range =
    record { parts = ((program_variables 0 ((record { names = ((named_at 1 (codes "a")) ∷ []); variable_type = (set_type 3 (subrange 5 (record { at = 5; kind = constant_kind.Number None 0 }) (record { at = 7; kind = constant_kind.Number None 9 }))) }) ∷ [])) ∷ []); routines = ([]); body = (record { at = 9; statements = (more_statements (assign 10 (designator (named_at 10 (codes "a")) no_selectors) (just 12 (set_of 12 (more_expressions (just 13 (number 13 10)) no_expressions)))) no_statements) }); period = 16 }

-- var a: set of 0..9; begin a := [10, 1 div 0] end.
abbrev pub set_element_before_range : Program
set_element_before_range =
    record { parts = ((program_variables 0 ((record { names = ((named_at 1 (codes "a")) ∷ []); variable_type = (set_type 3 (subrange 5 (record { at = 5; kind = constant_kind.Number None 0 }) (record { at = 7; kind = constant_kind.Number None 9 }))) }) ∷ [])) ∷ []); routines = ([]); body = (record { at = 9; statements = (more_statements (assign 10 (designator (named_at 10 (codes "a")) no_selectors) (just 12 (set_of 12 (more_expressions (just 13 (number 13 10)) (more_expressions (alone 15 (sum 15 None (term 15 (number 15 1) (more_factors Div (number 17 0) no_factors)) no_terms)) no_expressions))))) no_statements) }); period = 20 }

-- type m = monitor; procedure entry e; begin end; begin end; var x: m; begin x.e end.
abbrev pub not_initialised : Program
not_initialised =
    record { parts = ((program_types 0 ((record { name = (named_at 1 (codes "m")); value = (system_definition (record { at = 3; kind = system_kind.Monitor; parameters = ([]); has_semicolon = true; parts = ([]); routines = ((record { at = 5; is_entry = true; name = (named_at 7 (codes "e")); kind = (procedure ([])); parts = ([]); body = (record { at = 9; statements = (more_statements (empty 10) no_statements) }) }) ∷ []); body = (record { at = 12; statements = (more_statements (empty 13) no_statements) }) })) }) ∷ [])) ∷ (program_variables 15 ((record { names = ((named_at 16 (codes "x")) ∷ []); variable_type = (simple 18 (type_name 18 (codes "m"))) }) ∷ [])) ∷ []); routines = ([]); body = (record { at = 20; statements = (more_statements (invoke 21 (designator (named_at 21 (codes "x")) (more_selectors (field (named_at 23 (codes "e"))) no_selectors)) no_expressions) no_statements) }); period = 25 }

-- type c = class; begin end; var k: c; begin init k, k end.
abbrev pub init_twice_class : Program
init_twice_class =
    record { parts = ((program_types 0 ((record { name = (named_at 1 (codes "c")); value = (system_definition (record { at = 3; kind = system_kind.Class; parameters = ([]); has_semicolon = true; parts = ([]); routines = ([]); body = (record { at = 5; statements = (more_statements (empty 6) no_statements) }) })) }) ∷ [])) ∷ (program_variables 8 ((record { names = ((named_at 9 (codes "k")) ∷ []); variable_type = (simple 11 (type_name 11 (codes "c"))) }) ∷ [])) ∷ []); routines = ([]); body = (record { at = 13; statements = (more_statements (init 14 ((record { target = (designator (named_at 15 (codes "k")) no_selectors); arguments = no_expressions }) ∷ (record { target = (designator (named_at 17 (codes "k")) no_selectors); arguments = no_expressions }) ∷ [])) no_statements) }); period = 19 }

-- var a, b: boolean; x: integer; begin a := true; if a then if b then x := 1 else x := 2; display(x) end.
abbrev pub dangling_else : Program
dangling_else =
    record { parts = ((program_variables 0 ((record { names = ((named_at 1 (codes "a")) ∷ (named_at 3 (codes "b")) ∷ []); variable_type = (simple 5 (type_name 5 (codes "boolean"))) }) ∷ (record { names = ((named_at 7 (codes "x")) ∷ []); variable_type = (simple 9 (type_name 9 (codes "integer"))) }) ∷ [])) ∷ []); routines = ([]); body = (record { at = 11; statements = (more_statements (assign 12 (designator (named_at 12 (codes "a")) no_selectors) (just 14 (named 14 (designator (named_at 14 (codes "true")) no_selectors) no_expressions))) (more_statements (if_then 16 (just 17 (named 17 (designator (named_at 17 (codes "a")) no_selectors) no_expressions)) (if_else 19 (just 20 (named 20 (designator (named_at 20 (codes "b")) no_selectors) no_expressions)) (assign 22 (designator (named_at 22 (codes "x")) no_selectors) (just 24 (number 24 1))) (assign 26 (designator (named_at 26 (codes "x")) no_selectors) (just 28 (number 28 2))))) (more_statements (invoke 30 (designator (named_at 30 (codes "display")) no_selectors) (more_expressions (just 32 (named 32 (designator (named_at 32 (codes "x")) no_selectors) no_expressions)) no_expressions)) no_statements))) }); period = 35 }
