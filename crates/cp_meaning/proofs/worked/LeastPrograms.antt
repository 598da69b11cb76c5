-- Programs whose variables begin as the least values, and lines at gates.
use Rattle.cp_meaning.proofs.Words.{[], ◌∷◌, Some, None, true, false, codes, Equal, Mod}
use Rattle.cp_tree.specs.declared.constant.Sign.TheVariants as sign
use Rattle.cp_tree.specs.declared.constant.ConstantKind.TheVariants as constant_kind
use Rattle.cp_tree.specs.declared.declaration.SystemKind.TheVariants as system_kind
use Rattle.cp_tree.specs.Syntax.{alone, related, sum, no_terms, term, no_factors, more_factors, number, named, group, set_of, no_expressions, more_expressions, designator, no_selectors, more_selectors, field, index, empty, assign, invoke, init, no_statements, more_statements, type_name, enumeration, subrange, simple, array_of, set_type, record_of, no_fields, more_fields, fields, variables, procedure, function, type_definition, system_definition, program_types, program_variables, Program}
use Rattle.cp_meaning.proofs.Written.{named_at, just}

-- var x: 3..5; begin display(x); x := 4; display(x) end.
abbrev pub least_of_subrange : Program
least_of_subrange =
    record { parts = ((program_variables 0 ((record { names = ((named_at 1 (codes "x")) ∷ []); variable_type = (simple 3 (subrange 3 (record { at = 3; kind = constant_kind.Number None 3 }) (record { at = 5; kind = constant_kind.Number None 5 }))) }) ∷ [])) ∷ []); routines = ([]); body = (record { at = 7; statements = (more_statements (invoke 8 (designator (named_at 8 (codes "display")) no_selectors) (more_expressions (just 10 (named 10 (designator (named_at 10 (codes "x")) no_selectors) no_expressions)) no_expressions)) (more_statements (assign 13 (designator (named_at 13 (codes "x")) no_selectors) (just 15 (number 15 4))) (more_statements (invoke 17 (designator (named_at 17 (codes "display")) no_selectors) (more_expressions (just 19 (named 19 (designator (named_at 19 (codes "x")) no_selectors) no_expressions)) no_expressions)) no_statements))) }); period = 22 }

-- begin display((-1) mod 2); display(1 mod (-2)); display((-3) mod 2) end.
abbrev pub sign_of_mod : Program
sign_of_mod =
    record { parts = ([]); routines = ([]); body = (record { at = 0; statements = (more_statements (invoke 1 (designator (named_at 1 (codes "display")) no_selectors) (more_expressions (alone 3 (sum 3 None (term 3 (group 3 (alone 4 (sum 4 (Some sign.Minus) (term 5 (number 5 1) no_factors) no_terms))) (more_factors Mod (number 8 2) no_factors)) no_terms)) no_expressions)) (more_statements (invoke 11 (designator (named_at 11 (codes "display")) no_selectors) (more_expressions (alone 13 (sum 13 None (term 13 (number 13 1) (more_factors Mod (group 15 (alone 16 (sum 16 (Some sign.Minus) (term 17 (number 17 2) no_factors) no_terms))) no_factors)) no_terms)) no_expressions)) (more_statements (invoke 21 (designator (named_at 21 (codes "display")) no_selectors) (more_expressions (alone 23 (sum 23 None (term 23 (group 23 (alone 24 (sum 24 (Some sign.Minus) (term 25 (number 25 3) no_factors) no_terms))) (more_factors Mod (number 28 2) no_factors)) no_terms)) no_expressions)) no_statements))) }); period = 31 }

-- type e = (a, b, c); r = record n: 3..5; s: set of e; w: array [1..2] of b..c end; k = class; var x: r; i: 2..4; procedure entry show(j: integer); begin display(x.n); display(x.w[j]); display(x.s = []); display(i) end; begin end; var x: k; begin init x; x.show(2) end.
abbrev pub class_begins_least : Program
class_begins_least =
    record { parts = ((program_types 0 ((record { name = (named_at 1 (codes "e")); value = (type_definition (simple 3 (enumeration 3 ((named_at 4 (codes "a")) ∷ (named_at 6 (codes "b")) ∷ (named_at 8 (codes "c")) ∷ [])))) }) ∷ (record { name = (named_at 11 (codes "r")); value = (type_definition (record_of 13 (more_fields (fields ((named_at 14 (codes "n")) ∷ []) (simple 16 (subrange 16 (record { at = 16; kind = constant_kind.Number None 3 }) (record { at = 18; kind = constant_kind.Number None 5 })))) (more_fields (fields ((named_at 20 (codes "s")) ∷ []) (set_type 22 (type_name 24 (codes "e")))) (more_fields (fields ((named_at 26 (codes "w")) ∷ []) (array_of 28 (subrange 30 (record { at = 30; kind = constant_kind.Number None 1 }) (record { at = 32; kind = constant_kind.Number None 2 })) (simple 35 (subrange 35 (record { at = 35; kind = constant_kind.Name None (named_at 35 (codes "b")) }) (record { at = 37; kind = constant_kind.Name None (named_at 37 (codes "c")) }))))) no_fields))) false)) }) ∷ (record { name = (named_at 40 (codes "k")); value = (system_definition (record { at = 42; kind = system_kind.Class; parameters = ([]); has_semicolon = false; parts = ((variables 44 ((record { names = ((named_at 45 (codes "x")) ∷ []); variable_type = (simple 47 (type_name 47 (codes "r"))) }) ∷ (record { names = ((named_at 49 (codes "i")) ∷ []); variable_type = (simple 51 (subrange 51 (record { at = 51; kind = constant_kind.Number None 2 }) (record { at = 53; kind = constant_kind.Number None 4 }))) }) ∷ [])) ∷ []); routines = ((record { at = 55; is_entry = true; name = (named_at 57 (codes "show")); kind = (procedure ((record { at = 59; is_var = false; group = (record { names = ((named_at 59 (codes "j")) ∷ []); type_name = (named_at 61 (codes "integer")) }) }) ∷ [])); parts = ([]); body = (record { at = 64; statements = (more_statements (invoke 65 (designator (named_at 65 (codes "display")) no_selectors) (more_expressions (alone 67 (sum 67 None (term 67 (named 67 (designator (named_at 67 (codes "x")) (more_selectors (field (named_at 69 (codes "n"))) no_selectors)) no_expressions) no_factors) no_terms)) no_expressions)) (more_statements (invoke 72 (designator (named_at 72 (codes "display")) no_selectors) (more_expressions (alone 74 (sum 74 None (term 74 (named 74 (designator (named_at 74 (codes "x")) (more_selectors (field (named_at 76 (codes "w"))) (more_selectors (index (just 78 (named 78 (designator (named_at 78 (codes "j")) no_selectors) no_expressions))) no_selectors))) no_expressions) no_factors) no_terms)) no_expressions)) (more_statements (invoke 82 (designator (named_at 82 (codes "display")) no_selectors) (more_expressions (related 84 (sum 84 None (term 84 (named 84 (designator (named_at 84 (codes "x")) (more_selectors (field (named_at 86 (codes "s"))) no_selectors)) no_expressions) no_factors) no_terms) Equal (sum 88 None (term 88 (set_of 88 no_expressions) no_factors) no_terms)) no_expressions)) (more_statements (invoke 92 (designator (named_at 92 (codes "display")) no_selectors) (more_expressions (just 94 (named 94 (designator (named_at 94 (codes "i")) no_selectors) no_expressions)) no_expressions)) no_statements)))) }) }) ∷ []); body = (record { at = 98; statements = (more_statements (empty 99) no_statements) }) })) }) ∷ [])) ∷ (program_variables 101 ((record { names = ((named_at 102 (codes "x")) ∷ []); variable_type = (simple 104 (type_name 104 (codes "k"))) }) ∷ [])) ∷ []); routines = ([]); body = (record { at = 106; statements = (more_statements (init 107 ((record { target = (designator (named_at 108 (codes "x")) no_selectors); arguments = no_expressions }) ∷ [])) (more_statements (invoke 110 (designator (named_at 110 (codes "x")) (more_selectors (field (named_at 112 (codes "show"))) no_selectors)) (more_expressions (just 114 (number 114 2)) no_expressions)) no_statements)) }); period = 117 }

-- type m = monitor; var q: array [1..2] of queue; a: array [1..2] of 3..5; procedure entry show; begin display(a[2]); display(empty(q[1])); a[1] := 4; display(a[1]); display(a[2]) end; begin end; var x: m; begin init x; x.show end.
abbrev pub monitor_begins_least : Program
monitor_begins_least =
    record { parts = ((program_types 0 ((record { name = (named_at 1 (codes "m")); value = (system_definition (record { at = 3; kind = system_kind.Monitor; parameters = ([]); has_semicolon = false; parts = ((variables 5 ((record { names = ((named_at 6 (codes "q")) ∷ []); variable_type = (array_of 8 (subrange 10 (record { at = 10; kind = constant_kind.Number None 1 }) (record { at = 12; kind = constant_kind.Number None 2 })) (simple 15 (type_name 15 (codes "queue")))) }) ∷ (record { names = ((named_at 17 (codes "a")) ∷ []); variable_type = (array_of 19 (subrange 21 (record { at = 21; kind = constant_kind.Number None 1 }) (record { at = 23; kind = constant_kind.Number None 2 })) (simple 26 (subrange 26 (record { at = 26; kind = constant_kind.Number None 3 }) (record { at = 28; kind = constant_kind.Number None 5 })))) }) ∷ [])) ∷ []); routines = ((record { at = 30; is_entry = true; name = (named_at 32 (codes "show")); kind = (procedure ([])); parts = ([]); body = (record { at = 34; statements = (more_statements (invoke 35 (designator (named_at 35 (codes "display")) no_selectors) (more_expressions (alone 37 (sum 37 None (term 37 (named 37 (designator (named_at 37 (codes "a")) (more_selectors (index (just 39 (number 39 2))) no_selectors)) no_expressions) no_factors) no_terms)) no_expressions)) (more_statements (invoke 43 (designator (named_at 43 (codes "display")) no_selectors) (more_expressions (alone 45 (sum 45 None (term 45 (named 45 (designator (named_at 45 (codes "empty")) no_selectors) (more_expressions (alone 47 (sum 47 None (term 47 (named 47 (designator (named_at 47 (codes "q")) (more_selectors (index (just 49 (number 49 1))) no_selectors)) no_expressions) no_factors) no_terms)) no_expressions)) no_factors) no_terms)) no_expressions)) (more_statements (assign 54 (designator (named_at 54 (codes "a")) (more_selectors (index (just 56 (number 56 1))) no_selectors)) (just 59 (number 59 4))) (more_statements (invoke 61 (designator (named_at 61 (codes "display")) no_selectors) (more_expressions (alone 63 (sum 63 None (term 63 (named 63 (designator (named_at 63 (codes "a")) (more_selectors (index (just 65 (number 65 1))) no_selectors)) no_expressions) no_factors) no_terms)) no_expressions)) (more_statements (invoke 69 (designator (named_at 69 (codes "display")) no_selectors) (more_expressions (alone 71 (sum 71 None (term 71 (named 71 (designator (named_at 71 (codes "a")) (more_selectors (index (just 73 (number 73 2))) no_selectors)) no_expressions) no_factors) no_terms)) no_expressions)) no_statements))))) }) }) ∷ []); body = (record { at = 78; statements = (more_statements (empty 79) no_statements) }) })) }) ∷ [])) ∷ (program_variables 81 ((record { names = ((named_at 82 (codes "x")) ∷ []); variable_type = (simple 84 (type_name 84 (codes "m"))) }) ∷ [])) ∷ []); routines = ([]); body = (record { at = 86; statements = (more_statements (init 87 ((record { target = (designator (named_at 88 (codes "x")) no_selectors); arguments = no_expressions }) ∷ [])) (more_statements (invoke 90 (designator (named_at 90 (codes "x")) (more_selectors (field (named_at 92 (codes "show"))) no_selectors)) no_expressions) no_statements)) }); period = 94 }

-- type t = 3..5; var i: integer; procedure p; var x: array [1..2] of t; n: integer; begin display(x[2]); x[2] := 4; display(n); n := 9 end; function f: t; begin end; begin p; p; display(f) end.
abbrev pub local_variables_begin_least : Program
local_variables_begin_least =
    record { parts = ((program_types 0 ((record { name = (named_at 1 (codes "t")); value = (type_definition (simple 3 (subrange 3 (record { at = 3; kind = constant_kind.Number None 3 }) (record { at = 5; kind = constant_kind.Number None 5 })))) }) ∷ [])) ∷ (program_variables 7 ((record { names = ((named_at 8 (codes "i")) ∷ []); variable_type = (simple 10 (type_name 10 (codes "integer"))) }) ∷ [])) ∷ []); routines = ((record { at = 12; is_entry = false; name = (named_at 13 (codes "p")); kind = (procedure ([])); parts = ((variables 15 ((record { names = ((named_at 16 (codes "x")) ∷ []); variable_type = (array_of 18 (subrange 20 (record { at = 20; kind = constant_kind.Number None 1 }) (record { at = 22; kind = constant_kind.Number None 2 })) (simple 25 (type_name 25 (codes "t")))) }) ∷ (record { names = ((named_at 27 (codes "n")) ∷ []); variable_type = (simple 29 (type_name 29 (codes "integer"))) }) ∷ [])) ∷ []); body = (record { at = 31; statements = (more_statements (invoke 32 (designator (named_at 32 (codes "display")) no_selectors) (more_expressions (alone 34 (sum 34 None (term 34 (named 34 (designator (named_at 34 (codes "x")) (more_selectors (index (just 36 (number 36 2))) no_selectors)) no_expressions) no_factors) no_terms)) no_expressions)) (more_statements (assign 40 (designator (named_at 40 (codes "x")) (more_selectors (index (just 42 (number 42 2))) no_selectors)) (just 45 (number 45 4))) (more_statements (invoke 47 (designator (named_at 47 (codes "display")) no_selectors) (more_expressions (just 49 (named 49 (designator (named_at 49 (codes "n")) no_selectors) no_expressions)) no_expressions)) (more_statements (assign 52 (designator (named_at 52 (codes "n")) no_selectors) (just 54 (number 54 9))) no_statements)))) }) }) ∷ (record { at = 57; is_entry = false; name = (named_at 58 (codes "f")); kind = (function ([]) (named_at 60 (codes "t"))); parts = ([]); body = (record { at = 62; statements = (more_statements (empty 63) no_statements) }) }) ∷ []); body = (record { at = 65; statements = (more_statements (invoke 66 (designator (named_at 66 (codes "p")) no_selectors) no_expressions) (more_statements (invoke 68 (designator (named_at 68 (codes "p")) no_selectors) no_expressions) (more_statements (invoke 70 (designator (named_at 70 (codes "display")) no_selectors) (more_expressions (just 72 (named 72 (designator (named_at 72 (codes "f")) no_selectors) no_expressions)) no_expressions)) no_statements))) }); period = 75 }

-- type t = 3..5; p = process(n: integer); var x: array [1..2] of t; begin display(x[n]) end; var a: p; begin init a(2) end.
abbrev pub process_begins_least : Program
process_begins_least =
    record { parts = ((program_types 0 ((record { name = (named_at 1 (codes "t")); value = (type_definition (simple 3 (subrange 3 (record { at = 3; kind = constant_kind.Number None 3 }) (record { at = 5; kind = constant_kind.Number None 5 })))) }) ∷ (record { name = (named_at 7 (codes "p")); value = (system_definition (record { at = 9; kind = system_kind.Process; parameters = ((record { names = ((named_at 11 (codes "n")) ∷ []); type_name = (named_at 13 (codes "integer")) }) ∷ []); has_semicolon = false; parts = ((variables 16 ((record { names = ((named_at 17 (codes "x")) ∷ []); variable_type = (array_of 19 (subrange 21 (record { at = 21; kind = constant_kind.Number None 1 }) (record { at = 23; kind = constant_kind.Number None 2 })) (simple 26 (type_name 26 (codes "t")))) }) ∷ [])) ∷ []); routines = ([]); body = (record { at = 28; statements = (more_statements (invoke 29 (designator (named_at 29 (codes "display")) no_selectors) (more_expressions (alone 31 (sum 31 None (term 31 (named 31 (designator (named_at 31 (codes "x")) (more_selectors (index (just 33 (named 33 (designator (named_at 33 (codes "n")) no_selectors) no_expressions))) no_selectors)) no_expressions) no_factors) no_terms)) no_expressions)) no_statements) }) })) }) ∷ [])) ∷ (program_variables 38 ((record { names = ((named_at 39 (codes "a")) ∷ []); variable_type = (simple 41 (type_name 41 (codes "p"))) }) ∷ [])) ∷ []); routines = ([]); body = (record { at = 43; statements = (more_statements (init 44 ((record { target = (designator (named_at 45 (codes "a")) no_selectors); arguments = (more_expressions (just 47 (number 47 2)) no_expressions) }) ∷ [])) no_statements) }); period = 50 }

-- type m = monitor; procedure entry go(n: integer); begin display(n) end; begin end; p = process(x: m; n: integer); begin x.go(n) end; var x: m; a, b, c: p; begin init x, a(x, 1), b(x, 2), c(x, 3) end.
abbrev pub line_in_order : Program
line_in_order =
    record { parts = ((program_types 0 ((record { name = (named_at 1 (codes "m")); value = (system_definition (record { at = 3; kind = system_kind.Monitor; parameters = ([]); has_semicolon = false; parts = ([]); routines = ((record { at = 5; is_entry = true; name = (named_at 7 (codes "go")); kind = (procedure ((record { at = 9; is_var = false; group = (record { names = ((named_at 9 (codes "n")) ∷ []); type_name = (named_at 11 (codes "integer")) }) }) ∷ [])); parts = ([]); body = (record { at = 14; statements = (more_statements (invoke 15 (designator (named_at 15 (codes "display")) no_selectors) (more_expressions (just 17 (named 17 (designator (named_at 17 (codes "n")) no_selectors) no_expressions)) no_expressions)) no_statements) }) }) ∷ []); body = (record { at = 21; statements = (more_statements (empty 22) no_statements) }) })) }) ∷ (record { name = (named_at 24 (codes "p")); value = (system_definition (record { at = 26; kind = system_kind.Process; parameters = ((record { names = ((named_at 28 (codes "x")) ∷ []); type_name = (named_at 30 (codes "m")) }) ∷ (record { names = ((named_at 32 (codes "n")) ∷ []); type_name = (named_at 34 (codes "integer")) }) ∷ []); has_semicolon = false; parts = ([]); routines = ([]); body = (record { at = 37; statements = (more_statements (invoke 38 (designator (named_at 38 (codes "x")) (more_selectors (field (named_at 40 (codes "go"))) no_selectors)) (more_expressions (just 42 (named 42 (designator (named_at 42 (codes "n")) no_selectors) no_expressions)) no_expressions)) no_statements) }) })) }) ∷ [])) ∷ (program_variables 46 ((record { names = ((named_at 47 (codes "x")) ∷ []); variable_type = (simple 49 (type_name 49 (codes "m"))) }) ∷ (record { names = ((named_at 51 (codes "a")) ∷ (named_at 53 (codes "b")) ∷ (named_at 55 (codes "c")) ∷ []); variable_type = (simple 57 (type_name 57 (codes "p"))) }) ∷ [])) ∷ []); routines = ([]); body = (record { at = 59; statements = (more_statements (init 60 ((record { target = (designator (named_at 61 (codes "x")) no_selectors); arguments = no_expressions }) ∷ (record { target = (designator (named_at 63 (codes "a")) no_selectors); arguments = (more_expressions (just 65 (named 65 (designator (named_at 65 (codes "x")) no_selectors) no_expressions)) (more_expressions (just 67 (number 67 1)) no_expressions)) }) ∷ (record { target = (designator (named_at 70 (codes "b")) no_selectors); arguments = (more_expressions (just 72 (named 72 (designator (named_at 72 (codes "x")) no_selectors) no_expressions)) (more_expressions (just 74 (number 74 2)) no_expressions)) }) ∷ (record { target = (designator (named_at 77 (codes "c")) no_selectors); arguments = (more_expressions (just 79 (named 79 (designator (named_at 79 (codes "x")) no_selectors) no_expressions)) (more_expressions (just 81 (number 81 3)) no_expressions)) }) ∷ [])) no_statements) }); period = 84 }

-- type m = monitor; var q: queue; procedure entry hold; begin delay(q) end; procedure entry go(n: integer); begin display(n) end; begin end; a = process(x: m); begin x.hold end; b = process(x: m; n: integer); begin x.go(n) end; var x: m; r: a; s, t: b; begin init x, r(x), s(x, 1), t(x, 2) end.
abbrev pub delay_lets_line_in : Program
delay_lets_line_in =
    record { parts = ((program_types 0 ((record { name = (named_at 1 (codes "m")); value = (system_definition (record { at = 3; kind = system_kind.Monitor; parameters = ([]); has_semicolon = false; parts = ((variables 5 ((record { names = ((named_at 6 (codes "q")) ∷ []); variable_type = (simple 8 (type_name 8 (codes "queue"))) }) ∷ [])) ∷ []); routines = ((record { at = 10; is_entry = true; name = (named_at 12 (codes "hold")); kind = (procedure ([])); parts = ([]); body = (record { at = 14; statements = (more_statements (invoke 15 (designator (named_at 15 (codes "delay")) no_selectors) (more_expressions (just 17 (named 17 (designator (named_at 17 (codes "q")) no_selectors) no_expressions)) no_expressions)) no_statements) }) }) ∷ (record { at = 21; is_entry = true; name = (named_at 23 (codes "go")); kind = (procedure ((record { at = 25; is_var = false; group = (record { names = ((named_at 25 (codes "n")) ∷ []); type_name = (named_at 27 (codes "integer")) }) }) ∷ [])); parts = ([]); body = (record { at = 30; statements = (more_statements (invoke 31 (designator (named_at 31 (codes "display")) no_selectors) (more_expressions (just 33 (named 33 (designator (named_at 33 (codes "n")) no_selectors) no_expressions)) no_expressions)) no_statements) }) }) ∷ []); body = (record { at = 37; statements = (more_statements (empty 38) no_statements) }) })) }) ∷ (record { name = (named_at 40 (codes "a")); value = (system_definition (record { at = 42; kind = system_kind.Process; parameters = ((record { names = ((named_at 44 (codes "x")) ∷ []); type_name = (named_at 46 (codes "m")) }) ∷ []); has_semicolon = false; parts = ([]); routines = ([]); body = (record { at = 49; statements = (more_statements (invoke 50 (designator (named_at 50 (codes "x")) (more_selectors (field (named_at 52 (codes "hold"))) no_selectors)) no_expressions) no_statements) }) })) }) ∷ (record { name = (named_at 55 (codes "b")); value = (system_definition (record { at = 57; kind = system_kind.Process; parameters = ((record { names = ((named_at 59 (codes "x")) ∷ []); type_name = (named_at 61 (codes "m")) }) ∷ (record { names = ((named_at 63 (codes "n")) ∷ []); type_name = (named_at 65 (codes "integer")) }) ∷ []); has_semicolon = false; parts = ([]); routines = ([]); body = (record { at = 68; statements = (more_statements (invoke 69 (designator (named_at 69 (codes "x")) (more_selectors (field (named_at 71 (codes "go"))) no_selectors)) (more_expressions (just 73 (named 73 (designator (named_at 73 (codes "n")) no_selectors) no_expressions)) no_expressions)) no_statements) }) })) }) ∷ [])) ∷ (program_variables 77 ((record { names = ((named_at 78 (codes "x")) ∷ []); variable_type = (simple 80 (type_name 80 (codes "m"))) }) ∷ (record { names = ((named_at 82 (codes "r")) ∷ []); variable_type = (simple 84 (type_name 84 (codes "a"))) }) ∷ (record { names = ((named_at 86 (codes "s")) ∷ (named_at 88 (codes "t")) ∷ []); variable_type = (simple 90 (type_name 90 (codes "b"))) }) ∷ [])) ∷ []); routines = ([]); body = (record { at = 92; statements = (more_statements (init 93 ((record { target = (designator (named_at 94 (codes "x")) no_selectors); arguments = no_expressions }) ∷ (record { target = (designator (named_at 96 (codes "r")) no_selectors); arguments = (more_expressions (just 98 (named 98 (designator (named_at 98 (codes "x")) no_selectors) no_expressions)) no_expressions) }) ∷ (record { target = (designator (named_at 101 (codes "s")) no_selectors); arguments = (more_expressions (just 103 (named 103 (designator (named_at 103 (codes "x")) no_selectors) no_expressions)) (more_expressions (just 105 (number 105 1)) no_expressions)) }) ∷ (record { target = (designator (named_at 108 (codes "t")) no_selectors); arguments = (more_expressions (just 110 (named 110 (designator (named_at 110 (codes "x")) no_selectors) no_expressions)) (more_expressions (just 112 (number 112 2)) no_expressions)) }) ∷ [])) no_statements) }); period = 115 }
