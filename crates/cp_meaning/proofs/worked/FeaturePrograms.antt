-- Programs whose values are worked out.
use Rattle.cp_meaning.proofs.Words.{[], ◌∷◌, Some, None, true, false, codes, Plus, Minus, Or}
use Rattle.cp_tree.specs.declared.constant.Sign.TheVariants as sign
use Rattle.cp_tree.specs.declared.constant.ConstantKind.TheVariants as constant_kind
use Rattle.cp_tree.specs.declared.expression.Relation.TheVariants.{Equal, NotEqual, Less, Greater, AtLeast, In}
use Rattle.cp_tree.specs.declared.expression.Multiplication.TheVariants.{Times, Mod, And}
use Rattle.cp_tree.specs.declared.statement.Direction.TheVariants as direction
use Rattle.cp_tree.specs.declared.declaration.SystemKind.TheVariants as system_kind
use Rattle.cp_tree.specs.Syntax.{arm, no_arms, more_arms, case_of, cycle, alone, related, sum, no_terms, more_terms, term, no_factors, more_factors, number, character, named, group, negated, set_of, no_expressions, more_expressions, designator, no_selectors, more_selectors, field, index, empty, assign, invoke, while_do, repeat_until, for_do, init, no_statements, more_statements, type_name, enumeration, subrange, simple, array_of, set_type, record_of, no_fields, more_fields, fields, constants, variables, procedure, function, type_definition, system_definition, program_constants, program_types, program_variables, Program}
use Rattle.cp_meaning.proofs.Written.{named_at, just}

-- function f: integer; begin for f := 1 to 3 do end; begin display(f) end.
abbrev pub own_name_in_for : Program
own_name_in_for =
    record { parts = ([]); routines = ((record { at = 0; is_entry = false; name = (named_at 1 (codes "f")); kind = (function ([]) (named_at 3 (codes "integer"))); parts = ([]); body = (record { at = 5; statements = (more_statements (for_do 6 (named_at 7 (codes "f")) (just 9 (number 9 1)) direction.To (just 11 (number 11 3)) (empty 13)) no_statements) }) }) ∷ []); body = (record { at = 15; statements = (more_statements (invoke 16 (designator (named_at 16 (codes "display")) no_selectors) (more_expressions (just 18 (named 18 (designator (named_at 18 (codes "f")) no_selectors) no_expressions)) no_expressions)) no_statements) }); period = 21 }

-- var x: false..true; procedure p(var a: boolean); begin a := true end; begin p(x); display(x) end.
abbrev pub whole_subrange : Program
whole_subrange =
    record { parts = ((program_variables 0 ((record { names = ((named_at 1 (codes "x")) ∷ []); variable_type = (simple 3 (subrange 3 (record { at = 3; kind = constant_kind.Name None (named_at 3 (codes "false")) }) (record { at = 5; kind = constant_kind.Name None (named_at 5 (codes "true")) }))) }) ∷ [])) ∷ []); routines = ((record { at = 7; is_entry = false; name = (named_at 8 (codes "p")); kind = (procedure ((record { at = 10; is_var = true; group = (record { names = ((named_at 11 (codes "a")) ∷ []); type_name = (named_at 13 (codes "boolean")) }) }) ∷ [])); parts = ([]); body = (record { at = 16; statements = (more_statements (assign 17 (designator (named_at 17 (codes "a")) no_selectors) (just 19 (named 19 (designator (named_at 19 (codes "true")) no_selectors) no_expressions))) no_statements) }) }) ∷ []); body = (record { at = 22; statements = (more_statements (invoke 23 (designator (named_at 23 (codes "p")) no_selectors) (more_expressions (just 25 (named 25 (designator (named_at 25 (codes "x")) no_selectors) no_expressions)) no_expressions)) (more_statements (invoke 28 (designator (named_at 28 (codes "display")) no_selectors) (more_expressions (just 30 (named 30 (designator (named_at 30 (codes "x")) no_selectors) no_expressions)) no_expressions)) no_statements)) }); period = 33 }

-- type integer = integer; var x: integer; begin x := 1; display(x) end.
abbrev pub type_named_again : Program
type_named_again =
    record { parts = ((program_types 0 ((record { name = (named_at 1 (codes "integer")); value = (type_definition (simple 3 (type_name 3 (codes "integer")))) }) ∷ [])) ∷ (program_variables 5 ((record { names = ((named_at 6 (codes "x")) ∷ []); variable_type = (simple 8 (type_name 8 (codes "integer"))) }) ∷ [])) ∷ []); routines = ([]); body = (record { at = 10; statements = (more_statements (assign 11 (designator (named_at 11 (codes "x")) no_selectors) (just 13 (number 13 1))) (more_statements (invoke 15 (designator (named_at 15 (codes "display")) no_selectors) (more_expressions (just 17 (named 17 (designator (named_at 17 (codes "x")) no_selectors) no_expressions)) no_expressions)) no_statements)) }); period = 20 }

-- const true = 5; begin display(true) end.
abbrev pub constant_hides : Program
constant_hides =
    record { parts = ((program_constants 0 ((record { name = (named_at 1 (codes "true")); value = (record { at = 3; kind = constant_kind.Number None 5 }) }) ∷ [])) ∷ []); routines = ([]); body = (record { at = 5; statements = (more_statements (invoke 6 (designator (named_at 6 (codes "display")) no_selectors) (more_expressions (just 8 (named 8 (designator (named_at 8 (codes "true")) no_selectors) no_expressions)) no_expressions)) no_statements) }); period = 11 }

-- var x: integer; procedure q(var b: integer); begin b := b * 2 end; procedure p(var a: integer); const x = 3; begin q(a); a := a + x end; begin x := 4; p(x); display(x) end.
abbrev pub reference_passed_on : Program
reference_passed_on =
    record { parts = ((program_variables 0 ((record { names = ((named_at 1 (codes "x")) ∷ []); variable_type = (simple 3 (type_name 3 (codes "integer"))) }) ∷ [])) ∷ []); routines = ((record { at = 5; is_entry = false; name = (named_at 6 (codes "q")); kind = (procedure ((record { at = 8; is_var = true; group = (record { names = ((named_at 9 (codes "b")) ∷ []); type_name = (named_at 11 (codes "integer")) }) }) ∷ [])); parts = ([]); body = (record { at = 14; statements = (more_statements (assign 15 (designator (named_at 15 (codes "b")) no_selectors) (alone 17 (sum 17 None (term 17 (named 17 (designator (named_at 17 (codes "b")) no_selectors) no_expressions) (more_factors Times (number 19 2) no_factors)) no_terms))) no_statements) }) }) ∷ (record { at = 22; is_entry = false; name = (named_at 23 (codes "p")); kind = (procedure ((record { at = 25; is_var = true; group = (record { names = ((named_at 26 (codes "a")) ∷ []); type_name = (named_at 28 (codes "integer")) }) }) ∷ [])); parts = ((constants 31 ((record { name = (named_at 32 (codes "x")); value = (record { at = 34; kind = constant_kind.Number None 3 }) }) ∷ [])) ∷ []); body = (record { at = 36; statements = (more_statements (invoke 37 (designator (named_at 37 (codes "q")) no_selectors) (more_expressions (just 39 (named 39 (designator (named_at 39 (codes "a")) no_selectors) no_expressions)) no_expressions)) (more_statements (assign 42 (designator (named_at 42 (codes "a")) no_selectors) (alone 44 (sum 44 None (term 44 (named 44 (designator (named_at 44 (codes "a")) no_selectors) no_expressions) no_factors) (more_terms Plus (term 46 (named 46 (designator (named_at 46 (codes "x")) no_selectors) no_expressions) no_factors) no_terms)))) no_statements)) }) }) ∷ []); body = (record { at = 49; statements = (more_statements (assign 50 (designator (named_at 50 (codes "x")) no_selectors) (just 52 (number 52 4))) (more_statements (invoke 54 (designator (named_at 54 (codes "p")) no_selectors) (more_expressions (just 56 (named 56 (designator (named_at 56 (codes "x")) no_selectors) no_expressions)) no_expressions)) (more_statements (invoke 59 (designator (named_at 59 (codes "display")) no_selectors) (more_expressions (just 61 (named 61 (designator (named_at 61 (codes "x")) no_selectors) no_expressions)) no_expressions)) no_statements))) }); period = 64 }

-- type day = (mon, tue, wed); week = set of day; r = record work: week; first: day end; var v: r; function has(s: week; d: day): boolean; begin has := d in s end; begin v.work := [mon, wed]; v.first := succ(v.first); display(has(v.work, tue)); display(has(v.work, wed)); display(v.first); display(pred(wed)) end.
abbrev pub sets_in_records : Program
sets_in_records =
    record { parts = ((program_types 0 ((record { name = (named_at 1 (codes "day")); value = (type_definition (simple 3 (enumeration 3 ((named_at 4 (codes "mon")) ∷ (named_at 6 (codes "tue")) ∷ (named_at 8 (codes "wed")) ∷ [])))) }) ∷ (record { name = (named_at 11 (codes "week")); value = (type_definition (set_type 13 (type_name 15 (codes "day")))) }) ∷ (record { name = (named_at 17 (codes "r")); value = (type_definition (record_of 19 (more_fields (fields ((named_at 20 (codes "work")) ∷ []) (simple 22 (type_name 22 (codes "week")))) (more_fields (fields ((named_at 24 (codes "first")) ∷ []) (simple 26 (type_name 26 (codes "day")))) no_fields)) false)) }) ∷ [])) ∷ (program_variables 29 ((record { names = ((named_at 30 (codes "v")) ∷ []); variable_type = (simple 32 (type_name 32 (codes "r"))) }) ∷ [])) ∷ []); routines = ((record { at = 34; is_entry = false; name = (named_at 35 (codes "has")); kind = (function ((record { names = ((named_at 37 (codes "s")) ∷ []); type_name = (named_at 39 (codes "week")) }) ∷ (record { names = ((named_at 41 (codes "d")) ∷ []); type_name = (named_at 43 (codes "day")) }) ∷ []) (named_at 46 (codes "boolean"))); parts = ([]); body = (record { at = 48; statements = (more_statements (assign 49 (designator (named_at 49 (codes "has")) no_selectors) (related 51 (sum 51 None (term 51 (named 51 (designator (named_at 51 (codes "d")) no_selectors) no_expressions) no_factors) no_terms) In (sum 53 None (term 53 (named 53 (designator (named_at 53 (codes "s")) no_selectors) no_expressions) no_factors) no_terms))) no_statements) }) }) ∷ []); body = (record { at = 56; statements = (more_statements (assign 57 (designator (named_at 57 (codes "v")) (more_selectors (field (named_at 59 (codes "work"))) no_selectors)) (just 61 (set_of 61 (more_expressions (just 62 (named 62 (designator (named_at 62 (codes "mon")) no_selectors) no_expressions)) (more_expressions (just 64 (named 64 (designator (named_at 64 (codes "wed")) no_selectors) no_expressions)) no_expressions))))) (more_statements (assign 67 (designator (named_at 67 (codes "v")) (more_selectors (field (named_at 69 (codes "first"))) no_selectors)) (just 71 (named 71 (designator (named_at 71 (codes "succ")) no_selectors) (more_expressions (just 73 (named 73 (designator (named_at 73 (codes "v")) (more_selectors (field (named_at 75 (codes "first"))) no_selectors)) no_expressions)) no_expressions)))) (more_statements (invoke 78 (designator (named_at 78 (codes "display")) no_selectors) (more_expressions (just 80 (named 80 (designator (named_at 80 (codes "has")) no_selectors) (more_expressions (just 82 (named 82 (designator (named_at 82 (codes "v")) (more_selectors (field (named_at 84 (codes "work"))) no_selectors)) no_expressions)) (more_expressions (just 86 (named 86 (designator (named_at 86 (codes "tue")) no_selectors) no_expressions)) no_expressions)))) no_expressions)) (more_statements (invoke 90 (designator (named_at 90 (codes "display")) no_selectors) (more_expressions (just 92 (named 92 (designator (named_at 92 (codes "has")) no_selectors) (more_expressions (just 94 (named 94 (designator (named_at 94 (codes "v")) (more_selectors (field (named_at 96 (codes "work"))) no_selectors)) no_expressions)) (more_expressions (just 98 (named 98 (designator (named_at 98 (codes "wed")) no_selectors) no_expressions)) no_expressions)))) no_expressions)) (more_statements (invoke 102 (designator (named_at 102 (codes "display")) no_selectors) (more_expressions (just 104 (named 104 (designator (named_at 104 (codes "v")) (more_selectors (field (named_at 106 (codes "first"))) no_selectors)) no_expressions)) no_expressions)) (more_statements (invoke 109 (designator (named_at 109 (codes "display")) no_selectors) (more_expressions (just 111 (named 111 (designator (named_at 111 (codes "pred")) no_selectors) (more_expressions (just 113 (named 113 (designator (named_at 113 (codes "wed")) no_selectors) no_expressions)) no_expressions))) no_expressions)) no_statements)))))) }); period = 117 }

-- type k = class; var n: integer; procedure entry up; begin n := n + 1 end; function entry get: integer; begin get := n end; begin n := 5 end; m = monitor; var c: array [1..2] of k; procedure entry go(var r: integer); begin c[2].up; r := c[1].get * 100 + c[2].get end; begin init c[1], c[2] end; var x: m; v: integer; begin init x; x.go(v); display(v) end.
abbrev pub classes_in_monitor : Program
classes_in_monitor =
    record { parts = ((program_types 0 ((record { name = (named_at 1 (codes "k")); value = (system_definition (record { at = 3; kind = system_kind.Class; parameters = ([]); has_semicolon = true; parts = ((variables 5 ((record { names = ((named_at 6 (codes "n")) ∷ []); variable_type = (simple 8 (type_name 8 (codes "integer"))) }) ∷ [])) ∷ []); routines = ((record { at = 10; is_entry = true; name = (named_at 12 (codes "up")); kind = (procedure ([])); parts = ([]); body = (record { at = 14; statements = (more_statements (assign 15 (designator (named_at 15 (codes "n")) no_selectors) (alone 17 (sum 17 None (term 17 (named 17 (designator (named_at 17 (codes "n")) no_selectors) no_expressions) no_factors) (more_terms Plus (term 19 (number 19 1) no_factors) no_terms)))) no_statements) }) }) ∷ (record { at = 22; is_entry = true; name = (named_at 24 (codes "get")); kind = (function ([]) (named_at 26 (codes "integer"))); parts = ([]); body = (record { at = 28; statements = (more_statements (assign 29 (designator (named_at 29 (codes "get")) no_selectors) (just 31 (named 31 (designator (named_at 31 (codes "n")) no_selectors) no_expressions))) no_statements) }) }) ∷ []); body = (record { at = 34; statements = (more_statements (assign 35 (designator (named_at 35 (codes "n")) no_selectors) (just 37 (number 37 5))) no_statements) }) })) }) ∷ (record { name = (named_at 40 (codes "m")); value = (system_definition (record { at = 42; kind = system_kind.Monitor; parameters = ([]); has_semicolon = true; parts = ((variables 44 ((record { names = ((named_at 45 (codes "c")) ∷ []); variable_type = (array_of 47 (subrange 49 (record { at = 49; kind = constant_kind.Number None 1 }) (record { at = 51; kind = constant_kind.Number None 2 })) (simple 54 (type_name 54 (codes "k")))) }) ∷ [])) ∷ []); routines = ((record { at = 56; is_entry = true; name = (named_at 58 (codes "go")); kind = (procedure ((record { at = 60; is_var = true; group = (record { names = ((named_at 61 (codes "r")) ∷ []); type_name = (named_at 63 (codes "integer")) }) }) ∷ [])); parts = ([]); body = (record { at = 66; statements = (more_statements (invoke 67 (designator (named_at 67 (codes "c")) (more_selectors (index (just 69 (number 69 2))) (more_selectors (field (named_at 72 (codes "up"))) no_selectors))) no_expressions) (more_statements (assign 74 (designator (named_at 74 (codes "r")) no_selectors) (alone 76 (sum 76 None (term 76 (named 76 (designator (named_at 76 (codes "c")) (more_selectors (index (just 78 (number 78 1))) (more_selectors (field (named_at 81 (codes "get"))) no_selectors))) no_expressions) (more_factors Times (number 83 100) no_factors)) (more_terms Plus (term 85 (named 85 (designator (named_at 85 (codes "c")) (more_selectors (index (just 87 (number 87 2))) (more_selectors (field (named_at 90 (codes "get"))) no_selectors))) no_expressions) no_factors) no_terms)))) no_statements)) }) }) ∷ []); body = (record { at = 93; statements = (more_statements (init 94 ((record { target = (designator (named_at 95 (codes "c")) (more_selectors (index (just 97 (number 97 1))) no_selectors)); arguments = no_expressions }) ∷ (record { target = (designator (named_at 100 (codes "c")) (more_selectors (index (just 102 (number 102 2))) no_selectors)); arguments = no_expressions }) ∷ [])) no_statements) }) })) }) ∷ [])) ∷ (program_variables 106 ((record { names = ((named_at 107 (codes "x")) ∷ []); variable_type = (simple 109 (type_name 109 (codes "m"))) }) ∷ (record { names = ((named_at 111 (codes "v")) ∷ []); variable_type = (simple 113 (type_name 113 (codes "integer"))) }) ∷ [])) ∷ []); routines = ([]); body = (record { at = 115; statements = (more_statements (init 116 ((record { target = (designator (named_at 117 (codes "x")) no_selectors); arguments = no_expressions }) ∷ [])) (more_statements (invoke 119 (designator (named_at 119 (codes "x")) (more_selectors (field (named_at 121 (codes "go"))) no_selectors)) (more_expressions (just 123 (named 123 (designator (named_at 123 (codes "v")) no_selectors) no_expressions)) no_expressions)) (more_statements (invoke 126 (designator (named_at 126 (codes "display")) no_selectors) (more_expressions (just 128 (named 128 (designator (named_at 128 (codes "v")) no_selectors) no_expressions)) no_expressions)) no_statements))) }); period = 131 }

-- var a: array [0..2] of char; i: integer; begin for i := 2 downto 0 do a[i] := chr(ord('x') + i); display(a[1]); i := 0; repeat a[i] := pred(a[i]); i := i + 1 until i > 2; display(a[0]) end.
abbrev pub array_of_chars : Program
array_of_chars =
    record { parts = ((program_variables 0 ((record { names = ((named_at 1 (codes "a")) ∷ []); variable_type = (array_of 3 (subrange 5 (record { at = 5; kind = constant_kind.Number None 0 }) (record { at = 7; kind = constant_kind.Number None 2 })) (simple 10 (type_name 10 (codes "char")))) }) ∷ (record { names = ((named_at 12 (codes "i")) ∷ []); variable_type = (simple 14 (type_name 14 (codes "integer"))) }) ∷ [])) ∷ []); routines = ([]); body = (record { at = 16; statements = (more_statements (for_do 17 (named_at 18 (codes "i")) (just 20 (number 20 2)) direction.Downto (just 22 (number 22 0)) (assign 24 (designator (named_at 24 (codes "a")) (more_selectors (index (just 26 (named 26 (designator (named_at 26 (codes "i")) no_selectors) no_expressions))) no_selectors)) (just 29 (named 29 (designator (named_at 29 (codes "chr")) no_selectors) (more_expressions (alone 31 (sum 31 None (term 31 (named 31 (designator (named_at 31 (codes "ord")) no_selectors) (more_expressions (just 33 (character 33 120)) no_expressions)) no_factors) (more_terms Plus (term 36 (named 36 (designator (named_at 36 (codes "i")) no_selectors) no_expressions) no_factors) no_terms))) no_expressions))))) (more_statements (invoke 39 (designator (named_at 39 (codes "display")) no_selectors) (more_expressions (just 41 (named 41 (designator (named_at 41 (codes "a")) (more_selectors (index (just 43 (number 43 1))) no_selectors)) no_expressions)) no_expressions)) (more_statements (assign 47 (designator (named_at 47 (codes "i")) no_selectors) (just 49 (number 49 0))) (more_statements (repeat_until 51 (more_statements (assign 52 (designator (named_at 52 (codes "a")) (more_selectors (index (just 54 (named 54 (designator (named_at 54 (codes "i")) no_selectors) no_expressions))) no_selectors)) (just 57 (named 57 (designator (named_at 57 (codes "pred")) no_selectors) (more_expressions (just 59 (named 59 (designator (named_at 59 (codes "a")) (more_selectors (index (just 61 (named 61 (designator (named_at 61 (codes "i")) no_selectors) no_expressions))) no_selectors)) no_expressions)) no_expressions)))) (more_statements (assign 65 (designator (named_at 65 (codes "i")) no_selectors) (alone 67 (sum 67 None (term 67 (named 67 (designator (named_at 67 (codes "i")) no_selectors) no_expressions) no_factors) (more_terms Plus (term 69 (number 69 1) no_factors) no_terms)))) no_statements)) (related 71 (sum 71 None (term 71 (named 71 (designator (named_at 71 (codes "i")) no_selectors) no_expressions) no_factors) no_terms) Greater (sum 73 None (term 73 (number 73 2) no_factors) no_terms))) (more_statements (invoke 75 (designator (named_at 75 (codes "display")) no_selectors) (more_expressions (just 77 (named 77 (designator (named_at 77 (codes "a")) (more_selectors (index (just 79 (number 79 0))) no_selectors)) no_expressions)) no_expressions)) no_statements))))) }); period = 83 }

-- var n: integer; function f: boolean; begin n := n + 1; f := n < 3 end; begin while f do display(n); display(n * 10) end.
abbrev pub call_at_each_test : Program
call_at_each_test =
    record { parts = ((program_variables 0 ((record { names = ((named_at 1 (codes "n")) ∷ []); variable_type = (simple 3 (type_name 3 (codes "integer"))) }) ∷ [])) ∷ []); routines = ((record { at = 5; is_entry = false; name = (named_at 6 (codes "f")); kind = (function ([]) (named_at 8 (codes "boolean"))); parts = ([]); body = (record { at = 10; statements = (more_statements (assign 11 (designator (named_at 11 (codes "n")) no_selectors) (alone 13 (sum 13 None (term 13 (named 13 (designator (named_at 13 (codes "n")) no_selectors) no_expressions) no_factors) (more_terms Plus (term 15 (number 15 1) no_factors) no_terms)))) (more_statements (assign 17 (designator (named_at 17 (codes "f")) no_selectors) (related 19 (sum 19 None (term 19 (named 19 (designator (named_at 19 (codes "n")) no_selectors) no_expressions) no_factors) no_terms) Less (sum 21 None (term 21 (number 21 3) no_factors) no_terms))) no_statements)) }) }) ∷ []); body = (record { at = 24; statements = (more_statements (while_do 25 (just 26 (named 26 (designator (named_at 26 (codes "f")) no_selectors) no_expressions)) (invoke 28 (designator (named_at 28 (codes "display")) no_selectors) (more_expressions (just 30 (named 30 (designator (named_at 30 (codes "n")) no_selectors) no_expressions)) no_expressions))) (more_statements (invoke 33 (designator (named_at 33 (codes "display")) no_selectors) (more_expressions (alone 35 (sum 35 None (term 35 (named 35 (designator (named_at 35 (codes "n")) no_selectors) no_expressions) (more_factors Times (number 37 10) no_factors)) no_terms)) no_expressions)) no_statements)) }); period = 40 }

-- var n: integer; function f: integer; begin n := n + 1; f := n end; begin repeat display(7) until f >= 2 end.
abbrev pub call_at_each_until : Program
call_at_each_until =
    record { parts = ((program_variables 0 ((record { names = ((named_at 1 (codes "n")) ∷ []); variable_type = (simple 3 (type_name 3 (codes "integer"))) }) ∷ [])) ∷ []); routines = ((record { at = 5; is_entry = false; name = (named_at 6 (codes "f")); kind = (function ([]) (named_at 8 (codes "integer"))); parts = ([]); body = (record { at = 10; statements = (more_statements (assign 11 (designator (named_at 11 (codes "n")) no_selectors) (alone 13 (sum 13 None (term 13 (named 13 (designator (named_at 13 (codes "n")) no_selectors) no_expressions) no_factors) (more_terms Plus (term 15 (number 15 1) no_factors) no_terms)))) (more_statements (assign 17 (designator (named_at 17 (codes "f")) no_selectors) (just 19 (named 19 (designator (named_at 19 (codes "n")) no_selectors) no_expressions))) no_statements)) }) }) ∷ []); body = (record { at = 22; statements = (more_statements (repeat_until 23 (more_statements (invoke 24 (designator (named_at 24 (codes "display")) no_selectors) (more_expressions (just 26 (number 26 7)) no_expressions)) no_statements) (related 29 (sum 29 None (term 29 (named 29 (designator (named_at 29 (codes "f")) no_selectors) no_expressions) no_factors) no_terms) AtLeast (sum 31 None (term 31 (number 31 2) no_factors) no_terms))) no_statements) }); period = 33 }

-- begin display(not (1 > 2) and ('b' >= 'a') or false); display(false = true); display(1 <> 2) end.
abbrev pub truth_values : Program
truth_values =
    record { parts = ([]); routines = ([]); body = (record { at = 0; statements = (more_statements (invoke 1 (designator (named_at 1 (codes "display")) no_selectors) (more_expressions (alone 3 (sum 3 None (term 3 (negated 3 (group 4 (related 5 (sum 5 None (term 5 (number 5 1) no_factors) no_terms) Greater (sum 7 None (term 7 (number 7 2) no_factors) no_terms)))) (more_factors And (group 10 (related 11 (sum 11 None (term 11 (character 11 98) no_factors) no_terms) AtLeast (sum 13 None (term 13 (character 13 97) no_factors) no_terms))) no_factors)) (more_terms Or (term 16 (named 16 (designator (named_at 16 (codes "false")) no_selectors) no_expressions) no_factors) no_terms))) no_expressions)) (more_statements (invoke 19 (designator (named_at 19 (codes "display")) no_selectors) (more_expressions (related 21 (sum 21 None (term 21 (named 21 (designator (named_at 21 (codes "false")) no_selectors) no_expressions) no_factors) no_terms) Equal (sum 23 None (term 23 (named 23 (designator (named_at 23 (codes "true")) no_selectors) no_expressions) no_factors) no_terms)) no_expressions)) (more_statements (invoke 26 (designator (named_at 26 (codes "display")) no_selectors) (more_expressions (related 28 (sum 28 None (term 28 (number 28 1) no_factors) no_terms) NotEqual (sum 30 None (term 30 (number 30 2) no_factors) no_terms)) no_expressions)) no_statements))) }); period = 33 }

-- begin display(7 mod (-2)); display((-7) mod 2); display(2 * 3 - 4 * 5); display(abs(-5)) end.
abbrev pub arithmetic : Program
arithmetic =
    record { parts = ([]); routines = ([]); body = (record { at = 0; statements = (more_statements (invoke 1 (designator (named_at 1 (codes "display")) no_selectors) (more_expressions (alone 3 (sum 3 None (term 3 (number 3 7) (more_factors Mod (group 5 (alone 6 (sum 6 (Some sign.Minus) (term 7 (number 7 2) no_factors) no_terms))) no_factors)) no_terms)) no_expressions)) (more_statements (invoke 11 (designator (named_at 11 (codes "display")) no_selectors) (more_expressions (alone 13 (sum 13 None (term 13 (group 13 (alone 14 (sum 14 (Some sign.Minus) (term 15 (number 15 7) no_factors) no_terms))) (more_factors Mod (number 18 2) no_factors)) no_terms)) no_expressions)) (more_statements (invoke 21 (designator (named_at 21 (codes "display")) no_selectors) (more_expressions (alone 23 (sum 23 None (term 23 (number 23 2) (more_factors Times (number 25 3) no_factors)) (more_terms Minus (term 27 (number 27 4) (more_factors Times (number 29 5) no_factors)) no_terms))) no_expressions)) (more_statements (invoke 32 (designator (named_at 32 (codes "display")) no_selectors) (more_expressions (just 34 (named 34 (designator (named_at 34 (codes "abs")) no_selectors) (more_expressions (alone 36 (sum 36 (Some sign.Minus) (term 37 (number 37 5) no_factors) no_terms)) no_expressions))) no_expressions)) no_statements)))) }); period = 41 }

-- var n: integer; begin cycle n := n + 1; case n of 1, 2: display(n) end end end.
abbrev pub cycle_until_no_case : Program
cycle_until_no_case =
    record { parts = ((program_variables 0 ((record { names = ((named_at 1 (codes "n")) ∷ []); variable_type = (simple 3 (type_name 3 (codes "integer"))) }) ∷ [])) ∷ []); routines = ([]); body = (record { at = 5; statements = (more_statements (cycle 6 (more_statements (assign 7 (designator (named_at 7 (codes "n")) no_selectors) (alone 9 (sum 9 None (term 9 (named 9 (designator (named_at 9 (codes "n")) no_selectors) no_expressions) no_factors) (more_terms Plus (term 11 (number 11 1) no_factors) no_terms)))) (more_statements (case_of 13 (just 14 (named 14 (designator (named_at 14 (codes "n")) no_selectors) no_expressions)) (more_arms (arm ((record { at = 16; kind = constant_kind.Number None 1 }) ∷ (record { at = 18; kind = constant_kind.Number None 2 }) ∷ []) (invoke 20 (designator (named_at 20 (codes "display")) no_selectors) (more_expressions (just 22 (named 22 (designator (named_at 22 (codes "n")) no_selectors) no_expressions)) no_expressions))) no_arms) false) no_statements))) no_statements) }); period = 27 }

-- type m = monitor; var q: queue; procedure entry go(var b: boolean); begin b := empty(q) end; begin end; var x: m; b: boolean; begin init x; x.go(b); display(b) end.
abbrev pub empty_queue : Program
empty_queue =
    record { parts = ((program_types 0 ((record { name = (named_at 1 (codes "m")); value = (system_definition (record { at = 3; kind = system_kind.Monitor; parameters = ([]); has_semicolon = true; parts = ((variables 5 ((record { names = ((named_at 6 (codes "q")) ∷ []); variable_type = (simple 8 (type_name 8 (codes "queue"))) }) ∷ [])) ∷ []); routines = ((record { at = 10; is_entry = true; name = (named_at 12 (codes "go")); kind = (procedure ((record { at = 14; is_var = true; group = (record { names = ((named_at 15 (codes "b")) ∷ []); type_name = (named_at 17 (codes "boolean")) }) }) ∷ [])); parts = ([]); body = (record { at = 20; statements = (more_statements (assign 21 (designator (named_at 21 (codes "b")) no_selectors) (just 23 (named 23 (designator (named_at 23 (codes "empty")) no_selectors) (more_expressions (just 25 (named 25 (designator (named_at 25 (codes "q")) no_selectors) no_expressions)) no_expressions)))) no_statements) }) }) ∷ []); body = (record { at = 29; statements = (more_statements (empty 30) no_statements) }) })) }) ∷ [])) ∷ (program_variables 32 ((record { names = ((named_at 33 (codes "x")) ∷ []); variable_type = (simple 35 (type_name 35 (codes "m"))) }) ∷ (record { names = ((named_at 37 (codes "b")) ∷ []); variable_type = (simple 39 (type_name 39 (codes "boolean"))) }) ∷ [])) ∷ []); routines = ([]); body = (record { at = 41; statements = (more_statements (init 42 ((record { target = (designator (named_at 43 (codes "x")) no_selectors); arguments = no_expressions }) ∷ [])) (more_statements (invoke 45 (designator (named_at 45 (codes "x")) (more_selectors (field (named_at 47 (codes "go"))) no_selectors)) (more_expressions (just 49 (named 49 (designator (named_at 49 (codes "b")) no_selectors) no_expressions)) no_expressions)) (more_statements (invoke 52 (designator (named_at 52 (codes "display")) no_selectors) (more_expressions (just 54 (named 54 (designator (named_at 54 (codes "b")) no_selectors) no_expressions)) no_expressions)) no_statements))) }); period = 57 }

-- type range = 1..5; m = monitor; procedure entry range(x: range); begin display(x) end; begin end; var v: m; begin init v; v.range(7) end.
abbrev pub own_name_in_heading : Program
own_name_in_heading =
    record { parts = ((program_types 0 ((record { name = (named_at 1 (codes "range")); value = (type_definition (simple 3 (subrange 3 (record { at = 3; kind = constant_kind.Number None 1 }) (record { at = 5; kind = constant_kind.Number None 5 })))) }) ∷ (record { name = (named_at 7 (codes "m")); value = (system_definition (record { at = 9; kind = system_kind.Monitor; parameters = ([]); has_semicolon = true; parts = ([]); routines = ((record { at = 11; is_entry = true; name = (named_at 13 (codes "range")); kind = (procedure ((record { at = 15; is_var = false; group = (record { names = ((named_at 15 (codes "x")) ∷ []); type_name = (named_at 17 (codes "range")) }) }) ∷ [])); parts = ([]); body = (record { at = 20; statements = (more_statements (invoke 21 (designator (named_at 21 (codes "display")) no_selectors) (more_expressions (just 23 (named 23 (designator (named_at 23 (codes "x")) no_selectors) no_expressions)) no_expressions)) no_statements) }) }) ∷ []); body = (record { at = 27; statements = (more_statements (empty 28) no_statements) }) })) }) ∷ [])) ∷ (program_variables 30 ((record { names = ((named_at 31 (codes "v")) ∷ []); variable_type = (simple 33 (type_name 33 (codes "m"))) }) ∷ [])) ∷ []); routines = ([]); body = (record { at = 35; statements = (more_statements (init 36 ((record { target = (designator (named_at 37 (codes "v")) no_selectors); arguments = no_expressions }) ∷ [])) (more_statements (invoke 39 (designator (named_at 39 (codes "v")) (more_selectors (field (named_at 41 (codes "range"))) no_selectors)) (more_expressions (just 43 (number 43 7)) no_expressions)) no_statements)) }); period = 46 }
