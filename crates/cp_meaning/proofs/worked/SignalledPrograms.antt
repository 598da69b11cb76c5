-- Programs in which somebody goes on after a continue.
use Rattle.std.specs.Prelude.{[], ◌∷◌, true, codes}
use Rattle.cp_tree.specs.declared.declaration.SystemKind.TheVariants as system_kind
use Rattle.cp_tree.specs.Syntax.{number, named, no_expressions, more_expressions, designator, no_selectors, more_selectors, field, empty, invoke, init, no_statements, more_statements, type_name, simple, variables, procedure, system_definition, program_types, program_variables, Program}
use Rattle.cp_meaning.proofs.Written.{named_at, just}

-- type m = monitor; var q: queue; procedure entry hold; begin delay(q); display(1) end; procedure entry go; begin display(2); continue(q); display(4) end; procedure entry look; begin display(3) end; begin end; a = process(x: m); begin x.hold end; b = process(x: m); begin x.go end; c = process(x: m); begin x.look end; var x: m; r: a; s: b; t: c; begin init x, r(x), s(x), t(x) end.
abbrev pub goes_on_after_continue : Program
goes_on_after_continue =
    record { parts = ((program_types 0 ((record { name = (named_at 1 (codes "m")); value = (system_definition (record { at = 3; kind = system_kind.Monitor; parameters = ([]); has_semicolon = true; parts = ((variables 5 ((record { names = ((named_at 6 (codes "q")) ∷ []); variable_type = (simple 8 (type_name 8 (codes "queue"))) }) ∷ [])) ∷ []); routines = ((record { at = 10; is_entry = true; name = (named_at 12 (codes "hold")); kind = (procedure ([])); parts = ([]); body = (record { at = 14; statements = (more_statements (invoke 15 (designator (named_at 15 (codes "delay")) no_selectors) (more_expressions (just 17 (named 17 (designator (named_at 17 (codes "q")) no_selectors) no_expressions)) no_expressions)) (more_statements (invoke 20 (designator (named_at 20 (codes "display")) no_selectors) (more_expressions (just 22 (number 22 1)) no_expressions)) no_statements)) }) }) ∷ (record { at = 26; is_entry = true; name = (named_at 28 (codes "go")); kind = (procedure ([])); parts = ([]); body = (record { at = 30; statements = (more_statements (invoke 31 (designator (named_at 31 (codes "display")) no_selectors) (more_expressions (just 33 (number 33 2)) no_expressions)) (more_statements (invoke 36 (designator (named_at 36 (codes "continue")) no_selectors) (more_expressions (just 38 (named 38 (designator (named_at 38 (codes "q")) no_selectors) no_expressions)) no_expressions)) (more_statements (invoke 41 (designator (named_at 41 (codes "display")) no_selectors) (more_expressions (just 43 (number 43 4)) no_expressions)) no_statements))) }) }) ∷ (record { at = 47; is_entry = true; name = (named_at 49 (codes "look")); kind = (procedure ([])); parts = ([]); body = (record { at = 51; statements = (more_statements (invoke 52 (designator (named_at 52 (codes "display")) no_selectors) (more_expressions (just 54 (number 54 3)) no_expressions)) no_statements) }) }) ∷ []); body = (record { at = 58; statements = (more_statements (empty 59) no_statements) }) })) }) ∷ (record { name = (named_at 61 (codes "a")); value = (system_definition (record { at = 63; kind = system_kind.Process; parameters = ((record { names = ((named_at 65 (codes "x")) ∷ []); type_name = (named_at 67 (codes "m")) }) ∷ []); has_semicolon = true; parts = ([]); routines = ([]); body = (record { at = 70; statements = (more_statements (invoke 71 (designator (named_at 71 (codes "x")) (more_selectors (field (named_at 73 (codes "hold"))) no_selectors)) no_expressions) no_statements) }) })) }) ∷ (record { name = (named_at 76 (codes "b")); value = (system_definition (record { at = 78; kind = system_kind.Process; parameters = ((record { names = ((named_at 80 (codes "x")) ∷ []); type_name = (named_at 82 (codes "m")) }) ∷ []); has_semicolon = true; parts = ([]); routines = ([]); body = (record { at = 85; statements = (more_statements (invoke 86 (designator (named_at 86 (codes "x")) (more_selectors (field (named_at 88 (codes "go"))) no_selectors)) no_expressions) no_statements) }) })) }) ∷ (record { name = (named_at 91 (codes "c")); value = (system_definition (record { at = 93; kind = system_kind.Process; parameters = ((record { names = ((named_at 95 (codes "x")) ∷ []); type_name = (named_at 97 (codes "m")) }) ∷ []); has_semicolon = true; parts = ([]); routines = ([]); body = (record { at = 100; statements = (more_statements (invoke 101 (designator (named_at 101 (codes "x")) (more_selectors (field (named_at 103 (codes "look"))) no_selectors)) no_expressions) no_statements) }) })) }) ∷ [])) ∷ (program_variables 106 ((record { names = ((named_at 107 (codes "x")) ∷ []); variable_type = (simple 109 (type_name 109 (codes "m"))) }) ∷ (record { names = ((named_at 111 (codes "r")) ∷ []); variable_type = (simple 113 (type_name 113 (codes "a"))) }) ∷ (record { names = ((named_at 115 (codes "s")) ∷ []); variable_type = (simple 117 (type_name 117 (codes "b"))) }) ∷ (record { names = ((named_at 119 (codes "t")) ∷ []); variable_type = (simple 121 (type_name 121 (codes "c"))) }) ∷ [])) ∷ []); routines = ([]); body = (record { at = 123; statements = (more_statements (init 124 ((record { target = (designator (named_at 125 (codes "x")) no_selectors); arguments = no_expressions }) ∷ (record { target = (designator (named_at 127 (codes "r")) no_selectors); arguments = (more_expressions (just 129 (named 129 (designator (named_at 129 (codes "x")) no_selectors) no_expressions)) no_expressions) }) ∷ (record { target = (designator (named_at 132 (codes "s")) no_selectors); arguments = (more_expressions (just 134 (named 134 (designator (named_at 134 (codes "x")) no_selectors) no_expressions)) no_expressions) }) ∷ (record { target = (designator (named_at 137 (codes "t")) no_selectors); arguments = (more_expressions (just 139 (named 139 (designator (named_at 139 (codes "x")) no_selectors) no_expressions)) no_expressions) }) ∷ [])) no_statements) }); period = 142 }

-- type m = monitor; var q, r: queue; procedure entry first; begin delay(q); continue(r); display(1) end; procedure entry second; begin delay(r); display(2) end; procedure entry third; begin continue(q); display(3) end; procedure entry look; begin display(4) end; begin end; a = process(x: m); begin x.first end; b = process(x: m); begin x.second end; c = process(x: m); begin x.third end; d = process(x: m); begin x.look end; var x: m; i: a; j: b; k: c; l: d; begin init x, i(x), j(x), k(x), l(x) end.
abbrev pub two_signallers : Program
two_signallers =
    record { parts = ((program_types 0 ((record { name = (named_at 1 (codes "m")); value = (system_definition (record { at = 3; kind = system_kind.Monitor; parameters = ([]); has_semicolon = true; parts = ((variables 5 ((record { names = ((named_at 6 (codes "q")) ∷ (named_at 8 (codes "r")) ∷ []); variable_type = (simple 10 (type_name 10 (codes "queue"))) }) ∷ [])) ∷ []); routines = ((record { at = 12; is_entry = true; name = (named_at 14 (codes "first")); kind = (procedure ([])); parts = ([]); body = (record { at = 16; statements = (more_statements (invoke 17 (designator (named_at 17 (codes "delay")) no_selectors) (more_expressions (just 19 (named 19 (designator (named_at 19 (codes "q")) no_selectors) no_expressions)) no_expressions)) (more_statements (invoke 22 (designator (named_at 22 (codes "continue")) no_selectors) (more_expressions (just 24 (named 24 (designator (named_at 24 (codes "r")) no_selectors) no_expressions)) no_expressions)) (more_statements (invoke 27 (designator (named_at 27 (codes "display")) no_selectors) (more_expressions (just 29 (number 29 1)) no_expressions)) no_statements))) }) }) ∷ (record { at = 33; is_entry = true; name = (named_at 35 (codes "second")); kind = (procedure ([])); parts = ([]); body = (record { at = 37; statements = (more_statements (invoke 38 (designator (named_at 38 (codes "delay")) no_selectors) (more_expressions (just 40 (named 40 (designator (named_at 40 (codes "r")) no_selectors) no_expressions)) no_expressions)) (more_statements (invoke 43 (designator (named_at 43 (codes "display")) no_selectors) (more_expressions (just 45 (number 45 2)) no_expressions)) no_statements)) }) }) ∷ (record { at = 49; is_entry = true; name = (named_at 51 (codes "third")); kind = (procedure ([])); parts = ([]); body = (record { at = 53; statements = (more_statements (invoke 54 (designator (named_at 54 (codes "continue")) no_selectors) (more_expressions (just 56 (named 56 (designator (named_at 56 (codes "q")) no_selectors) no_expressions)) no_expressions)) (more_statements (invoke 59 (designator (named_at 59 (codes "display")) no_selectors) (more_expressions (just 61 (number 61 3)) no_expressions)) no_statements)) }) }) ∷ (record { at = 65; is_entry = true; name = (named_at 67 (codes "look")); kind = (procedure ([])); parts = ([]); body = (record { at = 69; statements = (more_statements (invoke 70 (designator (named_at 70 (codes "display")) no_selectors) (more_expressions (just 72 (number 72 4)) no_expressions)) no_statements) }) }) ∷ []); body = (record { at = 76; statements = (more_statements (empty 77) no_statements) }) })) }) ∷ (record { name = (named_at 79 (codes "a")); value = (system_definition (record { at = 81; kind = system_kind.Process; parameters = ((record { names = ((named_at 83 (codes "x")) ∷ []); type_name = (named_at 85 (codes "m")) }) ∷ []); has_semicolon = true; parts = ([]); routines = ([]); body = (record { at = 88; statements = (more_statements (invoke 89 (designator (named_at 89 (codes "x")) (more_selectors (field (named_at 91 (codes "first"))) no_selectors)) no_expressions) no_statements) }) })) }) ∷ (record { name = (named_at 94 (codes "b")); value = (system_definition (record { at = 96; kind = system_kind.Process; parameters = ((record { names = ((named_at 98 (codes "x")) ∷ []); type_name = (named_at 100 (codes "m")) }) ∷ []); has_semicolon = true; parts = ([]); routines = ([]); body = (record { at = 103; statements = (more_statements (invoke 104 (designator (named_at 104 (codes "x")) (more_selectors (field (named_at 106 (codes "second"))) no_selectors)) no_expressions) no_statements) }) })) }) ∷ (record { name = (named_at 109 (codes "c")); value = (system_definition (record { at = 111; kind = system_kind.Process; parameters = ((record { names = ((named_at 113 (codes "x")) ∷ []); type_name = (named_at 115 (codes "m")) }) ∷ []); has_semicolon = true; parts = ([]); routines = ([]); body = (record { at = 118; statements = (more_statements (invoke 119 (designator (named_at 119 (codes "x")) (more_selectors (field (named_at 121 (codes "third"))) no_selectors)) no_expressions) no_statements) }) })) }) ∷ (record { name = (named_at 124 (codes "d")); value = (system_definition (record { at = 126; kind = system_kind.Process; parameters = ((record { names = ((named_at 128 (codes "x")) ∷ []); type_name = (named_at 130 (codes "m")) }) ∷ []); has_semicolon = true; parts = ([]); routines = ([]); body = (record { at = 133; statements = (more_statements (invoke 134 (designator (named_at 134 (codes "x")) (more_selectors (field (named_at 136 (codes "look"))) no_selectors)) no_expressions) no_statements) }) })) }) ∷ [])) ∷ (program_variables 139 ((record { names = ((named_at 140 (codes "x")) ∷ []); variable_type = (simple 142 (type_name 142 (codes "m"))) }) ∷ (record { names = ((named_at 144 (codes "i")) ∷ []); variable_type = (simple 146 (type_name 146 (codes "a"))) }) ∷ (record { names = ((named_at 148 (codes "j")) ∷ []); variable_type = (simple 150 (type_name 150 (codes "b"))) }) ∷ (record { names = ((named_at 152 (codes "k")) ∷ []); variable_type = (simple 154 (type_name 154 (codes "c"))) }) ∷ (record { names = ((named_at 156 (codes "l")) ∷ []); variable_type = (simple 158 (type_name 158 (codes "d"))) }) ∷ [])) ∷ []); routines = ([]); body = (record { at = 160; statements = (more_statements (init 161 ((record { target = (designator (named_at 162 (codes "x")) no_selectors); arguments = no_expressions }) ∷ (record { target = (designator (named_at 164 (codes "i")) no_selectors); arguments = (more_expressions (just 166 (named 166 (designator (named_at 166 (codes "x")) no_selectors) no_expressions)) no_expressions) }) ∷ (record { target = (designator (named_at 169 (codes "j")) no_selectors); arguments = (more_expressions (just 171 (named 171 (designator (named_at 171 (codes "x")) no_selectors) no_expressions)) no_expressions) }) ∷ (record { target = (designator (named_at 174 (codes "k")) no_selectors); arguments = (more_expressions (just 176 (named 176 (designator (named_at 176 (codes "x")) no_selectors) no_expressions)) no_expressions) }) ∷ (record { target = (designator (named_at 179 (codes "l")) no_selectors); arguments = (more_expressions (just 181 (named 181 (designator (named_at 181 (codes "x")) no_selectors) no_expressions)) no_expressions) }) ∷ [])) no_statements) }); period = 184 }

-- type m = monitor; var q: queue; procedure entry hold; begin delay(q); display(1) end; procedure entry go; begin continue(q); delay(q) end; begin end; a = process(x: m); begin x.hold end; b = process(x: m); begin x.go end; var x: m; r: a; s: b; begin init x, r(x), s(x) end.
abbrev pub queue_free_again : Program
queue_free_again =
    record { parts = ((program_types 0 ((record { name = (named_at 1 (codes "m")); value = (system_definition (record { at = 3; kind = system_kind.Monitor; parameters = ([]); has_semicolon = true; parts = ((variables 5 ((record { names = ((named_at 6 (codes "q")) ∷ []); variable_type = (simple 8 (type_name 8 (codes "queue"))) }) ∷ [])) ∷ []); routines = ((record { at = 10; is_entry = true; name = (named_at 12 (codes "hold")); kind = (procedure ([])); parts = ([]); body = (record { at = 14; statements = (more_statements (invoke 15 (designator (named_at 15 (codes "delay")) no_selectors) (more_expressions (just 17 (named 17 (designator (named_at 17 (codes "q")) no_selectors) no_expressions)) no_expressions)) (more_statements (invoke 20 (designator (named_at 20 (codes "display")) no_selectors) (more_expressions (just 22 (number 22 1)) no_expressions)) no_statements)) }) }) ∷ (record { at = 26; is_entry = true; name = (named_at 28 (codes "go")); kind = (procedure ([])); parts = ([]); body = (record { at = 30; statements = (more_statements (invoke 31 (designator (named_at 31 (codes "continue")) no_selectors) (more_expressions (just 33 (named 33 (designator (named_at 33 (codes "q")) no_selectors) no_expressions)) no_expressions)) (more_statements (invoke 36 (designator (named_at 36 (codes "delay")) no_selectors) (more_expressions (just 38 (named 38 (designator (named_at 38 (codes "q")) no_selectors) no_expressions)) no_expressions)) no_statements)) }) }) ∷ []); body = (record { at = 42; statements = (more_statements (empty 43) no_statements) }) })) }) ∷ (record { name = (named_at 45 (codes "a")); value = (system_definition (record { at = 47; kind = system_kind.Process; parameters = ((record { names = ((named_at 49 (codes "x")) ∷ []); type_name = (named_at 51 (codes "m")) }) ∷ []); has_semicolon = true; parts = ([]); routines = ([]); body = (record { at = 54; statements = (more_statements (invoke 55 (designator (named_at 55 (codes "x")) (more_selectors (field (named_at 57 (codes "hold"))) no_selectors)) no_expressions) no_statements) }) })) }) ∷ (record { name = (named_at 60 (codes "b")); value = (system_definition (record { at = 62; kind = system_kind.Process; parameters = ((record { names = ((named_at 64 (codes "x")) ∷ []); type_name = (named_at 66 (codes "m")) }) ∷ []); has_semicolon = true; parts = ([]); routines = ([]); body = (record { at = 69; statements = (more_statements (invoke 70 (designator (named_at 70 (codes "x")) (more_selectors (field (named_at 72 (codes "go"))) no_selectors)) no_expressions) no_statements) }) })) }) ∷ [])) ∷ (program_variables 75 ((record { names = ((named_at 76 (codes "x")) ∷ []); variable_type = (simple 78 (type_name 78 (codes "m"))) }) ∷ (record { names = ((named_at 80 (codes "r")) ∷ []); variable_type = (simple 82 (type_name 82 (codes "a"))) }) ∷ (record { names = ((named_at 84 (codes "s")) ∷ []); variable_type = (simple 86 (type_name 86 (codes "b"))) }) ∷ [])) ∷ []); routines = ([]); body = (record { at = 88; statements = (more_statements (init 89 ((record { target = (designator (named_at 90 (codes "x")) no_selectors); arguments = no_expressions }) ∷ (record { target = (designator (named_at 92 (codes "r")) no_selectors); arguments = (more_expressions (just 94 (named 94 (designator (named_at 94 (codes "x")) no_selectors) no_expressions)) no_expressions) }) ∷ (record { target = (designator (named_at 97 (codes "s")) no_selectors); arguments = (more_expressions (just 99 (named 99 (designator (named_at 99 (codes "x")) no_selectors) no_expressions)) no_expressions) }) ∷ [])) no_statements) }); period = 102 }
