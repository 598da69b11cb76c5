-- Programs whose kernel calls are worked out.
use Rattle.std.specs.Prelude.{[], ◌∷◌, None, true, false, codes}
use Rattle.cp_tree.specs.declared.constant.ConstantKind.TheVariants as constant_kind
use Rattle.cp_tree.specs.declared.declaration.SystemKind.TheVariants as system_kind
use Rattle.cp_tree.specs.Syntax.{number, named, negated, no_expressions, more_expressions, designator, no_selectors, more_selectors, field, index, empty, assign, invoke, if_then, init, no_statements, more_statements, type_name, subrange, simple, array_of, variables, procedure, function, system_definition, program_types, program_variables, Program}
use Rattle.cp_meaning.proofs.Written.{named_at, just}

-- type inner = monitor; var q: queue; procedure entry hold; begin delay(q) end; procedure entry free; begin continue(q) end; begin end; outer = monitor(i: inner); procedure entry go; begin i.hold end; begin end; a = process(o: outer); begin o.go end; b = process(i: inner); begin i.free end; var i: inner; o: outer; p, r: a; s: b; begin init i, o(i), p(o), r(o), s(i) end.
abbrev pub inner_delay_keeps_outer : Program
inner_delay_keeps_outer =
    record { parts = ((program_types 0 ((record { name = (named_at 1 (codes "inner")); value = (system_definition (record { at = 3; kind = system_kind.Monitor; parameters = ([]); has_semicolon = true; parts = ((variables 5 ((record { names = ((named_at 6 (codes "q")) ∷ []); variable_type = (simple 8 (type_name 8 (codes "queue"))) }) ∷ [])) ∷ []); routines = ((record { at = 10; is_entry = true; name = (named_at 12 (codes "hold")); kind = (procedure ([])); parts = ([]); body = (record { at = 14; statements = (more_statements (invoke 15 (designator (named_at 15 (codes "delay")) no_selectors) (more_expressions (just 17 (named 17 (designator (named_at 17 (codes "q")) no_selectors) no_expressions)) no_expressions)) no_statements) }) }) ∷ (record { at = 21; is_entry = true; name = (named_at 23 (codes "free")); kind = (procedure ([])); parts = ([]); body = (record { at = 25; statements = (more_statements (invoke 26 (designator (named_at 26 (codes "continue")) no_selectors) (more_expressions (just 28 (named 28 (designator (named_at 28 (codes "q")) no_selectors) no_expressions)) no_expressions)) no_statements) }) }) ∷ []); body = (record { at = 32; statements = (more_statements (empty 33) no_statements) }) })) }) ∷ (record { name = (named_at 35 (codes "outer")); value = (system_definition (record { at = 37; kind = system_kind.Monitor; parameters = ((record { names = ((named_at 39 (codes "i")) ∷ []); type_name = (named_at 41 (codes "inner")) }) ∷ []); has_semicolon = true; parts = ([]); routines = ((record { at = 44; is_entry = true; name = (named_at 46 (codes "go")); kind = (procedure ([])); parts = ([]); body = (record { at = 48; statements = (more_statements (invoke 49 (designator (named_at 49 (codes "i")) (more_selectors (field (named_at 51 (codes "hold"))) no_selectors)) no_expressions) no_statements) }) }) ∷ []); body = (record { at = 54; statements = (more_statements (empty 55) no_statements) }) })) }) ∷ (record { name = (named_at 57 (codes "a")); value = (system_definition (record { at = 59; kind = system_kind.Process; parameters = ((record { names = ((named_at 61 (codes "o")) ∷ []); type_name = (named_at 63 (codes "outer")) }) ∷ []); has_semicolon = true; parts = ([]); routines = ([]); body = (record { at = 66; statements = (more_statements (invoke 67 (designator (named_at 67 (codes "o")) (more_selectors (field (named_at 69 (codes "go"))) no_selectors)) no_expressions) no_statements) }) })) }) ∷ (record { name = (named_at 72 (codes "b")); value = (system_definition (record { at = 74; kind = system_kind.Process; parameters = ((record { names = ((named_at 76 (codes "i")) ∷ []); type_name = (named_at 78 (codes "inner")) }) ∷ []); has_semicolon = true; parts = ([]); routines = ([]); body = (record { at = 81; statements = (more_statements (invoke 82 (designator (named_at 82 (codes "i")) (more_selectors (field (named_at 84 (codes "free"))) no_selectors)) no_expressions) no_statements) }) })) }) ∷ [])) ∷ (program_variables 87 ((record { names = ((named_at 88 (codes "i")) ∷ []); variable_type = (simple 90 (type_name 90 (codes "inner"))) }) ∷ (record { names = ((named_at 92 (codes "o")) ∷ []); variable_type = (simple 94 (type_name 94 (codes "outer"))) }) ∷ (record { names = ((named_at 96 (codes "p")) ∷ (named_at 98 (codes "r")) ∷ []); variable_type = (simple 100 (type_name 100 (codes "a"))) }) ∷ (record { names = ((named_at 102 (codes "s")) ∷ []); variable_type = (simple 104 (type_name 104 (codes "b"))) }) ∷ [])) ∷ []); routines = ([]); body = (record { at = 106; statements = (more_statements (init 107 ((record { target = (designator (named_at 108 (codes "i")) no_selectors); arguments = no_expressions }) ∷ (record { target = (designator (named_at 110 (codes "o")) no_selectors); arguments = (more_expressions (just 112 (named 112 (designator (named_at 112 (codes "i")) no_selectors) no_expressions)) no_expressions) }) ∷ (record { target = (designator (named_at 115 (codes "p")) no_selectors); arguments = (more_expressions (just 117 (named 117 (designator (named_at 117 (codes "o")) no_selectors) no_expressions)) no_expressions) }) ∷ (record { target = (designator (named_at 120 (codes "r")) no_selectors); arguments = (more_expressions (just 122 (named 122 (designator (named_at 122 (codes "o")) no_selectors) no_expressions)) no_expressions) }) ∷ (record { target = (designator (named_at 125 (codes "s")) no_selectors); arguments = (more_expressions (just 127 (named 127 (designator (named_at 127 (codes "i")) no_selectors) no_expressions)) no_expressions) }) ∷ [])) no_statements) }); period = 130 }

-- type buffer = monitor; var full: boolean; slot: integer; sender, receiver: queue; procedure entry put(x: integer); begin if full then delay(sender); slot := x; full := true; continue(receiver) end; procedure entry get(var x: integer); begin if not full then delay(receiver); x := slot; full := false; continue(sender) end; begin full := false end; producer = process(b: buffer); begin b.put(7) end; consumer = process(b: buffer); var v: integer; begin b.get(v); display(v) end; var b: buffer; p: producer; c: consumer; begin init b, p(b), c(b) end.
abbrev pub buffer_trace : Program
buffer_trace =
    record { parts = ((program_types 0 ((record { name = (named_at 1 (codes "buffer")); value = (system_definition (record { at = 3; kind = system_kind.Monitor; parameters = ([]); has_semicolon = true; parts = ((variables 5 ((record { names = ((named_at 6 (codes "full")) ∷ []); variable_type = (simple 8 (type_name 8 (codes "boolean"))) }) ∷ (record { names = ((named_at 10 (codes "slot")) ∷ []); variable_type = (simple 12 (type_name 12 (codes "integer"))) }) ∷ (record { names = ((named_at 14 (codes "sender")) ∷ (named_at 16 (codes "receiver")) ∷ []); variable_type = (simple 18 (type_name 18 (codes "queue"))) }) ∷ [])) ∷ []); routines = ((record { at = 20; is_entry = true; name = (named_at 22 (codes "put")); kind = (procedure ((record { at = 24; is_var = false; group = (record { names = ((named_at 24 (codes "x")) ∷ []); type_name = (named_at 26 (codes "integer")) }) }) ∷ [])); parts = ([]); body = (record { at = 29; statements = (more_statements (if_then 30 (just 31 (named 31 (designator (named_at 31 (codes "full")) no_selectors) no_expressions)) (invoke 33 (designator (named_at 33 (codes "delay")) no_selectors) (more_expressions (just 35 (named 35 (designator (named_at 35 (codes "sender")) no_selectors) no_expressions)) no_expressions))) (more_statements (assign 38 (designator (named_at 38 (codes "slot")) no_selectors) (just 40 (named 40 (designator (named_at 40 (codes "x")) no_selectors) no_expressions))) (more_statements (assign 42 (designator (named_at 42 (codes "full")) no_selectors) (just 44 (named 44 (designator (named_at 44 (codes "true")) no_selectors) no_expressions))) (more_statements (invoke 46 (designator (named_at 46 (codes "continue")) no_selectors) (more_expressions (just 48 (named 48 (designator (named_at 48 (codes "receiver")) no_selectors) no_expressions)) no_expressions)) no_statements)))) }) }) ∷ (record { at = 52; is_entry = true; name = (named_at 54 (codes "get")); kind = (procedure ((record { at = 56; is_var = true; group = (record { names = ((named_at 57 (codes "x")) ∷ []); type_name = (named_at 59 (codes "integer")) }) }) ∷ [])); parts = ([]); body = (record { at = 62; statements = (more_statements (if_then 63 (just 64 (negated 64 (named 65 (designator (named_at 65 (codes "full")) no_selectors) no_expressions))) (invoke 67 (designator (named_at 67 (codes "delay")) no_selectors) (more_expressions (just 69 (named 69 (designator (named_at 69 (codes "receiver")) no_selectors) no_expressions)) no_expressions))) (more_statements (assign 72 (designator (named_at 72 (codes "x")) no_selectors) (just 74 (named 74 (designator (named_at 74 (codes "slot")) no_selectors) no_expressions))) (more_statements (assign 76 (designator (named_at 76 (codes "full")) no_selectors) (just 78 (named 78 (designator (named_at 78 (codes "false")) no_selectors) no_expressions))) (more_statements (invoke 80 (designator (named_at 80 (codes "continue")) no_selectors) (more_expressions (just 82 (named 82 (designator (named_at 82 (codes "sender")) no_selectors) no_expressions)) no_expressions)) no_statements)))) }) }) ∷ []); body = (record { at = 86; statements = (more_statements (assign 87 (designator (named_at 87 (codes "full")) no_selectors) (just 89 (named 89 (designator (named_at 89 (codes "false")) no_selectors) no_expressions))) no_statements) }) })) }) ∷ (record { name = (named_at 92 (codes "producer")); value = (system_definition (record { at = 94; kind = system_kind.Process; parameters = ((record { names = ((named_at 96 (codes "b")) ∷ []); type_name = (named_at 98 (codes "buffer")) }) ∷ []); has_semicolon = true; parts = ([]); routines = ([]); body = (record { at = 101; statements = (more_statements (invoke 102 (designator (named_at 102 (codes "b")) (more_selectors (field (named_at 104 (codes "put"))) no_selectors)) (more_expressions (just 106 (number 106 7)) no_expressions)) no_statements) }) })) }) ∷ (record { name = (named_at 110 (codes "consumer")); value = (system_definition (record { at = 112; kind = system_kind.Process; parameters = ((record { names = ((named_at 114 (codes "b")) ∷ []); type_name = (named_at 116 (codes "buffer")) }) ∷ []); has_semicolon = true; parts = ((variables 119 ((record { names = ((named_at 120 (codes "v")) ∷ []); variable_type = (simple 122 (type_name 122 (codes "integer"))) }) ∷ [])) ∷ []); routines = ([]); body = (record { at = 124; statements = (more_statements (invoke 125 (designator (named_at 125 (codes "b")) (more_selectors (field (named_at 127 (codes "get"))) no_selectors)) (more_expressions (just 129 (named 129 (designator (named_at 129 (codes "v")) no_selectors) no_expressions)) no_expressions)) (more_statements (invoke 132 (designator (named_at 132 (codes "display")) no_selectors) (more_expressions (just 134 (named 134 (designator (named_at 134 (codes "v")) no_selectors) no_expressions)) no_expressions)) no_statements)) }) })) }) ∷ [])) ∷ (program_variables 138 ((record { names = ((named_at 139 (codes "b")) ∷ []); variable_type = (simple 141 (type_name 141 (codes "buffer"))) }) ∷ (record { names = ((named_at 143 (codes "p")) ∷ []); variable_type = (simple 145 (type_name 145 (codes "producer"))) }) ∷ (record { names = ((named_at 147 (codes "c")) ∷ []); variable_type = (simple 149 (type_name 149 (codes "consumer"))) }) ∷ [])) ∷ []); routines = ([]); body = (record { at = 151; statements = (more_statements (init 152 ((record { target = (designator (named_at 153 (codes "b")) no_selectors); arguments = no_expressions }) ∷ (record { target = (designator (named_at 155 (codes "p")) no_selectors); arguments = (more_expressions (just 157 (named 157 (designator (named_at 157 (codes "b")) no_selectors) no_expressions)) no_expressions) }) ∷ (record { target = (designator (named_at 160 (codes "c")) no_selectors); arguments = (more_expressions (just 162 (named 162 (designator (named_at 162 (codes "b")) no_selectors) no_expressions)) no_expressions) }) ∷ [])) no_statements) }); period = 165 }

-- type m = monitor; var q: queue; procedure entry hold; begin delay(q) end; begin end; p = process(x: m); begin x.hold end; var x: m; a, b: p; begin init x, a(x), b(x) end.
abbrev pub queue_used : Program
queue_used =
    record { parts = ((program_types 0 ((record { name = (named_at 1 (codes "m")); value = (system_definition (record { at = 3; kind = system_kind.Monitor; parameters = ([]); has_semicolon = true; parts = ((variables 5 ((record { names = ((named_at 6 (codes "q")) ∷ []); variable_type = (simple 8 (type_name 8 (codes "queue"))) }) ∷ [])) ∷ []); routines = ((record { at = 10; is_entry = true; name = (named_at 12 (codes "hold")); kind = (procedure ([])); parts = ([]); body = (record { at = 14; statements = (more_statements (invoke 15 (designator (named_at 15 (codes "delay")) no_selectors) (more_expressions (just 17 (named 17 (designator (named_at 17 (codes "q")) no_selectors) no_expressions)) no_expressions)) no_statements) }) }) ∷ []); body = (record { at = 21; statements = (more_statements (empty 22) no_statements) }) })) }) ∷ (record { name = (named_at 24 (codes "p")); value = (system_definition (record { at = 26; kind = system_kind.Process; parameters = ((record { names = ((named_at 28 (codes "x")) ∷ []); type_name = (named_at 30 (codes "m")) }) ∷ []); has_semicolon = true; parts = ([]); routines = ([]); body = (record { at = 33; statements = (more_statements (invoke 34 (designator (named_at 34 (codes "x")) (more_selectors (field (named_at 36 (codes "hold"))) no_selectors)) no_expressions) no_statements) }) })) }) ∷ [])) ∷ (program_variables 39 ((record { names = ((named_at 40 (codes "x")) ∷ []); variable_type = (simple 42 (type_name 42 (codes "m"))) }) ∷ (record { names = ((named_at 44 (codes "a")) ∷ (named_at 46 (codes "b")) ∷ []); variable_type = (simple 48 (type_name 48 (codes "p"))) }) ∷ [])) ∷ []); routines = ([]); body = (record { at = 50; statements = (more_statements (init 51 ((record { target = (designator (named_at 52 (codes "x")) no_selectors); arguments = no_expressions }) ∷ (record { target = (designator (named_at 54 (codes "a")) no_selectors); arguments = (more_expressions (just 56 (named 56 (designator (named_at 56 (codes "x")) no_selectors) no_expressions)) no_expressions) }) ∷ (record { target = (designator (named_at 59 (codes "b")) no_selectors); arguments = (more_expressions (just 61 (named 61 (designator (named_at 61 (codes "x")) no_selectors) no_expressions)) no_expressions) }) ∷ [])) no_statements) }); period = 64 }

-- type m = monitor; var q: queue; procedure entry go(n: integer); begin display(n); continue(q) end; begin end; p = process(x: m; n: integer); begin x.go(n) end; var x: m; a, b: p; begin init x, a(x, 1), b(x, 2) end.
abbrev pub continue_admits_line : Program
continue_admits_line =
    record { parts = ((program_types 0 ((record { name = (named_at 1 (codes "m")); value = (system_definition (record { at = 3; kind = system_kind.Monitor; parameters = ([]); has_semicolon = true; parts = ((variables 5 ((record { names = ((named_at 6 (codes "q")) ∷ []); variable_type = (simple 8 (type_name 8 (codes "queue"))) }) ∷ [])) ∷ []); routines = ((record { at = 10; is_entry = true; name = (named_at 12 (codes "go")); kind = (procedure ((record { at = 14; is_var = false; group = (record { names = ((named_at 14 (codes "n")) ∷ []); type_name = (named_at 16 (codes "integer")) }) }) ∷ [])); parts = ([]); body = (record { at = 19; statements = (more_statements (invoke 20 (designator (named_at 20 (codes "display")) no_selectors) (more_expressions (just 22 (named 22 (designator (named_at 22 (codes "n")) no_selectors) no_expressions)) no_expressions)) (more_statements (invoke 25 (designator (named_at 25 (codes "continue")) no_selectors) (more_expressions (just 27 (named 27 (designator (named_at 27 (codes "q")) no_selectors) no_expressions)) no_expressions)) no_statements)) }) }) ∷ []); body = (record { at = 31; statements = (more_statements (empty 32) no_statements) }) })) }) ∷ (record { name = (named_at 34 (codes "p")); value = (system_definition (record { at = 36; kind = system_kind.Process; parameters = ((record { names = ((named_at 38 (codes "x")) ∷ []); type_name = (named_at 40 (codes "m")) }) ∷ (record { names = ((named_at 42 (codes "n")) ∷ []); type_name = (named_at 44 (codes "integer")) }) ∷ []); has_semicolon = true; parts = ([]); routines = ([]); body = (record { at = 47; statements = (more_statements (invoke 48 (designator (named_at 48 (codes "x")) (more_selectors (field (named_at 50 (codes "go"))) no_selectors)) (more_expressions (just 52 (named 52 (designator (named_at 52 (codes "n")) no_selectors) no_expressions)) no_expressions)) no_statements) }) })) }) ∷ [])) ∷ (program_variables 56 ((record { names = ((named_at 57 (codes "x")) ∷ []); variable_type = (simple 59 (type_name 59 (codes "m"))) }) ∷ (record { names = ((named_at 61 (codes "a")) ∷ (named_at 63 (codes "b")) ∷ []); variable_type = (simple 65 (type_name 65 (codes "p"))) }) ∷ [])) ∷ []); routines = ([]); body = (record { at = 67; statements = (more_statements (init 68 ((record { target = (designator (named_at 69 (codes "x")) no_selectors); arguments = no_expressions }) ∷ (record { target = (designator (named_at 71 (codes "a")) no_selectors); arguments = (more_expressions (just 73 (named 73 (designator (named_at 73 (codes "x")) no_selectors) no_expressions)) (more_expressions (just 75 (number 75 1)) no_expressions)) }) ∷ (record { target = (designator (named_at 78 (codes "b")) no_selectors); arguments = (more_expressions (just 80 (named 80 (designator (named_at 80 (codes "x")) no_selectors) no_expressions)) (more_expressions (just 82 (number 82 2)) no_expressions)) }) ∷ [])) no_statements) }); period = 85 }

-- type m = monitor; var q: queue; procedure entry hold; begin delay(q); display(1) end; procedure entry go; begin display(2); continue(q) end; procedure entry look; begin display(3) end; begin end; a = process(x: m); begin x.hold end; b = process(x: m); begin x.go end; c = process(x: m); begin x.look end; var x: m; r: a; s: b; t: c; begin init x, r(x), s(x), t(x) end.
abbrev pub resumed_before_line : Program
resumed_before_line =
    record { parts = ((program_types 0 ((record { name = (named_at 1 (codes "m")); value = (system_definition (record { at = 3; kind = system_kind.Monitor; parameters = ([]); has_semicolon = true; parts = ((variables 5 ((record { names = ((named_at 6 (codes "q")) ∷ []); variable_type = (simple 8 (type_name 8 (codes "queue"))) }) ∷ [])) ∷ []); routines = ((record { at = 10; is_entry = true; name = (named_at 12 (codes "hold")); kind = (procedure ([])); parts = ([]); body = (record { at = 14; statements = (more_statements (invoke 15 (designator (named_at 15 (codes "delay")) no_selectors) (more_expressions (just 17 (named 17 (designator (named_at 17 (codes "q")) no_selectors) no_expressions)) no_expressions)) (more_statements (invoke 20 (designator (named_at 20 (codes "display")) no_selectors) (more_expressions (just 22 (number 22 1)) no_expressions)) no_statements)) }) }) ∷ (record { at = 26; is_entry = true; name = (named_at 28 (codes "go")); kind = (procedure ([])); parts = ([]); body = (record { at = 30; statements = (more_statements (invoke 31 (designator (named_at 31 (codes "display")) no_selectors) (more_expressions (just 33 (number 33 2)) no_expressions)) (more_statements (invoke 36 (designator (named_at 36 (codes "continue")) no_selectors) (more_expressions (just 38 (named 38 (designator (named_at 38 (codes "q")) no_selectors) no_expressions)) no_expressions)) no_statements)) }) }) ∷ (record { at = 42; is_entry = true; name = (named_at 44 (codes "look")); kind = (procedure ([])); parts = ([]); body = (record { at = 46; statements = (more_statements (invoke 47 (designator (named_at 47 (codes "display")) no_selectors) (more_expressions (just 49 (number 49 3)) no_expressions)) no_statements) }) }) ∷ []); body = (record { at = 53; statements = (more_statements (empty 54) no_statements) }) })) }) ∷ (record { name = (named_at 56 (codes "a")); value = (system_definition (record { at = 58; kind = system_kind.Process; parameters = ((record { names = ((named_at 60 (codes "x")) ∷ []); type_name = (named_at 62 (codes "m")) }) ∷ []); has_semicolon = true; parts = ([]); routines = ([]); body = (record { at = 65; statements = (more_statements (invoke 66 (designator (named_at 66 (codes "x")) (more_selectors (field (named_at 68 (codes "hold"))) no_selectors)) no_expressions) no_statements) }) })) }) ∷ (record { name = (named_at 71 (codes "b")); value = (system_definition (record { at = 73; kind = system_kind.Process; parameters = ((record { names = ((named_at 75 (codes "x")) ∷ []); type_name = (named_at 77 (codes "m")) }) ∷ []); has_semicolon = true; parts = ([]); routines = ([]); body = (record { at = 80; statements = (more_statements (invoke 81 (designator (named_at 81 (codes "x")) (more_selectors (field (named_at 83 (codes "go"))) no_selectors)) no_expressions) no_statements) }) })) }) ∷ (record { name = (named_at 86 (codes "c")); value = (system_definition (record { at = 88; kind = system_kind.Process; parameters = ((record { names = ((named_at 90 (codes "x")) ∷ []); type_name = (named_at 92 (codes "m")) }) ∷ []); has_semicolon = true; parts = ([]); routines = ([]); body = (record { at = 95; statements = (more_statements (invoke 96 (designator (named_at 96 (codes "x")) (more_selectors (field (named_at 98 (codes "look"))) no_selectors)) no_expressions) no_statements) }) })) }) ∷ [])) ∷ (program_variables 101 ((record { names = ((named_at 102 (codes "x")) ∷ []); variable_type = (simple 104 (type_name 104 (codes "m"))) }) ∷ (record { names = ((named_at 106 (codes "r")) ∷ []); variable_type = (simple 108 (type_name 108 (codes "a"))) }) ∷ (record { names = ((named_at 110 (codes "s")) ∷ []); variable_type = (simple 112 (type_name 112 (codes "b"))) }) ∷ (record { names = ((named_at 114 (codes "t")) ∷ []); variable_type = (simple 116 (type_name 116 (codes "c"))) }) ∷ [])) ∷ []); routines = ([]); body = (record { at = 118; statements = (more_statements (init 119 ((record { target = (designator (named_at 120 (codes "x")) no_selectors); arguments = no_expressions }) ∷ (record { target = (designator (named_at 122 (codes "r")) no_selectors); arguments = (more_expressions (just 124 (named 124 (designator (named_at 124 (codes "x")) no_selectors) no_expressions)) no_expressions) }) ∷ (record { target = (designator (named_at 127 (codes "s")) no_selectors); arguments = (more_expressions (just 129 (named 129 (designator (named_at 129 (codes "x")) no_selectors) no_expressions)) no_expressions) }) ∷ (record { target = (designator (named_at 132 (codes "t")) no_selectors); arguments = (more_expressions (just 134 (named 134 (designator (named_at 134 (codes "x")) no_selectors) no_expressions)) no_expressions) }) ∷ [])) no_statements) }); period = 137 }

-- type m = monitor; var q: queue; procedure entry go(n: integer); begin display(n); continue(q) end; begin end; p = process(x: m; n: integer); begin x.go(n) end; var x: m; a, b, c: p; begin init x, a(x, 1), b(x, 2), c(x, 3) end.
abbrev pub admits_third : Program
admits_third =
    record { parts = ((program_types 0 ((record { name = (named_at 1 (codes "m")); value = (system_definition (record { at = 3; kind = system_kind.Monitor; parameters = ([]); has_semicolon = true; parts = ((variables 5 ((record { names = ((named_at 6 (codes "q")) ∷ []); variable_type = (simple 8 (type_name 8 (codes "queue"))) }) ∷ [])) ∷ []); routines = ((record { at = 10; is_entry = true; name = (named_at 12 (codes "go")); kind = (procedure ((record { at = 14; is_var = false; group = (record { names = ((named_at 14 (codes "n")) ∷ []); type_name = (named_at 16 (codes "integer")) }) }) ∷ [])); parts = ([]); body = (record { at = 19; statements = (more_statements (invoke 20 (designator (named_at 20 (codes "display")) no_selectors) (more_expressions (just 22 (named 22 (designator (named_at 22 (codes "n")) no_selectors) no_expressions)) no_expressions)) (more_statements (invoke 25 (designator (named_at 25 (codes "continue")) no_selectors) (more_expressions (just 27 (named 27 (designator (named_at 27 (codes "q")) no_selectors) no_expressions)) no_expressions)) no_statements)) }) }) ∷ []); body = (record { at = 31; statements = (more_statements (empty 32) no_statements) }) })) }) ∷ (record { name = (named_at 34 (codes "p")); value = (system_definition (record { at = 36; kind = system_kind.Process; parameters = ((record { names = ((named_at 38 (codes "x")) ∷ []); type_name = (named_at 40 (codes "m")) }) ∷ (record { names = ((named_at 42 (codes "n")) ∷ []); type_name = (named_at 44 (codes "integer")) }) ∷ []); has_semicolon = true; parts = ([]); routines = ([]); body = (record { at = 47; statements = (more_statements (invoke 48 (designator (named_at 48 (codes "x")) (more_selectors (field (named_at 50 (codes "go"))) no_selectors)) (more_expressions (just 52 (named 52 (designator (named_at 52 (codes "n")) no_selectors) no_expressions)) no_expressions)) no_statements) }) })) }) ∷ [])) ∷ (program_variables 56 ((record { names = ((named_at 57 (codes "x")) ∷ []); variable_type = (simple 59 (type_name 59 (codes "m"))) }) ∷ (record { names = ((named_at 61 (codes "a")) ∷ (named_at 63 (codes "b")) ∷ (named_at 65 (codes "c")) ∷ []); variable_type = (simple 67 (type_name 67 (codes "p"))) }) ∷ [])) ∷ []); routines = ([]); body = (record { at = 69; statements = (more_statements (init 70 ((record { target = (designator (named_at 71 (codes "x")) no_selectors); arguments = no_expressions }) ∷ (record { target = (designator (named_at 73 (codes "a")) no_selectors); arguments = (more_expressions (just 75 (named 75 (designator (named_at 75 (codes "x")) no_selectors) no_expressions)) (more_expressions (just 77 (number 77 1)) no_expressions)) }) ∷ (record { target = (designator (named_at 80 (codes "b")) no_selectors); arguments = (more_expressions (just 82 (named 82 (designator (named_at 82 (codes "x")) no_selectors) no_expressions)) (more_expressions (just 84 (number 84 2)) no_expressions)) }) ∷ (record { target = (designator (named_at 87 (codes "c")) no_selectors); arguments = (more_expressions (just 89 (named 89 (designator (named_at 89 (codes "x")) no_selectors) no_expressions)) (more_expressions (just 91 (number 91 3)) no_expressions)) }) ∷ [])) no_statements) }); period = 94 }

-- type k = class; begin display(1) end; p = process(n: integer); begin end; var x: k; a: p; function f: integer; begin display(2) end; begin init x, a(f) end.
abbrev pub start_order : Program
start_order =
    record { parts = ((program_types 0 ((record { name = (named_at 1 (codes "k")); value = (system_definition (record { at = 3; kind = system_kind.Class; parameters = ([]); has_semicolon = true; parts = ([]); routines = ([]); body = (record { at = 5; statements = (more_statements (invoke 6 (designator (named_at 6 (codes "display")) no_selectors) (more_expressions (just 8 (number 8 1)) no_expressions)) no_statements) }) })) }) ∷ (record { name = (named_at 12 (codes "p")); value = (system_definition (record { at = 14; kind = system_kind.Process; parameters = ((record { names = ((named_at 16 (codes "n")) ∷ []); type_name = (named_at 18 (codes "integer")) }) ∷ []); has_semicolon = true; parts = ([]); routines = ([]); body = (record { at = 21; statements = (more_statements (empty 22) no_statements) }) })) }) ∷ [])) ∷ (program_variables 24 ((record { names = ((named_at 25 (codes "x")) ∷ []); variable_type = (simple 27 (type_name 27 (codes "k"))) }) ∷ (record { names = ((named_at 29 (codes "a")) ∷ []); variable_type = (simple 31 (type_name 31 (codes "p"))) }) ∷ [])) ∷ []); routines = ((record { at = 33; is_entry = false; name = (named_at 34 (codes "f")); kind = (function ([]) (named_at 36 (codes "integer"))); parts = ([]); body = (record { at = 38; statements = (more_statements (invoke 39 (designator (named_at 39 (codes "display")) no_selectors) (more_expressions (just 41 (number 41 2)) no_expressions)) no_statements) }) }) ∷ []); body = (record { at = 45; statements = (more_statements (init 46 ((record { target = (designator (named_at 47 (codes "x")) no_selectors); arguments = no_expressions }) ∷ (record { target = (designator (named_at 49 (codes "a")) no_selectors); arguments = (more_expressions (just 51 (named 51 (designator (named_at 51 (codes "f")) no_selectors) no_expressions)) no_expressions) }) ∷ [])) no_statements) }); period = 54 }

-- var display: integer; type p = process; begin display(1) end; var a: p; begin init a end.
abbrev pub unseen_variable : Program
unseen_variable =
    record { parts = ((program_variables 0 ((record { names = ((named_at 1 (codes "display")) ∷ []); variable_type = (simple 3 (type_name 3 (codes "integer"))) }) ∷ [])) ∷ (program_types 5 ((record { name = (named_at 6 (codes "p")); value = (system_definition (record { at = 8; kind = system_kind.Process; parameters = ([]); has_semicolon = true; parts = ([]); routines = ([]); body = (record { at = 10; statements = (more_statements (invoke 11 (designator (named_at 11 (codes "display")) no_selectors) (more_expressions (just 13 (number 13 1)) no_expressions)) no_statements) }) })) }) ∷ [])) ∷ (program_variables 17 ((record { names = ((named_at 18 (codes "a")) ∷ []); variable_type = (simple 20 (type_name 20 (codes "p"))) }) ∷ [])) ∷ []); routines = ([]); body = (record { at = 22; statements = (more_statements (init 23 ((record { target = (designator (named_at 24 (codes "a")) no_selectors); arguments = no_expressions }) ∷ [])) no_statements) }); period = 26 }

-- type m = monitor; var q: queue; procedure entry h; begin delay(q) end; begin end; n = monitor(x: m); begin x.h end; var a: m; b: n; begin init a, b(a) end.
abbrev pub waits_in_other_monitor : Program
waits_in_other_monitor =
    record { parts = ((program_types 0 ((record { name = (named_at 1 (codes "m")); value = (system_definition (record { at = 3; kind = system_kind.Monitor; parameters = ([]); has_semicolon = true; parts = ((variables 5 ((record { names = ((named_at 6 (codes "q")) ∷ []); variable_type = (simple 8 (type_name 8 (codes "queue"))) }) ∷ [])) ∷ []); routines = ((record { at = 10; is_entry = true; name = (named_at 12 (codes "h")); kind = (procedure ([])); parts = ([]); body = (record { at = 14; statements = (more_statements (invoke 15 (designator (named_at 15 (codes "delay")) no_selectors) (more_expressions (just 17 (named 17 (designator (named_at 17 (codes "q")) no_selectors) no_expressions)) no_expressions)) no_statements) }) }) ∷ []); body = (record { at = 21; statements = (more_statements (empty 22) no_statements) }) })) }) ∷ (record { name = (named_at 24 (codes "n")); value = (system_definition (record { at = 26; kind = system_kind.Monitor; parameters = ((record { names = ((named_at 28 (codes "x")) ∷ []); type_name = (named_at 30 (codes "m")) }) ∷ []); has_semicolon = true; parts = ([]); routines = ([]); body = (record { at = 33; statements = (more_statements (invoke 34 (designator (named_at 34 (codes "x")) (more_selectors (field (named_at 36 (codes "h"))) no_selectors)) no_expressions) no_statements) }) })) }) ∷ [])) ∷ (program_variables 39 ((record { names = ((named_at 40 (codes "a")) ∷ []); variable_type = (simple 42 (type_name 42 (codes "m"))) }) ∷ (record { names = ((named_at 44 (codes "b")) ∷ []); variable_type = (simple 46 (type_name 46 (codes "n"))) }) ∷ [])) ∷ []); routines = ([]); body = (record { at = 48; statements = (more_statements (init 49 ((record { target = (designator (named_at 50 (codes "a")) no_selectors); arguments = no_expressions }) ∷ (record { target = (designator (named_at 52 (codes "b")) no_selectors); arguments = (more_expressions (just 54 (named 54 (designator (named_at 54 (codes "a")) no_selectors) no_expressions)) no_expressions) }) ∷ [])) no_statements) }); period = 57 }

-- type p = process(n: integer); begin display(n) end; var a: array [1..2] of p; begin init a[2](2), a[1](1) end.
abbrev pub array_of_processes : Program
array_of_processes =
    record { parts = ((program_types 0 ((record { name = (named_at 1 (codes "p")); value = (system_definition (record { at = 3; kind = system_kind.Process; parameters = ((record { names = ((named_at 5 (codes "n")) ∷ []); type_name = (named_at 7 (codes "integer")) }) ∷ []); has_semicolon = true; parts = ([]); routines = ([]); body = (record { at = 10; statements = (more_statements (invoke 11 (designator (named_at 11 (codes "display")) no_selectors) (more_expressions (just 13 (named 13 (designator (named_at 13 (codes "n")) no_selectors) no_expressions)) no_expressions)) no_statements) }) })) }) ∷ [])) ∷ (program_variables 17 ((record { names = ((named_at 18 (codes "a")) ∷ []); variable_type = (array_of 20 (subrange 22 (record { at = 22; kind = constant_kind.Number None 1 }) (record { at = 24; kind = constant_kind.Number None 2 })) (simple 27 (type_name 27 (codes "p")))) }) ∷ [])) ∷ []); routines = ([]); body = (record { at = 29; statements = (more_statements (init 30 ((record { target = (designator (named_at 31 (codes "a")) (more_selectors (index (just 33 (number 33 2))) no_selectors)); arguments = (more_expressions (just 36 (number 36 2)) no_expressions) }) ∷ (record { target = (designator (named_at 39 (codes "a")) (more_selectors (index (just 41 (number 41 1))) no_selectors)); arguments = (more_expressions (just 44 (number 44 1)) no_expressions) }) ∷ [])) no_statements) }); period = 47 }

-- type p = process; begin end; var a: p; begin init a, a end.
abbrev pub started_twice : Program
started_twice =
    record { parts = ((program_types 0 ((record { name = (named_at 1 (codes "p")); value = (system_definition (record { at = 3; kind = system_kind.Process; parameters = ([]); has_semicolon = true; parts = ([]); routines = ([]); body = (record { at = 5; statements = (more_statements (empty 6) no_statements) }) })) }) ∷ [])) ∷ (program_variables 8 ((record { names = ((named_at 9 (codes "a")) ∷ []); variable_type = (simple 11 (type_name 11 (codes "p"))) }) ∷ [])) ∷ []); routines = ([]); body = (record { at = 13; statements = (more_statements (init 14 ((record { target = (designator (named_at 15 (codes "a")) no_selectors); arguments = no_expressions }) ∷ (record { target = (designator (named_at 17 (codes "a")) no_selectors); arguments = no_expressions }) ∷ [])) no_statements) }); period = 19 }
