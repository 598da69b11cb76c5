-- Programs whose values are worked out.
use Rattle.cp_meaning.proofs.Words.{[], ◌∷◌, Some, None, true, false, codes, Equal, Greater, In, Plus, Minus, Div, Mod, And}
use Rattle.cp_tree.specs.declared.constant.Sign.TheVariants as sign
use Rattle.cp_tree.specs.declared.constant.ConstantKind.TheVariants as constant_kind
use Rattle.cp_tree.specs.declared.statement.Direction.TheVariants as direction
use Rattle.cp_tree.specs.declared.declaration.SystemKind.TheVariants as system_kind
use Rattle.cp_tree.specs.Syntax.{alone, related, sum, no_terms, more_terms, term, no_factors, more_factors, number, character, named, group, set_of, no_expressions, more_expressions, designator, no_selectors, more_selectors, field, index, empty, assign, invoke, block, if_then, case_of, while_do, repeat_until, for_do, init, no_statements, more_statements, no_arms, more_arms, arm, type_name, subrange, simple, array_of, record_of, no_fields, more_fields, fields, variables, procedure, function, type_definition, system_definition, program_constants, program_types, program_variables, Program}
use Rattle.cp_meaning.proofs.Written.{named_at, just}

-- var a: array [1..2] of integer; function f(n: integer): integer; begin display(n); f := 1 end; begin a[f(1)] := f(2) end.
abbrev pub targets_index_first : Program
targets_index_first =
    record { parts = ((program_variables 0 ((record { names = ((named_at 1 (codes "a")) ∷ []); variable_type = (array_of 3 (subrange 5 (record { at = 5; kind = constant_kind.Number None 1 }) (record { at = 7; kind = constant_kind.Number None 2 })) (simple 10 (type_name 10 (codes "integer")))) }) ∷ [])) ∷ []); routines = ((record { at = 12; is_entry = false; name = (named_at 13 (codes "f")); kind = (function ((record { names = ((named_at 15 (codes "n")) ∷ []); type_name = (named_at 17 (codes "integer")) }) ∷ []) (named_at 20 (codes "integer"))); parts = ([]); body = (record { at = 22; statements = (more_statements (invoke 23 (designator (named_at 23 (codes "display")) no_selectors) (more_expressions (just 25 (named 25 (designator (named_at 25 (codes "n")) no_selectors) no_expressions)) no_expressions)) (more_statements (assign 28 (designator (named_at 28 (codes "f")) no_selectors) (just 30 (number 30 1))) no_statements)) }) }) ∷ []); body = (record { at = 33; statements = (more_statements (assign 34 (designator (named_at 34 (codes "a")) (more_selectors (index (just 36 (named 36 (designator (named_at 36 (codes "f")) no_selectors) (more_expressions (just 38 (number 38 1)) no_expressions)))) no_selectors)) (just 42 (named 42 (designator (named_at 42 (codes "f")) no_selectors) (more_expressions (just 44 (number 44 2)) no_expressions)))) no_statements) }); period = 47 }

-- function f(n: integer): integer; begin display(n); f := n + 1 end; begin display(f(f(1)) + f(5)) end.
abbrev pub innermost_first : Program
innermost_first =
    record { parts = ([]); routines = ((record { at = 0; is_entry = false; name = (named_at 1 (codes "f")); kind = (function ((record { names = ((named_at 3 (codes "n")) ∷ []); type_name = (named_at 5 (codes "integer")) }) ∷ []) (named_at 8 (codes "integer"))); parts = ([]); body = (record { at = 10; statements = (more_statements (invoke 11 (designator (named_at 11 (codes "display")) no_selectors) (more_expressions (just 13 (named 13 (designator (named_at 13 (codes "n")) no_selectors) no_expressions)) no_expressions)) (more_statements (assign 16 (designator (named_at 16 (codes "f")) no_selectors) (alone 18 (sum 18 None (term 18 (named 18 (designator (named_at 18 (codes "n")) no_selectors) no_expressions) no_factors) (more_terms Plus (term 20 (number 20 1) no_factors) no_terms)))) no_statements)) }) }) ∷ []); body = (record { at = 23; statements = (more_statements (invoke 24 (designator (named_at 24 (codes "display")) no_selectors) (more_expressions (alone 26 (sum 26 None (term 26 (named 26 (designator (named_at 26 (codes "f")) no_selectors) (more_expressions (just 28 (named 28 (designator (named_at 28 (codes "f")) no_selectors) (more_expressions (just 30 (number 30 1)) no_expressions))) no_expressions)) no_factors) (more_terms Plus (term 34 (named 34 (designator (named_at 34 (codes "f")) no_selectors) (more_expressions (just 36 (number 36 5)) no_expressions)) no_factors) no_terms))) no_expressions)) no_statements) }); period = 40 }

-- var i: 1..2; begin for i := 9 to 3 do end.
abbrev pub beyond_before_range : Program
beyond_before_range =
    record { parts = ((program_variables 0 ((record { names = ((named_at 1 (codes "i")) ∷ []); variable_type = (simple 3 (subrange 3 (record { at = 3; kind = constant_kind.Number None 1 }) (record { at = 5; kind = constant_kind.Number None 2 }))) }) ∷ [])) ∷ []); routines = ([]); body = (record { at = 7; statements = (more_statements (for_do 8 (named_at 9 (codes "i")) (just 11 (number 11 9)) direction.To (just 13 (number 13 3)) (empty 15)) no_statements) }); period = 16 }

-- var i: 1..2; begin for i := 0 to 3 do end.
abbrev pub first_out_of_range : Program
first_out_of_range =
    record { parts = ((program_variables 0 ((record { names = ((named_at 1 (codes "i")) ∷ []); variable_type = (simple 3 (subrange 3 (record { at = 3; kind = constant_kind.Number None 1 }) (record { at = 5; kind = constant_kind.Number None 2 }))) }) ∷ [])) ∷ []); routines = ([]); body = (record { at = 7; statements = (more_statements (for_do 8 (named_at 9 (codes "i")) (just 11 (number 11 0)) direction.To (just 13 (number 13 3)) (empty 15)) no_statements) }); period = 16 }

-- var i: integer; begin for i := 1 to 3 do begin display(i); i := 7 end; display(i) end.
abbrev pub value_kept_in_item : Program
value_kept_in_item =
    record { parts = ((program_variables 0 ((record { names = ((named_at 1 (codes "i")) ∷ []); variable_type = (simple 3 (type_name 3 (codes "integer"))) }) ∷ [])) ∷ []); routines = ([]); body = (record { at = 5; statements = (more_statements (for_do 6 (named_at 7 (codes "i")) (just 9 (number 9 1)) direction.To (just 11 (number 11 3)) (block 13 (more_statements (invoke 14 (designator (named_at 14 (codes "display")) no_selectors) (more_expressions (just 16 (named 16 (designator (named_at 16 (codes "i")) no_selectors) no_expressions)) no_expressions)) (more_statements (assign 19 (designator (named_at 19 (codes "i")) no_selectors) (just 21 (number 21 7))) no_statements)))) (more_statements (invoke 24 (designator (named_at 24 (codes "display")) no_selectors) (more_expressions (just 26 (named 26 (designator (named_at 26 (codes "i")) no_selectors) no_expressions)) no_expressions)) no_statements)) }); period = 29 }

-- var i: char; begin for i := 'c' downto 'a' do display(i) end.
abbrev pub downwards : Program
downwards =
    record { parts = ((program_variables 0 ((record { names = ((named_at 1 (codes "i")) ∷ []); variable_type = (simple 3 (type_name 3 (codes "char"))) }) ∷ [])) ∷ []); routines = ([]); body = (record { at = 5; statements = (more_statements (for_do 6 (named_at 7 (codes "i")) (just 9 (character 9 99)) direction.Downto (just 11 (character 11 97)) (invoke 13 (designator (named_at 13 (codes "display")) no_selectors) (more_expressions (just 15 (named 15 (designator (named_at 15 (codes "i")) no_selectors) no_expressions)) no_expressions))) no_statements) }); period = 18 }

-- begin display(succ(32767)) end.
abbrev pub last_integer : Program
last_integer =
    record { parts = ([]); routines = ([]); body = (record { at = 0; statements = (more_statements (invoke 1 (designator (named_at 1 (codes "display")) no_selectors) (more_expressions (just 3 (named 3 (designator (named_at 3 (codes "succ")) no_selectors) (more_expressions (just 5 (number 5 32767)) no_expressions))) no_expressions)) no_statements) }); period = 9 }

-- begin display(-(-32767 - 1)) end.
abbrev pub sign_overflows : Program
sign_overflows =
    record { parts = ([]); routines = ([]); body = (record { at = 0; statements = (more_statements (invoke 1 (designator (named_at 1 (codes "display")) no_selectors) (more_expressions (alone 3 (sum 3 (Some sign.Minus) (term 4 (group 4 (alone 5 (sum 5 (Some sign.Minus) (term 6 (number 6 32767) no_factors) (more_terms Minus (term 8 (number 8 1) no_factors) no_terms)))) no_factors) no_terms)) no_expressions)) no_statements) }); period = 12 }

-- begin display((-32767 - 1) mod (-1)) end.
abbrev pub least_mod_minus_one : Program
least_mod_minus_one =
    record { parts = ([]); routines = ([]); body = (record { at = 0; statements = (more_statements (invoke 1 (designator (named_at 1 (codes "display")) no_selectors) (more_expressions (alone 3 (sum 3 None (term 3 (group 3 (alone 4 (sum 4 (Some sign.Minus) (term 5 (number 5 32767) no_factors) (more_terms Minus (term 7 (number 7 1) no_factors) no_terms)))) (more_factors Mod (group 10 (alone 11 (sum 11 (Some sign.Minus) (term 12 (number 12 1) no_factors) no_terms))) no_factors)) no_terms)) no_expressions)) no_statements) }); period = 16 }

-- begin display((-32767 - 1) div (-1)) end.
abbrev pub least_div_minus_one : Program
least_div_minus_one =
    record { parts = ([]); routines = ([]); body = (record { at = 0; statements = (more_statements (invoke 1 (designator (named_at 1 (codes "display")) no_selectors) (more_expressions (alone 3 (sum 3 None (term 3 (group 3 (alone 4 (sum 4 (Some sign.Minus) (term 5 (number 5 32767) no_factors) (more_terms Minus (term 7 (number 7 1) no_factors) no_terms)))) (more_factors Div (group 10 (alone 11 (sum 11 (Some sign.Minus) (term 12 (number 12 1) no_factors) no_terms))) no_factors)) no_terms)) no_expressions)) no_statements) }); period = 16 }

-- type s = 1..2; k = class; procedure entry p(n: s); begin end; begin end; var x: array [1..2] of k; begin x[1].p(3) end.
abbrev pub argument_before_not_init : Program
argument_before_not_init =
    record { parts = ((program_types 0 ((record { name = (named_at 1 (codes "s")); value = (type_definition (simple 3 (subrange 3 (record { at = 3; kind = constant_kind.Number None 1 }) (record { at = 5; kind = constant_kind.Number None 2 })))) }) ∷ (record { name = (named_at 7 (codes "k")); value = (system_definition (record { at = 9; kind = system_kind.Class; parameters = ([]); has_semicolon = true; parts = ([]); routines = ((record { at = 11; is_entry = true; name = (named_at 13 (codes "p")); kind = (procedure ((record { at = 15; is_var = false; group = (record { names = ((named_at 15 (codes "n")) ∷ []); type_name = (named_at 17 (codes "s")) }) }) ∷ [])); parts = ([]); body = (record { at = 20; statements = (more_statements (empty 21) no_statements) }) }) ∷ []); body = (record { at = 23; statements = (more_statements (empty 24) no_statements) }) })) }) ∷ [])) ∷ (program_variables 26 ((record { names = ((named_at 27 (codes "x")) ∷ []); variable_type = (array_of 29 (subrange 31 (record { at = 31; kind = constant_kind.Number None 1 }) (record { at = 33; kind = constant_kind.Number None 2 })) (simple 36 (type_name 36 (codes "k")))) }) ∷ [])) ∷ []); routines = ([]); body = (record { at = 38; statements = (more_statements (invoke 39 (designator (named_at 39 (codes "x")) (more_selectors (index (just 41 (number 41 1))) (more_selectors (field (named_at 44 (codes "p"))) no_selectors))) (more_expressions (just 46 (number 46 3)) no_expressions)) no_statements) }); period = 49 }

-- type s = 1..2; k = class; procedure entry p(n: s); begin end; begin end; var x: array [1..2] of k; begin x[1].p(2) end.
abbrev pub not_init_last : Program
not_init_last =
    record { parts = ((program_types 0 ((record { name = (named_at 1 (codes "s")); value = (type_definition (simple 3 (subrange 3 (record { at = 3; kind = constant_kind.Number None 1 }) (record { at = 5; kind = constant_kind.Number None 2 })))) }) ∷ (record { name = (named_at 7 (codes "k")); value = (system_definition (record { at = 9; kind = system_kind.Class; parameters = ([]); has_semicolon = true; parts = ([]); routines = ((record { at = 11; is_entry = true; name = (named_at 13 (codes "p")); kind = (procedure ((record { at = 15; is_var = false; group = (record { names = ((named_at 15 (codes "n")) ∷ []); type_name = (named_at 17 (codes "s")) }) }) ∷ [])); parts = ([]); body = (record { at = 20; statements = (more_statements (empty 21) no_statements) }) }) ∷ []); body = (record { at = 23; statements = (more_statements (empty 24) no_statements) }) })) }) ∷ [])) ∷ (program_variables 26 ((record { names = ((named_at 27 (codes "x")) ∷ []); variable_type = (array_of 29 (subrange 31 (record { at = 31; kind = constant_kind.Number None 1 }) (record { at = 33; kind = constant_kind.Number None 2 })) (simple 36 (type_name 36 (codes "k")))) }) ∷ [])) ∷ []); routines = ([]); body = (record { at = 38; statements = (more_statements (invoke 39 (designator (named_at 39 (codes "x")) (more_selectors (index (just 41 (number 41 1))) (more_selectors (field (named_at 44 (codes "p"))) no_selectors))) (more_expressions (just 46 (number 46 2)) no_expressions)) no_statements) }); period = 49 }

-- type s = 1..2; k = class(n: s); begin end; var x: k; begin init x(1), x(1 div 0) end.
abbrev pub argument_before_init_twice : Program
argument_before_init_twice =
    record { parts = ((program_types 0 ((record { name = (named_at 1 (codes "s")); value = (type_definition (simple 3 (subrange 3 (record { at = 3; kind = constant_kind.Number None 1 }) (record { at = 5; kind = constant_kind.Number None 2 })))) }) ∷ (record { name = (named_at 7 (codes "k")); value = (system_definition (record { at = 9; kind = system_kind.Class; parameters = ((record { names = ((named_at 11 (codes "n")) ∷ []); type_name = (named_at 13 (codes "s")) }) ∷ []); has_semicolon = true; parts = ([]); routines = ([]); body = (record { at = 16; statements = (more_statements (empty 17) no_statements) }) })) }) ∷ [])) ∷ (program_variables 19 ((record { names = ((named_at 20 (codes "x")) ∷ []); variable_type = (simple 22 (type_name 22 (codes "k"))) }) ∷ [])) ∷ []); routines = ([]); body = (record { at = 24; statements = (more_statements (init 25 ((record { target = (designator (named_at 26 (codes "x")) no_selectors); arguments = (more_expressions (just 28 (number 28 1)) no_expressions) }) ∷ (record { target = (designator (named_at 31 (codes "x")) no_selectors); arguments = (more_expressions (alone 33 (sum 33 None (term 33 (number 33 1) (more_factors Div (number 35 0) no_factors)) no_terms)) no_expressions) }) ∷ [])) no_statements) }); period = 38 }

-- var a: array [1..2] of integer; begin display(32767 + 1 + 1 div 0) end.
abbrev pub first_operation : Program
first_operation =
    record { parts = ((program_variables 0 ((record { names = ((named_at 1 (codes "a")) ∷ []); variable_type = (array_of 3 (subrange 5 (record { at = 5; kind = constant_kind.Number None 1 }) (record { at = 7; kind = constant_kind.Number None 2 })) (simple 10 (type_name 10 (codes "integer")))) }) ∷ [])) ∷ []); routines = ([]); body = (record { at = 12; statements = (more_statements (invoke 13 (designator (named_at 13 (codes "display")) no_selectors) (more_expressions (alone 15 (sum 15 None (term 15 (number 15 32767) no_factors) (more_terms Plus (term 17 (number 17 1) no_factors) (more_terms Plus (term 19 (number 19 1) (more_factors Div (number 21 0) no_factors)) no_terms)))) no_expressions)) no_statements) }); period = 24 }

-- var a: array [1..2] of integer; begin display(a[3] + 1 div 0) end.
abbrev pub index_where_it_stands : Program
index_where_it_stands =
    record { parts = ((program_variables 0 ((record { names = ((named_at 1 (codes "a")) ∷ []); variable_type = (array_of 3 (subrange 5 (record { at = 5; kind = constant_kind.Number None 1 }) (record { at = 7; kind = constant_kind.Number None 2 })) (simple 10 (type_name 10 (codes "integer")))) }) ∷ [])) ∷ []); routines = ([]); body = (record { at = 12; statements = (more_statements (invoke 13 (designator (named_at 13 (codes "display")) no_selectors) (more_expressions (alone 15 (sum 15 None (term 15 (named 15 (designator (named_at 15 (codes "a")) (more_selectors (index (just 17 (number 17 3))) no_selectors)) no_expressions) no_factors) (more_terms Plus (term 20 (number 20 1) (more_factors Div (number 22 0) no_factors)) no_terms))) no_expressions)) no_statements) }); period = 25 }

-- var b: boolean; begin b := false and (1 div 0 = 1) end.
abbrev pub both_operands : Program
both_operands =
    record { parts = ((program_variables 0 ((record { names = ((named_at 1 (codes "b")) ∷ []); variable_type = (simple 3 (type_name 3 (codes "boolean"))) }) ∷ [])) ∷ []); routines = ([]); body = (record { at = 5; statements = (more_statements (assign 6 (designator (named_at 6 (codes "b")) no_selectors) (alone 8 (sum 8 None (term 8 (named 8 (designator (named_at 8 (codes "false")) no_selectors) no_expressions) (more_factors And (group 10 (related 11 (sum 11 None (term 11 (number 11 1) (more_factors Div (number 13 0) no_factors)) no_terms) Equal (sum 15 None (term 15 (number 15 1) no_factors) no_terms))) no_factors)) no_terms))) no_statements) }); period = 18 }

-- begin display(1 in [200, 1 div 0]) end.
abbrev pub element_at_once : Program
element_at_once =
    record { parts = ([]); routines = ([]); body = (record { at = 0; statements = (more_statements (invoke 1 (designator (named_at 1 (codes "display")) no_selectors) (more_expressions (related 3 (sum 3 None (term 3 (number 3 1) no_factors) no_terms) In (sum 5 None (term 5 (set_of 5 (more_expressions (just 6 (number 6 200)) (more_expressions (alone 8 (sum 8 None (term 8 (number 8 1) (more_factors Div (number 10 0) no_factors)) no_terms)) no_expressions))) no_factors) no_terms)) no_expressions)) no_statements) }); period = 14 }

-- var n: integer; function f(a: integer): integer; begin n := n + 1; f := a end; begin display(f(n) + f(n) + n) end.
abbrev pub calls_before_variables : Program
calls_before_variables =
    record { parts = ((program_variables 0 ((record { names = ((named_at 1 (codes "n")) ∷ []); variable_type = (simple 3 (type_name 3 (codes "integer"))) }) ∷ [])) ∷ []); routines = ((record { at = 5; is_entry = false; name = (named_at 6 (codes "f")); kind = (function ((record { names = ((named_at 8 (codes "a")) ∷ []); type_name = (named_at 10 (codes "integer")) }) ∷ []) (named_at 13 (codes "integer"))); parts = ([]); body = (record { at = 15; statements = (more_statements (assign 16 (designator (named_at 16 (codes "n")) no_selectors) (alone 18 (sum 18 None (term 18 (named 18 (designator (named_at 18 (codes "n")) no_selectors) no_expressions) no_factors) (more_terms Plus (term 20 (number 20 1) no_factors) no_terms)))) (more_statements (assign 22 (designator (named_at 22 (codes "f")) no_selectors) (just 24 (named 24 (designator (named_at 24 (codes "a")) no_selectors) no_expressions))) no_statements)) }) }) ∷ []); body = (record { at = 27; statements = (more_statements (invoke 28 (designator (named_at 28 (codes "display")) no_selectors) (more_expressions (alone 30 (sum 30 None (term 30 (named 30 (designator (named_at 30 (codes "f")) no_selectors) (more_expressions (just 32 (named 32 (designator (named_at 32 (codes "n")) no_selectors) no_expressions)) no_expressions)) no_factors) (more_terms Plus (term 35 (named 35 (designator (named_at 35 (codes "f")) no_selectors) (more_expressions (just 37 (named 37 (designator (named_at 37 (codes "n")) no_selectors) no_expressions)) no_expressions)) no_factors) (more_terms Plus (term 40 (named 40 (designator (named_at 40 (codes "n")) no_selectors) no_expressions) no_factors) no_terms)))) no_expressions)) no_statements) }); period = 43 }

-- var n: integer; function f(a: integer): integer; begin n := n + a; f := n end; procedure p(var a: integer; b: integer); begin display(a); display(b) end; begin p(n, f(1) + n) end.
abbrev pub reference_and_copy : Program
reference_and_copy =
    record { parts = ((program_variables 0 ((record { names = ((named_at 1 (codes "n")) ∷ []); variable_type = (simple 3 (type_name 3 (codes "integer"))) }) ∷ [])) ∷ []); routines = ((record { at = 5; is_entry = false; name = (named_at 6 (codes "f")); kind = (function ((record { names = ((named_at 8 (codes "a")) ∷ []); type_name = (named_at 10 (codes "integer")) }) ∷ []) (named_at 13 (codes "integer"))); parts = ([]); body = (record { at = 15; statements = (more_statements (assign 16 (designator (named_at 16 (codes "n")) no_selectors) (alone 18 (sum 18 None (term 18 (named 18 (designator (named_at 18 (codes "n")) no_selectors) no_expressions) no_factors) (more_terms Plus (term 20 (named 20 (designator (named_at 20 (codes "a")) no_selectors) no_expressions) no_factors) no_terms)))) (more_statements (assign 22 (designator (named_at 22 (codes "f")) no_selectors) (just 24 (named 24 (designator (named_at 24 (codes "n")) no_selectors) no_expressions))) no_statements)) }) }) ∷ (record { at = 27; is_entry = false; name = (named_at 28 (codes "p")); kind = (procedure ((record { at = 30; is_var = true; group = (record { names = ((named_at 31 (codes "a")) ∷ []); type_name = (named_at 33 (codes "integer")) }) }) ∷ (record { at = 35; is_var = false; group = (record { names = ((named_at 35 (codes "b")) ∷ []); type_name = (named_at 37 (codes "integer")) }) }) ∷ [])); parts = ([]); body = (record { at = 40; statements = (more_statements (invoke 41 (designator (named_at 41 (codes "display")) no_selectors) (more_expressions (just 43 (named 43 (designator (named_at 43 (codes "a")) no_selectors) no_expressions)) no_expressions)) (more_statements (invoke 46 (designator (named_at 46 (codes "display")) no_selectors) (more_expressions (just 48 (named 48 (designator (named_at 48 (codes "b")) no_selectors) no_expressions)) no_expressions)) no_statements)) }) }) ∷ []); body = (record { at = 52; statements = (more_statements (invoke 53 (designator (named_at 53 (codes "p")) no_selectors) (more_expressions (just 55 (named 55 (designator (named_at 55 (codes "n")) no_selectors) no_expressions)) (more_expressions (alone 57 (sum 57 None (term 57 (named 57 (designator (named_at 57 (codes "f")) no_selectors) (more_expressions (just 59 (number 59 1)) no_expressions)) no_factors) (more_terms Plus (term 62 (named 62 (designator (named_at 62 (codes "n")) no_selectors) no_expressions) no_factors) no_terms))) no_expressions))) no_statements) }); period = 65 }

-- begin display([] = []) end.
abbrev pub empty_sets_equal : Program
empty_sets_equal =
    record { parts = ([]); routines = ([]); body = (record { at = 0; statements = (more_statements (invoke 1 (designator (named_at 1 (codes "display")) no_selectors) (more_expressions (related 3 (sum 3 None (term 3 (set_of 3 no_expressions) no_factors) no_terms) Equal (sum 6 None (term 6 (set_of 6 no_expressions) no_factors) no_terms)) no_expressions)) no_statements) }); period = 10 }

-- begin display('a' in []) end.
abbrev pub nothing_in_empty_set : Program
nothing_in_empty_set =
    record { parts = ([]); routines = ([]); body = (record { at = 0; statements = (more_statements (invoke 1 (designator (named_at 1 (codes "display")) no_selectors) (more_expressions (related 3 (sum 3 None (term 3 (character 3 97) no_factors) no_terms) In (sum 5 None (term 5 (set_of 5 no_expressions) no_factors) no_terms)) no_expressions)) no_statements) }); period = 9 }

-- var a, b: array [1..2] of integer; begin b[2] := 5; a := (b); display(a[2]) end.
abbrev pub whole_array_copied : Program
whole_array_copied =
    record { parts = ((program_variables 0 ((record { names = ((named_at 1 (codes "a")) ∷ (named_at 3 (codes "b")) ∷ []); variable_type = (array_of 5 (subrange 7 (record { at = 7; kind = constant_kind.Number None 1 }) (record { at = 9; kind = constant_kind.Number None 2 })) (simple 12 (type_name 12 (codes "integer")))) }) ∷ [])) ∷ []); routines = ([]); body = (record { at = 14; statements = (more_statements (assign 15 (designator (named_at 15 (codes "b")) (more_selectors (index (just 17 (number 17 2))) no_selectors)) (just 20 (number 20 5))) (more_statements (assign 22 (designator (named_at 22 (codes "a")) no_selectors) (just 24 (group 24 (just 25 (named 25 (designator (named_at 25 (codes "b")) no_selectors) no_expressions))))) (more_statements (invoke 28 (designator (named_at 28 (codes "display")) no_selectors) (more_expressions (just 30 (named 30 (designator (named_at 30 (codes "a")) (more_selectors (index (just 32 (number 32 2))) no_selectors)) no_expressions)) no_expressions)) no_statements))) }); period = 36 }

-- type r = record x, y: integer end; var a: array [1..2] of r; procedure p(var v: r); begin v.y := v.y + 3 end; begin a[2].y := 4; p(a[2]); display(a[2].y); display(a[1].y) end.
abbrev pub field_of_element : Program
field_of_element =
    record { parts = ((program_types 0 ((record { name = (named_at 1 (codes "r")); value = (type_definition (record_of 3 (more_fields (fields ((named_at 4 (codes "x")) ∷ (named_at 6 (codes "y")) ∷ []) (simple 8 (type_name 8 (codes "integer")))) no_fields) false)) }) ∷ [])) ∷ (program_variables 11 ((record { names = ((named_at 12 (codes "a")) ∷ []); variable_type = (array_of 14 (subrange 16 (record { at = 16; kind = constant_kind.Number None 1 }) (record { at = 18; kind = constant_kind.Number None 2 })) (simple 21 (type_name 21 (codes "r")))) }) ∷ [])) ∷ []); routines = ((record { at = 23; is_entry = false; name = (named_at 24 (codes "p")); kind = (procedure ((record { at = 26; is_var = true; group = (record { names = ((named_at 27 (codes "v")) ∷ []); type_name = (named_at 29 (codes "r")) }) }) ∷ [])); parts = ([]); body = (record { at = 32; statements = (more_statements (assign 33 (designator (named_at 33 (codes "v")) (more_selectors (field (named_at 35 (codes "y"))) no_selectors)) (alone 37 (sum 37 None (term 37 (named 37 (designator (named_at 37 (codes "v")) (more_selectors (field (named_at 39 (codes "y"))) no_selectors)) no_expressions) no_factors) (more_terms Plus (term 41 (number 41 3) no_factors) no_terms)))) no_statements) }) }) ∷ []); body = (record { at = 44; statements = (more_statements (assign 45 (designator (named_at 45 (codes "a")) (more_selectors (index (just 47 (number 47 2))) (more_selectors (field (named_at 50 (codes "y"))) no_selectors))) (just 52 (number 52 4))) (more_statements (invoke 54 (designator (named_at 54 (codes "p")) no_selectors) (more_expressions (just 56 (named 56 (designator (named_at 56 (codes "a")) (more_selectors (index (just 58 (number 58 2))) no_selectors)) no_expressions)) no_expressions)) (more_statements (invoke 62 (designator (named_at 62 (codes "display")) no_selectors) (more_expressions (just 64 (named 64 (designator (named_at 64 (codes "a")) (more_selectors (index (just 66 (number 66 2))) (more_selectors (field (named_at 69 (codes "y"))) no_selectors))) no_expressions)) no_expressions)) (more_statements (invoke 72 (designator (named_at 72 (codes "display")) no_selectors) (more_expressions (just 74 (named 74 (designator (named_at 74 (codes "a")) (more_selectors (index (just 76 (number 76 1))) (more_selectors (field (named_at 79 (codes "y"))) no_selectors))) no_expressions)) no_expressions)) no_statements)))) }); period = 82 }

-- const two = 2; var i: integer; begin repeat i := i + 1; case i of 1: display('a'); two, 3: display(i) end until i = 3; while i > 0 do i := i - 2; display(i); case i of 1: end end.
abbrev pub case_and_loops : Program
case_and_loops =
    record { parts = ((program_constants 0 ((record { name = (named_at 1 (codes "two")); value = (record { at = 3; kind = constant_kind.Number None 2 }) }) ∷ [])) ∷ (program_variables 5 ((record { names = ((named_at 6 (codes "i")) ∷ []); variable_type = (simple 8 (type_name 8 (codes "integer"))) }) ∷ [])) ∷ []); routines = ([]); body = (record { at = 10; statements = (more_statements (repeat_until 11 (more_statements (assign 12 (designator (named_at 12 (codes "i")) no_selectors) (alone 14 (sum 14 None (term 14 (named 14 (designator (named_at 14 (codes "i")) no_selectors) no_expressions) no_factors) (more_terms Plus (term 16 (number 16 1) no_factors) no_terms)))) (more_statements (case_of 18 (just 19 (named 19 (designator (named_at 19 (codes "i")) no_selectors) no_expressions)) (more_arms (arm ((record { at = 21; kind = constant_kind.Number None 1 }) ∷ []) (invoke 23 (designator (named_at 23 (codes "display")) no_selectors) (more_expressions (just 25 (character 25 97)) no_expressions))) (more_arms (arm ((record { at = 28; kind = constant_kind.Name None (named_at 28 (codes "two")) }) ∷ (record { at = 30; kind = constant_kind.Number None 3 }) ∷ []) (invoke 32 (designator (named_at 32 (codes "display")) no_selectors) (more_expressions (just 34 (named 34 (designator (named_at 34 (codes "i")) no_selectors) no_expressions)) no_expressions))) no_arms)) false) no_statements)) (related 38 (sum 38 None (term 38 (named 38 (designator (named_at 38 (codes "i")) no_selectors) no_expressions) no_factors) no_terms) Equal (sum 40 None (term 40 (number 40 3) no_factors) no_terms))) (more_statements (while_do 42 (related 43 (sum 43 None (term 43 (named 43 (designator (named_at 43 (codes "i")) no_selectors) no_expressions) no_factors) no_terms) Greater (sum 45 None (term 45 (number 45 0) no_factors) no_terms)) (assign 47 (designator (named_at 47 (codes "i")) no_selectors) (alone 49 (sum 49 None (term 49 (named 49 (designator (named_at 49 (codes "i")) no_selectors) no_expressions) no_factors) (more_terms Minus (term 51 (number 51 2) no_factors) no_terms))))) (more_statements (invoke 53 (designator (named_at 53 (codes "display")) no_selectors) (more_expressions (just 55 (named 55 (designator (named_at 55 (codes "i")) no_selectors) no_expressions)) no_expressions)) (more_statements (case_of 58 (just 59 (named 59 (designator (named_at 59 (codes "i")) no_selectors) no_expressions)) (more_arms (arm ((record { at = 61; kind = constant_kind.Number None 1 }) ∷ []) (empty 63)) no_arms) false) no_statements)))) }); period = 65 }

-- type k = class(n: integer); var v: integer; procedure entry add(a: integer); begin v := v + a end; function entry sum: integer; begin sum := v + n end; begin v := 10 end; d = class(x: k); procedure entry go; begin x.add(5) end; begin end; var x: k; y: d; begin init x(100), y(x); y.go; display(x.sum) end.
abbrev pub class_in_class : Program
class_in_class =
    record { parts = ((program_types 0 ((record { name = (named_at 1 (codes "k")); value = (system_definition (record { at = 3; kind = system_kind.Class; parameters = ((record { names = ((named_at 5 (codes "n")) ∷ []); type_name = (named_at 7 (codes "integer")) }) ∷ []); has_semicolon = true; parts = ((variables 10 ((record { names = ((named_at 11 (codes "v")) ∷ []); variable_type = (simple 13 (type_name 13 (codes "integer"))) }) ∷ [])) ∷ []); routines = ((record { at = 15; is_entry = true; name = (named_at 17 (codes "add")); kind = (procedure ((record { at = 19; is_var = false; group = (record { names = ((named_at 19 (codes "a")) ∷ []); type_name = (named_at 21 (codes "integer")) }) }) ∷ [])); parts = ([]); body = (record { at = 24; statements = (more_statements (assign 25 (designator (named_at 25 (codes "v")) no_selectors) (alone 27 (sum 27 None (term 27 (named 27 (designator (named_at 27 (codes "v")) no_selectors) no_expressions) no_factors) (more_terms Plus (term 29 (named 29 (designator (named_at 29 (codes "a")) no_selectors) no_expressions) no_factors) no_terms)))) no_statements) }) }) ∷ (record { at = 32; is_entry = true; name = (named_at 34 (codes "sum")); kind = (function ([]) (named_at 36 (codes "integer"))); parts = ([]); body = (record { at = 38; statements = (more_statements (assign 39 (designator (named_at 39 (codes "sum")) no_selectors) (alone 41 (sum 41 None (term 41 (named 41 (designator (named_at 41 (codes "v")) no_selectors) no_expressions) no_factors) (more_terms Plus (term 43 (named 43 (designator (named_at 43 (codes "n")) no_selectors) no_expressions) no_factors) no_terms)))) no_statements) }) }) ∷ []); body = (record { at = 46; statements = (more_statements (assign 47 (designator (named_at 47 (codes "v")) no_selectors) (just 49 (number 49 10))) no_statements) }) })) }) ∷ (record { name = (named_at 52 (codes "d")); value = (system_definition (record { at = 54; kind = system_kind.Class; parameters = ((record { names = ((named_at 56 (codes "x")) ∷ []); type_name = (named_at 58 (codes "k")) }) ∷ []); has_semicolon = true; parts = ([]); routines = ((record { at = 61; is_entry = true; name = (named_at 63 (codes "go")); kind = (procedure ([])); parts = ([]); body = (record { at = 65; statements = (more_statements (invoke 66 (designator (named_at 66 (codes "x")) (more_selectors (field (named_at 68 (codes "add"))) no_selectors)) (more_expressions (just 70 (number 70 5)) no_expressions)) no_statements) }) }) ∷ []); body = (record { at = 74; statements = (more_statements (empty 75) no_statements) }) })) }) ∷ [])) ∷ (program_variables 77 ((record { names = ((named_at 78 (codes "x")) ∷ []); variable_type = (simple 80 (type_name 80 (codes "k"))) }) ∷ (record { names = ((named_at 82 (codes "y")) ∷ []); variable_type = (simple 84 (type_name 84 (codes "d"))) }) ∷ [])) ∷ []); routines = ([]); body = (record { at = 86; statements = (more_statements (init 87 ((record { target = (designator (named_at 88 (codes "x")) no_selectors); arguments = (more_expressions (just 90 (number 90 100)) no_expressions) }) ∷ (record { target = (designator (named_at 93 (codes "y")) no_selectors); arguments = (more_expressions (just 95 (named 95 (designator (named_at 95 (codes "x")) no_selectors) no_expressions)) no_expressions) }) ∷ [])) (more_statements (invoke 98 (designator (named_at 98 (codes "y")) (more_selectors (field (named_at 100 (codes "go"))) no_selectors)) no_expressions) (more_statements (invoke 102 (designator (named_at 102 (codes "display")) no_selectors) (more_expressions (just 104 (named 104 (designator (named_at 104 (codes "x")) (more_selectors (field (named_at 106 (codes "sum"))) no_selectors)) no_expressions)) no_expressions)) no_statements))) }); period = 109 }

-- type m = monitor; var q: queue; procedure entry e(var a: integer); var i: integer; begin for i := 1 to 9 do begin a := i; if i = 3 then continue(q) end end; begin end; var x: m; v: integer; begin init x; x.e(v); display(v) end.
abbrev pub continue_in_loop : Program
continue_in_loop =
    record { parts = ((program_types 0 ((record { name = (named_at 1 (codes "m")); value = (system_definition (record { at = 3; kind = system_kind.Monitor; parameters = ([]); has_semicolon = true; parts = ((variables 5 ((record { names = ((named_at 6 (codes "q")) ∷ []); variable_type = (simple 8 (type_name 8 (codes "queue"))) }) ∷ [])) ∷ []); routines = ((record { at = 10; is_entry = true; name = (named_at 12 (codes "e")); kind = (procedure ((record { at = 14; is_var = true; group = (record { names = ((named_at 15 (codes "a")) ∷ []); type_name = (named_at 17 (codes "integer")) }) }) ∷ [])); parts = ((variables 20 ((record { names = ((named_at 21 (codes "i")) ∷ []); variable_type = (simple 23 (type_name 23 (codes "integer"))) }) ∷ [])) ∷ []); body = (record { at = 25; statements = (more_statements (for_do 26 (named_at 27 (codes "i")) (just 29 (number 29 1)) direction.To (just 31 (number 31 9)) (block 33 (more_statements (assign 34 (designator (named_at 34 (codes "a")) no_selectors) (just 36 (named 36 (designator (named_at 36 (codes "i")) no_selectors) no_expressions))) (more_statements (if_then 38 (related 39 (sum 39 None (term 39 (named 39 (designator (named_at 39 (codes "i")) no_selectors) no_expressions) no_factors) no_terms) Equal (sum 41 None (term 41 (number 41 3) no_factors) no_terms)) (invoke 43 (designator (named_at 43 (codes "continue")) no_selectors) (more_expressions (just 45 (named 45 (designator (named_at 45 (codes "q")) no_selectors) no_expressions)) no_expressions))) no_statements)))) no_statements) }) }) ∷ []); body = (record { at = 50; statements = (more_statements (empty 51) no_statements) }) })) }) ∷ [])) ∷ (program_variables 53 ((record { names = ((named_at 54 (codes "x")) ∷ []); variable_type = (simple 56 (type_name 56 (codes "m"))) }) ∷ (record { names = ((named_at 58 (codes "v")) ∷ []); variable_type = (simple 60 (type_name 60 (codes "integer"))) }) ∷ [])) ∷ []); routines = ([]); body = (record { at = 62; statements = (more_statements (init 63 ((record { target = (designator (named_at 64 (codes "x")) no_selectors); arguments = no_expressions }) ∷ [])) (more_statements (invoke 66 (designator (named_at 66 (codes "x")) (more_selectors (field (named_at 68 (codes "e"))) no_selectors)) (more_expressions (just 70 (named 70 (designator (named_at 70 (codes "v")) no_selectors) no_expressions)) no_expressions)) (more_statements (invoke 73 (designator (named_at 73 (codes "display")) no_selectors) (more_expressions (just 75 (named 75 (designator (named_at 75 (codes "v")) no_selectors) no_expressions)) no_expressions)) no_statements))) }); period = 78 }
