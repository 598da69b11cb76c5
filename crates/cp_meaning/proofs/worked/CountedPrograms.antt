-- The programs whose steps are counted.
use Rattle.std.specs.Prelude.{[], ◌∷◌, false, codes}
use Rattle.cp_tree.specs.declared.statement.Direction.TheVariants as direction
use Rattle.cp_tree.specs.Syntax.{number, named, no_expressions, more_expressions, designator, no_selectors, empty, assign, invoke, for_do, no_statements, more_statements, type_name, simple, procedure, program_variables, Program}
use Rattle.cp_meaning.proofs.Written.{named_at, just}

-- begin end.
abbrev pub nothing_done : Program
nothing_done =
    record { parts = ([]); routines = ([]); body = (record { at = 0; statements = (more_statements (empty 1) no_statements) }); period = 2 }

-- var x: integer; begin x := 1; display(x) end.
abbrev pub one_shown : Program
one_shown =
    record { parts = ((program_variables 0 ((record { names = ((named_at 1 (codes "x")) ∷ []); variable_type = (simple 3 (type_name 3 (codes "integer"))) }) ∷ [])) ∷ []); routines = ([]); body = (record { at = 5; statements = (more_statements (assign 6 (designator (named_at 6 (codes "x")) no_selectors) (just 8 (number 8 1))) (more_statements (invoke 10 (designator (named_at 10 (codes "display")) no_selectors) (more_expressions (just 12 (named 12 (designator (named_at 12 (codes "x")) no_selectors) no_expressions)) no_expressions)) no_statements)) }); period = 15 }

-- var i, x: integer; begin for i := 1 to 2 do x := i end.
abbrev pub two_rounds : Program
two_rounds =
    record { parts = ((program_variables 0 ((record { names = ((named_at 1 (codes "i")) ∷ (named_at 3 (codes "x")) ∷ []); variable_type = (simple 5 (type_name 5 (codes "integer"))) }) ∷ [])) ∷ []); routines = ([]); body = (record { at = 7; statements = (more_statements (for_do 8 (named_at 9 (codes "i")) (just 11 (number 11 1)) direction.To (just 13 (number 13 2)) (assign 15 (designator (named_at 15 (codes "x")) no_selectors) (just 17 (named 17 (designator (named_at 17 (codes "i")) no_selectors) no_expressions)))) no_statements) }); period = 19 }

-- procedure f; begin end; begin f end.
abbrev pub one_call : Program
one_call =
    record { parts = ([]); routines = ((record { at = 0; is_entry = false; name = (named_at 1 (codes "f")); kind = (procedure ([])); parts = ([]); body = (record { at = 3; statements = (more_statements (empty 4) no_statements) }) }) ∷ []); body = (record { at = 6; statements = (more_statements (invoke 7 (designator (named_at 7 (codes "f")) no_selectors) no_expressions) no_statements) }); period = 9 }
