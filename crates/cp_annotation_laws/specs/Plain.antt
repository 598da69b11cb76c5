-- The tree without its annotations: no assertion stands before a statement, and no block has invariants. Each node keeps the number of its token, and so its line.
use Rattle.std.specs.Prelude.{if◌then◌else◌, List, [], ◌∷◌, map}
use Rattle.cp_tree.specs.Syntax.{Statement, block, if_then, if_else, case_of, while_do, repeat_until, for_do, cycle, asserted, Statements, no_statements, more_statements, Arms, no_arms, more_arms, Arm, arm, nameless, Body, Routine, System, Definition, type_definition, system_definition, SystemDefinition, ProgramPart, program_constants, program_types, program_variables, Program, Tree}
use Rattle.cp_meaning.specs.Names.{same_name}

abbrev mutual
  pub plain_statement : Statement → Statement
  plain_statement (block at ss) = block at (plain_statements ss)
  plain_statement (if_then at e s) = if_then at e (plain_statement s)
  plain_statement (if_else at e s t) = if_else at e (plain_statement s) (plain_statement t)
  plain_statement (case_of at e as' b) = case_of at e (plain_arms as') b
  plain_statement (while_do at e s) = while_do at e (plain_statement s)
  plain_statement (repeat_until at ss e) = repeat_until at (plain_statements ss) e
  plain_statement (for_do at i e d f s) = for_do at i e d f (plain_statement s)
  plain_statement (cycle at ss) = cycle at (plain_statements ss)
  plain_statement (asserted at k e s) = plain_statement s
  plain_statement s = s

  pub plain_statements : Statements → Statements
  plain_statements no_statements = no_statements
  plain_statements (more_statements s ss) = more_statements (plain_statement s) (plain_statements ss)

  pub plain_arms : Arms → Arms
  plain_arms no_arms = no_arms
  plain_arms (more_arms a as') = more_arms (plain_arm a) (plain_arms as')

  pub plain_arm : Arm → Arm
  plain_arm (arm cs s) = arm cs (plain_statement s)

abbrev pub plain_body : Body → Body
plain_body b = record b { statements = plain_statements b.statements }

abbrev pub plain_routine : Routine → Routine
plain_routine r = record r { body = plain_body r.body }

-- the routine without a name says the invariants of the block
abbrev pub plain_routines : List Routine → List Routine
plain_routines [] = []
plain_routines (r ∷ rs) = if same_name nameless r.name.name then plain_routines rs else plain_routine r ∷ plain_routines rs

abbrev pub plain_system : System → System
plain_system s = record s { routines = plain_routines s.routines; body = plain_body s.body }

abbrev pub plain_definition : Definition → Definition
plain_definition (type_definition t) = type_definition t
plain_definition (system_definition s) = system_definition (plain_system s)

abbrev pub plain_system_definition : SystemDefinition → SystemDefinition
plain_system_definition n = record n { value = plain_definition n.value }

abbrev pub plain_part : ProgramPart → ProgramPart
plain_part (program_constants at ds) = program_constants at ds
plain_part (program_types at ns) = program_types at (map plain_system_definition ns)
plain_part (program_variables at gs) = program_variables at gs

abbrev pub plain_program : Program → Program
plain_program p = record p { parts = map plain_part p.parts; routines = plain_routines p.routines; body = plain_body p.body }

abbrev pub plain_tree : Tree → Tree
plain_tree t = record t { program = plain_program t.program }
