-- The system types of a program: classes, monitors and processes, and the program itself as the last process type (the book, chapter 8).
use Rattle.std.specs.Prelude.{ℕ, List, [], ◌∷◌, ◌++◌, length, Option, Some, None, slice_get}
use Rattle.cp_tree.specs.declared.declaration.SystemKind.{SystemKind}
use Rattle.cp_tree.specs.declared.declaration.SystemKind.TheVariants as system_kind
use Rattle.cp_tree.specs.Syntax.{Statements, Routine, System, Definition, type_definition, system_definition, SystemDefinition, ProgramPart, program_constants, program_types, program_variables, Program}
use Rattle.cp_meaning.specs.Types.{component_of}
use Rattle.cp_meaning.specs.Scopes.{Scope, type_meaning, permanent_variable, routine_meaning, predeclared, seen_inside}
use Rattle.cp_meaning.specs.Declarations.{Variable, Block, constants_in, type_in, variables_in, parts_in, Parameter, with_groups}

-- what a component of a system type has; the scope is that of its initial statement
pub record SystemMeaning : Type 0 where
  pub kind : SystemKind
  pub parameters : List Parameter
  pub variables : List Variable
  pub scope : Scope
  pub body : Statements

-- each routine's name is visible from its heading on
abbrev pub with_routines : Scope → List Routine → Scope
with_routines s [] = s
with_routines s (r ∷ rs) = with_routines ((r.name.name, routine_meaning r) ∷ s) rs

-- a system type in the scope before its declaration
abbrev pub system_in : Scope → System → SystemMeaning
system_in s d =
    let h = with_groups permanent_variable (record { parameters = []; scope = s }) d.parameters in
    let b = parts_in permanent_variable (record { variables = []; scope = h.scope }) d.parts in
    record { kind = d.kind; parameters = h.parameters; variables = b.variables; scope = with_routines b.scope d.routines; body = d.body.statements }

-- the declarations of the program so far
pub record Declared : Type 0 where
  pub systems : List SystemMeaning
  pub variables : List Variable
  pub scope : Scope

-- a type, or a system type, which sees the constants and types before it
abbrev pub definition_in : Declared → SystemDefinition → Definition → Declared
definition_in d n (type_definition t) =
    let inner = type_in d.scope t in
    record { systems = d.systems; variables = d.variables; scope = (n.name.name, type_meaning inner.0) ∷ inner.1 }
definition_in d n (system_definition s) =
    record {
      systems = d.systems ++ system_in (seen_inside d.scope) s ∷ [];
      variables = d.variables;
      scope = (n.name.name, type_meaning (component_of (length d.systems))) ∷ d.scope;
    }

abbrev pub definitions_in : Declared → List SystemDefinition → Declared
definitions_in d [] = d
definitions_in d (n ∷ ns) = definitions_in (definition_in d n n.value) ns

abbrev pub with_block : List SystemMeaning → Block → Declared
with_block ss b = record { systems = ss; variables = b.variables; scope = b.scope }

-- a part of the program
abbrev pub program_part_in : Declared → ProgramPart → Declared
program_part_in d (program_constants at ds) = record { systems = d.systems; variables = d.variables; scope = constants_in d.scope ds }
program_part_in d (program_types at ns) = definitions_in d ns
program_part_in d (program_variables at gs) = with_block d.systems (variables_in permanent_variable (record { variables = d.variables; scope = d.scope }) gs)

abbrev pub program_parts_in : Declared → List ProgramPart → Declared
program_parts_in d [] = d
program_parts_in d (p ∷ ps) = program_parts_in (program_part_in d p) ps

-- all declarations of the program
abbrev pub declared : Program → Declared
declared p = program_parts_in (record { systems = []; variables = []; scope = predeclared }) p.parts

-- the number of system types, and so the place of the program's own among them
abbrev pub program_system : Program → ℕ
program_system p = length (declared p).systems

-- the program itself is a process type
abbrev pub own_meaning : Declared → Program → SystemMeaning
own_meaning d p = record { kind = system_kind.Process; parameters = []; variables = d.variables; scope = with_routines d.scope p.routines; body = p.body.statements }

abbrev pub or_own : SystemMeaning → Option SystemMeaning → SystemMeaning
or_own own None = own
or_own own (Some s) = s

-- the meaning of system type k; that of the program is the last
abbrev pub system_of : Program → ℕ → SystemMeaning
system_of p k = or_own (own_meaning (declared p) p) (slice_get (declared p).systems k)
