-- The rules of system types and programs.
use Rattle.std.specs.Prelude.{ℕ, true, false, List, [], ◌∷◌, Some, None, Ok, Err}
use Rattle.cp_tree.specs.declared.declaration.SystemKind.{SystemKind}
use Rattle.cp_tree.specs.declared.declaration.SystemKind.TheVariants.{Class, Monitor, Process}
use Rattle.cp_tree.specs.Syntax.{Group, System, Definition, type_definition, system_definition, SystemDefinition, ProgramPart, program_constants, program_types, program_variables}
use Rattle.cp_scope.specs.declared.fault.Rule.TheVariants.{C11, C13, C14, C15}
use Rattle.cp_scope.specs.declared.types.ValueType.{ValueType}
use Rattle.cp_scope.specs.declared.types.ValueType.TheVariants.{Component}
use Rattle.cp_scope.specs.declared.types.Meaning.{Meaning}
use Rattle.cp_scope.specs.declared.types.Meaning.TheVariants as meaning
use Rattle.cp_scope.specs.declared.count.Use.{Use}
use Rattle.cp_scope.specs.Counts.{no_use}
use Rattle.cp_scope.specs.Scopes.{Scopes, Heading, system_shape, census, parameters_in, enter, leave, keep}
use Rattle.cp_scope.specs.Judged.{Judged, broken, ◌>>=◌}
use Rattle.cp_check.specs.declared.operand.Context.{Context}
use Rattle.cp_check.specs.declared.types.Spot.TheVariants.{Permanent, Definition as Definition'}
use Rattle.cp_check.specs.declared.types.Holding.{Holding}
use Rattle.cp_check.specs.declared.types.Holding.TheVariants as holds
use Rattle.cp_check.specs.Types.{Step, then_step, nothing, Typed, typed, type_named, holding}
use Rattle.cp_check.specs.Statements.{statements}
use Rattle.cp_check.specs.Headings.{after_faults}
use Rattle.cp_check.specs.Routines.{Opened, need_of, routine_steps}
use Rattle.cp_check.specs.Declarations.{reserve_name, reserve_names, declare_all, declare_kind, constant_steps, variable_steps, part_steps}

-- ---- parameters

abbrev pub check_component_parameter : ℕ → SystemKind → SystemKind → ValueType → Judged ValueType
check_component_parameter at owner Process t = broken at C15
check_component_parameter at owner Monitor t = Ok t
check_component_parameter at Class Class t = Ok t
check_component_parameter at owner Class t = broken at C14

-- the type of a parameter of a system type
abbrev pub check_parameter_type : ℕ → SystemKind → Holding → ValueType → Judged ValueType
check_parameter_type at owner holds.Plain t = Ok t
check_parameter_type at owner holds.Queue t = broken at C15
check_parameter_type at owner holds.Queues t = broken at C11
check_parameter_type at owner (holds.Component k) t = check_component_parameter at owner k t
check_parameter_type at owner (holds.Components k) t = broken at C13

abbrev pub check_parameter_type_in : Scopes → ℕ → SystemKind → ValueType → Judged ValueType
check_parameter_type_in s at owner t = check_parameter_type at owner (holding s t) t

unfoldable pub parameter_type : SystemKind → Scopes → Group → Judged ValueType
parameter_type owner s g = type_named s g.type_name.at g.type_name.name >>= check_parameter_type_in s g.type_name.at owner

abbrev pub to_parameter : ValueType → Judged Meaning
to_parameter t = Ok (meaning.Parameter t)

unfoldable pub group_step : SystemKind → Scopes → Group → Step
group_step owner s g = then_step (reserve_names s g.names) (λ after. declare_all g.names (parameter_type owner after g >>= to_parameter) after)

unfoldable pub group_steps : SystemKind → Scopes → List Group → Step
group_steps owner s [] = nothing s
group_steps owner s (g ∷ gs) = then_step (group_step owner s g) (λ after. group_steps owner after gs)

-- ---- system types

-- the declarations of a system type
unfoldable pub inside : Scopes → System → Step
inside s y =
    then_step (group_steps y.kind s y.parameters) (λ a.
    then_step (part_steps (Permanent (Some y.kind)) a y.parts) (λ b.
    routine_steps (Some y.kind) b y.routines))

abbrev pub initial_context : SystemKind → Context
initial_context k = record { owner = Some k; routine = None; is_quiet = false }

abbrev pub body_after : System → Step → Opened
body_after y d = record { uses = after_faults d.faults (statements d.scopes (initial_context y.kind) (Ok no_use) y.body.statements); scopes = d.scopes }

unfoldable pub enter_system : Scopes → System → Opened
enter_system s y = body_after y (inside s y)

abbrev pub system_heading : Scopes → Heading
system_heading s = record { is_entry = false; parameters = parameters_in s.inner.names; result = None }

-- out of a system type, which is written at a token
unfoldable pub close_system : Scopes → ℕ → Use → Scopes
close_system s at u = keep (leave s) at (system_shape s.inner (system_heading s) (census s.inner.names s.shapes) (need_of u))

abbrev pub use_of : Judged Use → Use
use_of (Ok u) = u
use_of (Err fs) = no_use

abbrev pub to_component : SystemKind → ℕ → Use → Judged ValueType
to_component k at u = Ok (Component k at)

abbrev pub system_type_of : System → Opened → Typed
system_type_of y o = record { type = o.uses >>= to_component y.kind y.at; scopes = close_system o.scopes y.at (use_of o.uses) }

-- the variables around a system type are not visible in it
unfoldable pub system_type : Scopes → System → Typed
system_type s y = system_type_of y (enter_system (enter true s) y)

unfoldable pub type_of_definition : Scopes → Definition → Typed
type_of_definition s (type_definition t) = typed s Definition' t
type_of_definition s (system_definition y) = system_type s y

-- ---- the program's declarations

unfoldable pub definition_step : Scopes → SystemDefinition → Step
definition_step s d = then_step (reserve_name s d.name) (λ after. declare_kind d.name (type_of_definition after d.value))

unfoldable pub definition_steps : Scopes → List SystemDefinition → Step
definition_steps s [] = nothing s
definition_steps s (d ∷ ds) = then_step (definition_step s d) (λ after. definition_steps after ds)

unfoldable pub program_part_step : Scopes → ProgramPart → Step
program_part_step s (program_constants at ds) = constant_steps s ds
program_part_step s (program_types at ds) = definition_steps s ds
program_part_step s (program_variables at gs) = variable_steps (Permanent None) s gs

unfoldable pub program_part_steps : Scopes → List ProgramPart → Step
program_part_steps s [] = nothing s
program_part_steps s (d ∷ ds) = then_step (program_part_step s d) (λ after. program_part_steps after ds)
