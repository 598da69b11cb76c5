-- The rules of routines' headings.
use Rattle.std.specs.Prelude.{ℕ, ◌-◌, Bool, true, false, ◌&&◌, not, if◌then◌else◌, List, [], ◌∷◌, ◌++◌, Option, Some, None, Ok, Err}
use Rattle.cp_tree.specs.declared.constant.Identifier.{Identifier}
use Rattle.cp_tree.specs.declared.declaration.SystemKind.{SystemKind}
use Rattle.cp_tree.specs.declared.declaration.SystemKind.TheVariants.{Class, Monitor, Process}
use Rattle.cp_tree.specs.Syntax.{Group, ParameterGroup, RoutineKind, procedure, function, invariants, Routine}
use Rattle.cp_scope.specs.declared.fault.CheckFault.{CheckFault}
use Rattle.cp_scope.specs.declared.fault.Rule.TheVariants.{C5, C9, C11, C13, C15}
use Rattle.cp_scope.specs.declared.types.ValueType.{ValueType}
use Rattle.cp_scope.specs.declared.types.Meaning.{Meaning}
use Rattle.cp_scope.specs.declared.types.Meaning.TheVariants as meaning
use Rattle.cp_scope.specs.Types.{is_ordinal}
use Rattle.cp_scope.specs.Scopes.{Scopes, Heading, heading_shape, parameters_in, enter, add_around, keep}
use Rattle.cp_scope.specs.Judged.{Judged, broken, ◌>>=◌, faults}
use Rattle.cp_check.specs.declared.types.Holding.{Holding}
use Rattle.cp_check.specs.declared.types.Holding.TheVariants as holds
use Rattle.cp_check.specs.Types.{Step, then_step, nothing, type_named, holding}
use Rattle.cp_check.specs.Calls.{fault, unless}
use Rattle.cp_check.specs.Declarations.{reserve_names, declare_all}

abbrev pub after_faults : {A : Type 0} → List CheckFault → Judged A → Judged A
after_faults [] j = j
after_faults (f ∷ fs) j = Err ((f ∷ fs) ++ faults j)

-- ---- parameters

-- the type of a parameter of a routine
abbrev pub check_parameter_type : ℕ → Holding → ValueType → Judged ValueType
check_parameter_type at holds.Plain t = Ok t
check_parameter_type at holds.Queue t = broken at C15
check_parameter_type at holds.Queues t = broken at C11
check_parameter_type at (holds.Component Process) t = broken at C15
check_parameter_type at (holds.Component k) t = broken at C13
check_parameter_type at (holds.Components k) t = broken at C13

abbrev pub check_parameter_type_in : Scopes → ℕ → ValueType → Judged ValueType
check_parameter_type_in s at t = check_parameter_type at (holding s t) t

unfoldable pub parameter_type : Scopes → Group → Judged ValueType
parameter_type s g = type_named s g.type_name.at g.type_name.name >>= check_parameter_type_in s g.type_name.at

abbrev pub to_parameter : Bool → ValueType → Judged Meaning
to_parameter is_var t = Ok (if is_var then meaning.Reference t else meaning.Parameter t)

unfoldable pub group_step : Bool → Scopes → Group → Step
group_step is_var s g = then_step (reserve_names s g.names) (λ after. declare_all g.names (parameter_type after g >>= to_parameter is_var) after)

-- of a function
unfoldable pub group_steps : Scopes → List Group → Step
group_steps s [] = nothing s
group_steps s (g ∷ gs) = then_step (group_step false s g) (λ after. group_steps after gs)

abbrev pub parameter_step : Scopes → ParameterGroup → Step
parameter_step s g = group_step g.is_var s g.group

-- of a procedure
unfoldable pub parameter_steps : Scopes → List ParameterGroup → Step
parameter_steps s [] = nothing s
parameter_steps s (g ∷ gs) = then_step (parameter_step s g) (λ after. parameter_steps after gs)

-- ---- results

abbrev pub check_result_type : ℕ → Holding → ValueType → Judged ValueType
check_result_type at holds.Plain t = Ok t
check_result_type at holds.Queue t = broken at C11
check_result_type at holds.Queues t = broken at C11
check_result_type at (holds.Component k) t = broken at C13
check_result_type at (holds.Components k) t = broken at C13

abbrev pub check_result_type_in : Scopes → ℕ → ValueType → Judged ValueType
check_result_type_in s at t = check_result_type at (holding s t) t

abbrev pub some_type : ValueType → Judged (Option ValueType)
some_type t = Ok (Some t)

unfoldable pub result_type : Scopes → Identifier → Judged (Option ValueType)
result_type s i = type_named s i.at i.name >>= check_result_type_in s i.at >>= some_type

-- ---- headings

-- the type of a function's result, and what is visible after a heading
pub record Headed : Type 0 where
  pub result : Judged (Option ValueType)
  pub scopes : Scopes

abbrev pub behind : Step → (Scopes → Judged (Option ValueType)) → Headed
behind d f = record { result = after_faults d.faults (f d.scopes); scopes = d.scopes }

abbrev pub no_result : Scopes → Judged (Option ValueType)
no_result s = Ok None

unfoldable pub parameters_and_result : Scopes → RoutineKind → Headed
parameters_and_result s (procedure gs) = behind (parameter_steps s gs) no_result
parameters_and_result s (function gs i) = behind (group_steps s gs) (λ after. result_type after i)
parameters_and_result s invariants = behind (parameter_steps s []) no_result

abbrev pub result_faults : ℕ → Option ValueType → List CheckFault
result_faults at None = []
result_faults at (Some t) = if is_ordinal t then [] else fault at C5

abbrev pub may_enter : Option SystemKind → Bool
may_enter (Some Class) = true
may_enter (Some Monitor) = true
may_enter _ = false

abbrev pub entry_faults : ℕ → Option SystemKind → Bool → List CheckFault
entry_faults at owner is_entry = if is_entry && not (may_enter owner) then fault at C9 else []

-- the word `entry` stands before the name
abbrev pub heading_faults : Option SystemKind → Routine → Option ValueType → List CheckFault
heading_faults owner r t = result_faults r.at t ++ entry_faults (r.name.at - 1) owner r.is_entry

abbrev pub check_heading : Option SystemKind → Routine → Option ValueType → Judged (Option ValueType)
check_heading owner r t = unless (heading_faults owner r t) t

-- the heading of a routine in a system type or in the program, after the faults of its name
abbrev pub check_heading_behind : Option SystemKind → Routine → List CheckFault → Headed → Headed
check_heading_behind owner r fs h = record { result = after_faults fs h.result >>= check_heading owner r; scopes = h.scopes }

unfoldable pub heading : Option SystemKind → Routine → Step → Headed
heading owner r d = check_heading_behind owner r d.faults (parameters_and_result (enter false d.scopes) r.kind)

abbrev pub as_heading : Routine → Option ValueType → Scopes → Heading
as_heading r t s = record { is_entry = r.is_entry; parameters = parameters_in s.inner.names; result = t }

-- from its heading on a routine is visible
unfoldable pub announce : Routine → Option ValueType → Scopes → Scopes
announce r t s = add_around (keep s r.name.at (heading_shape (as_heading r t s) r.body.at)) r.name.name (Some (meaning.Routine r.name.at))

abbrev pub announce_judged : Routine → Judged (Option ValueType) → Scopes → Scopes
announce_judged r (Ok t) s = announce r t s
announce_judged r (Err fs) s = add_around s r.name.name None
