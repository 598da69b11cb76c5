-- The rules of declarations.
use Rattle.std.specs.Prelude.{if◌then◌else◌, List, [], ◌∷◌, Option, Some, None, Ok, Err}
use Rattle.cp_tree.specs.declared.constant.Identifier.{Identifier}
use Rattle.cp_tree.specs.Syntax.{ConstantDefinition, TypeDefinition, VariableGroup, Part, constants, types, variables}
use Rattle.cp_scope.specs.declared.fault.CheckFault.TheVariants as check_fault
use Rattle.cp_scope.specs.declared.fault.Rule.TheVariants.{C2}
use Rattle.cp_scope.specs.declared.types.ValueType.{ValueType}
use Rattle.cp_scope.specs.declared.types.Meaning.{Meaning}
use Rattle.cp_scope.specs.declared.types.Meaning.TheVariants as meaning
use Rattle.cp_scope.specs.Scopes.{Scopes, is_declared, add, reserve, settle}
use Rattle.cp_scope.specs.Judged.{Judged, ◌>>=◌, faults}
use Rattle.cp_check.specs.declared.constant.ConstantNumber.{ConstantNumber}
use Rattle.cp_check.specs.declared.types.Spot.{Spot}
use Rattle.cp_check.specs.declared.types.Spot.TheVariants.{Definition}
use Rattle.cp_check.specs.Constants.{constant}
use Rattle.cp_check.specs.Types.{Step, then_step, nothing, Typed, typed}

-- a name whose declaration has a fault stands for nothing
abbrev pub meaning_or_none : Judged Meaning → Option Meaning
meaning_or_none (Ok m) = Some m
meaning_or_none (Err fs) = None

-- ---- names

unfoldable pub reserve_name : Scopes → Identifier → Step
reserve_name s n =
    if is_declared s n.name
    then record { faults = check_fault.Rule n.at C2 ∷ []; scopes = s }
    else nothing (reserve s n.name)

-- the names are being declared
unfoldable pub reserve_names : Scopes → List Identifier → Step
reserve_names s [] = nothing s
reserve_names s (n ∷ ns) = then_step (reserve_name s n) (λ after. reserve_names after ns)

unfoldable pub add_names : Scopes → List Identifier → Option Meaning → Scopes
add_names s [] m = s
add_names s (n ∷ ns) m = add_names (add s n.name m) ns m

-- the names are declared
unfoldable pub add_all : Scopes → List Identifier → Option Meaning → Scopes
add_all s ns m = settle (add_names s ns m)

unfoldable pub add_one : Scopes → Identifier → Option Meaning → Scopes
add_one s n m = settle (add s n.name m)

abbrev pub declare_one : Identifier → Judged Meaning → Scopes → Step
declare_one n m s = record { faults = faults m; scopes = add_one s n (meaning_or_none m) }

abbrev pub declare_all : List Identifier → Judged Meaning → Scopes → Step
declare_all ns m s = record { faults = faults m; scopes = add_all s ns (meaning_or_none m) }

-- ---- constants

abbrev pub to_constant : ConstantNumber → Judged Meaning
to_constant n = Ok (meaning.Constant n.base n.value)

unfoldable pub constant_step : Scopes → ConstantDefinition → Step
constant_step s d = then_step (reserve_name s d.name) (λ after. declare_one d.name (constant after d.value >>= to_constant) after)

unfoldable pub constant_steps : Scopes → List ConstantDefinition → Step
constant_steps s [] = nothing s
constant_steps s (d ∷ ds) = then_step (constant_step s d) (λ after. constant_steps after ds)

-- ---- types

abbrev pub to_kind : ValueType → Judged Meaning
to_kind t = Ok (meaning.Kind t)

abbrev pub declare_kind : Identifier → Typed → Step
declare_kind n t = declare_one n (t.type >>= to_kind) t.scopes

unfoldable pub type_step : Scopes → TypeDefinition → Step
type_step s d = then_step (reserve_name s d.name) (λ after. declare_kind d.name (typed after Definition d.value))

unfoldable pub type_steps : Scopes → List TypeDefinition → Step
type_steps s [] = nothing s
type_steps s (d ∷ ds) = then_step (type_step s d) (λ after. type_steps after ds)

-- ---- variables

abbrev pub to_variable : ValueType → Judged Meaning
to_variable t = Ok (meaning.Variable t)

abbrev pub declare_variables : List Identifier → Typed → Step
declare_variables ns t = declare_all ns (t.type >>= to_variable) t.scopes

unfoldable pub variable_step : Spot → Scopes → VariableGroup → Step
variable_step p s g = then_step (reserve_names s g.names) (λ after. declare_variables g.names (typed after p g.variable_type))

unfoldable pub variable_steps : Spot → Scopes → List VariableGroup → Step
variable_steps p s [] = nothing s
variable_steps p s (g ∷ gs) = then_step (variable_step p s g) (λ after. variable_steps p after gs)

-- ---- parts

unfoldable pub part_step : Spot → Scopes → Part → Step
part_step p s (constants at ds) = constant_steps s ds
part_step p s (types at ds) = type_steps s ds
part_step p s (variables at gs) = variable_steps p s gs

unfoldable pub part_steps : Spot → Scopes → List Part → Step
part_steps p s [] = nothing s
part_steps p s (d ∷ ds) = then_step (part_step p s d) (λ after. part_steps p after ds)
