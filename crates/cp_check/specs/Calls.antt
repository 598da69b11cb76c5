-- The rules of calls.
use Rattle.std.specs.Prelude.{ℕ, nat_eq, Bool, true, false, not, ◌&&◌, if◌then◌else◌, List, [], ◌∷◌, ◌++◌, length, Option, Some, None, is_some, Ok, Err}
use Rattle.cp_tree.specs.declared.declaration.SystemKind.{SystemKind}
use Rattle.cp_tree.specs.declared.declaration.SystemKind.TheVariants.{Monitor}
use Rattle.cp_scope.specs.declared.fault.Rule.{Rule}
use Rattle.cp_scope.specs.declared.fault.Rule.TheVariants.{C5, C6, C7, C9, C10, C12, C22}
use Rattle.cp_scope.specs.declared.fault.CheckFault.{CheckFault}
use Rattle.cp_scope.specs.declared.fault.CheckFault.TheVariants as check_fault
use Rattle.cp_scope.specs.declared.types.ValueType.{ValueType}
use Rattle.cp_scope.specs.declared.types.ValueType.TheVariants as types
use Rattle.cp_scope.specs.declared.types.Parameter.{Parameter}
use Rattle.cp_scope.specs.declared.shape.ArrayShape.{ArrayShape}
use Rattle.cp_scope.specs.declared.count.Use.{Use}
use Rattle.cp_scope.specs.Types.{agree, same, values_of}
use Rattle.cp_scope.specs.Counts.{both_uses}
use Rattle.cp_scope.specs.Scopes.{Scopes, heading_at, body_at, array_at}
use Rattle.cp_scope.specs.Judged.{Judged, broken, ◌>>=◌}
use Rattle.cp_check.specs.declared.operand.Context.{Context}
use Rattle.cp_check.specs.declared.operand.OperandUse.{OperandUse}
use Rattle.cp_check.specs.declared.operand.OperandUse.TheVariants.{Fixed, Assignable, Function}
use Rattle.cp_check.specs.declared.operand.Operand.{Operand}
use Rattle.cp_check.specs.declared.operand.Named.{Named}
use Rattle.cp_check.specs.declared.operand.Named.TheVariants.{Nothing, Constant, Variable, Parameter as Parameter', Kind, Routine, Entry, Predeclared}
use Rattle.cp_check.specs.declared.operand.DesignatedName.{DesignatedName}
use Rattle.cp_check.specs.Operands.{value, is_assignable, is_function}
use Rattle.cp_check.specs.Operations as operations

abbrev pub fault : ℕ → Rule → List CheckFault
fault at rule = check_fault.Rule at rule ∷ []

-- ---- arguments

abbrev pub fits : Parameter → Operand → Bool
fits p o =
    if p.is_var
    then (if is_function o.place then true else same p.value_type o.value_type)
    else agree p.value_type o.value_type

abbrev pub all_fit : List Parameter → List Operand → Bool
all_fit [] os = true
all_fit (p ∷ ps) [] = true
all_fit (p ∷ ps) (o ∷ os) = fits p o && all_fit ps os

-- where the number is wrong, no argument is compared
abbrev pub fit_faults : ℕ → List Parameter → List Operand → List CheckFault
fit_faults at ps os =
    if nat_eq (length ps) (length os)
    then (if all_fit ps os then [] else fault at C5)
    else fault at C7

abbrev pub variable_faults : Parameter → Operand → List CheckFault
variable_faults p o = if p.is_var && not (is_assignable o.place) then fault o.at C6 else []

abbrev pub all_variable_faults : List Parameter → List Operand → List CheckFault
all_variable_faults [] os = []
all_variable_faults (p ∷ ps) [] = []
all_variable_faults (p ∷ ps) (o ∷ os) = variable_faults p o ++ all_variable_faults ps os

abbrev pub assignable_faults : List Parameter → List Operand → List CheckFault
assignable_faults ps os = if nat_eq (length ps) (length os) then all_variable_faults ps os else []

unfoldable pub total_use : Use → List Operand → Use
total_use u [] = u
total_use u (o ∷ os) = total_use (both_uses u o.uses) os

-- ---- calls of routines

abbrev pub entry_faults : ℕ → Bool → Bool → List CheckFault
entry_faults at true true = fault at C9
entry_faults at false false = fault at C9
entry_faults at _ _ = []

abbrev pub own_faults_of : ℕ → Option ℕ → ℕ → List CheckFault
own_faults_of at (Some own) n = if nat_eq own n then fault at C10 else []
own_faults_of at None n = []

abbrev pub own_faults : ℕ → Context → ℕ → List CheckFault
own_faults at w n = own_faults_of at w.routine n

abbrev pub is_initial : Option SystemKind → Option ℕ → Bool
is_initial (Some Monitor) None = true
is_initial _ _ = false

abbrev pub is_initial_of_monitor : Context → Bool
is_initial_of_monitor w = is_initial w.owner w.routine

abbrev pub delay_faults : ℕ → Context → Bool → Use → List CheckFault
delay_faults at w is_local u = if is_initial_of_monitor w && (is_local && u.delays) then fault at C12 else []

-- in an annotation, where this is the place of the fault among those of the call
abbrev pub quiet_faults : ℕ → Context → Bool → List CheckFault
quiet_faults at w is_here = if is_here && w.is_quiet then fault at C22 else []

abbrev pub unless : {A : Type 0} → List CheckFault → A → Judged A
unless [] x = Ok x
unless (f ∷ fs) x = Err (f ∷ fs)

-- A local call has its name at its first token, so that its faults there come by their rules; an entry's name stands behind it.
abbrev pub call_faults : Scopes → Context → ℕ → ℕ → Bool → ℕ → List Operand → List CheckFault
call_faults s w at name_at is_local n os =
    fit_faults at (heading_at n s).parameters os
    ++ (quiet_faults at w (not is_local)
    ++ (entry_faults name_at is_local (heading_at n s).is_entry
    ++ (own_faults name_at w n
    ++ (delay_faults name_at w is_local (body_at n s)
    ++ (quiet_faults at w is_local
    ++ assignable_faults (heading_at n s).parameters os)))))

abbrev pub call_use : Bool → Use → Use
call_use is_local u = record { calls = 0; need = u.need; delays = is_local && u.delays }

-- the call at a token of the routine n, whose name stands at another; what it takes
unfoldable pub check_routine_call : Scopes → Context → ℕ → ℕ → Bool → ℕ → List Operand → Use → Judged Use
check_routine_call s w at name_at is_local n os u =
    unless (call_faults s w at name_at is_local n os) (both_uses (total_use u os) (call_use is_local (body_at n s)))

-- one function call
abbrev pub one_call : Use
one_call = record { calls = 1; need = 0; delays = false }

abbrev pub with_result : ℕ → ValueType → Use → Judged Operand
with_result at t u = Ok (value at t (both_uses u one_call))

abbrev pub function_of : Scopes → Context → ℕ → ℕ → Bool → ℕ → List Operand → Use → Option ValueType → Judged Operand
function_of s w at name_at is_local n os u None = broken at C5
function_of s w at name_at is_local n os u (Some t) = check_routine_call s w at name_at is_local n os u >>= with_result at t

unfoldable pub function_value : Scopes → Context → ℕ → ℕ → Bool → ℕ → List Operand → Use → Judged Operand
function_value s w at name_at is_local n os u = function_of s w at name_at is_local n os u (heading_at n s).result

-- ---- names as values

abbrev pub is_fixed_element : ValueType → Bool
is_fixed_element types.Queue = true
is_fixed_element (types.Component k n) = true
is_fixed_element _ = false

abbrev pub is_fixed_array : Option ArrayShape → Bool
is_fixed_array (Some a) = is_fixed_element a.element
is_fixed_array None = false

-- queues, components and arrays of such are not assignable
abbrev pub is_fixed : Scopes → ValueType → Bool
is_fixed s types.Queue = true
is_fixed s (types.Component k n) = true
is_fixed s (types.Array n) = is_fixed_array (array_at n s)
is_fixed s _ = false

abbrev pub place_of : Scopes → ValueType → OperandUse
place_of s t = if is_fixed s t then Fixed else Assignable

abbrev pub alone : Operand → List Operand → Judged Operand
alone o [] = Ok o
alone o (p ∷ ps) = broken o.at C5

abbrev pub operand_at : ℕ → ValueType → OperandUse → Use → Operand
operand_at at t p u = record { at = at; value_type = t; place = p; uses = u }

abbrev pub value_by_name : Scopes → Context → ℕ → DesignatedName → List Operand → Named → Judged Operand
value_by_name s w at d os (Constant b) = alone (value at (values_of b) d.uses) os
value_by_name s w at d os (Variable t) = alone (operand_at at t (place_of s t) d.uses) os
value_by_name s w at d os (Parameter' t) = alone (operand_at at t Fixed d.uses) os
value_by_name s w at d os (Predeclared p) = operations.standard_value at p os (total_use d.uses os)
value_by_name s w at d os (Routine n) = function_value s w at d.name_at true n os d.uses
value_by_name s w at d os (Entry n) = function_value s w at d.name_at false n os d.uses
value_by_name s w at d os Kind = broken at C5
value_by_name s w at d os Nothing = broken at C5

-- a name with its arguments as a value
unfoldable pub value_of : Scopes → Context → ℕ → DesignatedName × List Operand → Judged Operand
value_of s w at p = value_by_name s w at p.0 p.1 p.0.named

abbrev pub is_own_of : Option ℕ → ℕ → Bool
is_own_of (Some own) n = nat_eq own n
is_own_of None n = false

abbrev pub is_own : Context → ℕ → Bool
is_own w n = is_own_of w.routine n

abbrev pub is_other_function : Scopes → Context → Named → Bool
is_other_function s w (Predeclared p) = operations.is_function p
is_other_function s w (Routine n) = is_some (heading_at n s).result && not (is_own w n)
is_other_function s w (Entry n) = is_some (heading_at n s).result
is_other_function s w _ = false

-- a name alone in the place of a `var` argument
abbrev pub variable_of : Scopes → Context → ℕ → DesignatedName → Judged Operand
variable_of s w at d =
    if is_other_function s w d.named
    then Ok (operand_at at types.Queue Function d.uses)
    else value_of s w at (d, [])
