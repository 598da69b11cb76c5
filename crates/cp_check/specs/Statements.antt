-- The rules of statements.
use Rattle.std.specs.Prelude.{ℕ, ◌+◌, nat_eq, Bool, true, false, ◌&&◌, not, if◌then◌else◌, List, [], ◌∷◌, ◌++◌, length, Option, Some, None, is_some, Ok, Err}
use Rattle.cp_tree.specs.declared.declaration.SystemKind.{SystemKind}
use Rattle.cp_tree.specs.declared.declaration.SystemKind.TheVariants.{Monitor, Process}
use Rattle.cp_tree.specs.Syntax.{Expression, Expressions, no_expressions, more_expressions, Designator, designator as name_with, Start, Statement, empty, assign, invoke, block, if_then, if_else, case_of, while_do, repeat_until, for_do, cycle, init, asserted, Statements, no_statements, more_statements, Arms, no_arms, more_arms, Arm, arm}
use Rattle.cp_scope.specs.declared.fault.Rule.TheVariants.{C5, C6, C7, C12, C16, C17, C21}
use Rattle.cp_scope.specs.declared.fault.CheckFault.{CheckFault}
use Rattle.cp_scope.specs.declared.types.Base.TheVariants.{Boolean}
use Rattle.cp_scope.specs.declared.types.ValueType.{ValueType}
use Rattle.cp_scope.specs.declared.types.ValueType.TheVariants as types
use Rattle.cp_scope.specs.declared.types.Predeclared.{Predeclared}
use Rattle.cp_scope.specs.declared.types.Predeclared.TheVariants as predeclared
use Rattle.cp_scope.specs.declared.types.Parameter as parameter
use Rattle.cp_scope.specs.declared.count.Use.{Use}
use Rattle.cp_scope.specs.Types.{agree, is_of, is_ordinal, values_of}
use Rattle.cp_scope.specs.Counts.{no_use, both_uses}
use Rattle.cp_scope.specs.Scopes.{Scopes, heading_at, shape_in, as_need}
use Rattle.cp_scope.specs.Judged.{Judged, broken, both, ◌>>=◌}
use Rattle.cp_check.specs.declared.operand.Context.{Context}
use Rattle.cp_check.specs.declared.operand.Operand.{Operand}
use Rattle.cp_check.specs.declared.operand.Named.{Named}
use Rattle.cp_check.specs.declared.operand.Named.TheVariants.{Nothing, Constant, Variable, Parameter, Kind, Routine, Entry, Predeclared as Predeclared'}
use Rattle.cp_check.specs.declared.operand.DesignatedName.{DesignatedName}
use Rattle.cp_check.specs.declared.case.Label.{Label}
use Rattle.cp_check.specs.declared.statement.Target.{Target}
use Rattle.cp_check.specs.declared.statement.Target.TheVariants as target
use Rattle.cp_tree.specs.View.{expression_at}
use Rattle.cp_check.specs.Operands.{quiet, is_queue, is_assignable}
use Rattle.cp_check.specs.Operations.{is_function}
use Rattle.cp_check.specs.Names.{meaning_of_name}
use Rattle.cp_check.specs.Calls.{check_routine_call, fit_faults, fault, unless, is_own, place_of, total_use}
use Rattle.cp_check.specs.Cases.{labels, join_arms, check_case}
use Rattle.cp_check.specs.Expressions.{expression, designator, arguments}

-- ---- targets

abbrev pub result_target : Scopes → Context → ℕ → Bool → Option ValueType → Target
result_target s w n is_local None = target.Kind
result_target s w n is_local (Some t) = if is_local && is_own w n then target.Assignable t else target.Fixed None

-- in a function its own name is its result
abbrev pub function_target : Scopes → Context → ℕ → Bool → Target
function_target s w n is_local = result_target s w n is_local (heading_at n s).result

abbrev pub target_of : Scopes → Context → Named → Target
target_of s w (Variable t) = if is_assignable (place_of s t) then target.Assignable t else target.Fixed (Some t)
target_of s w (Parameter t) = target.Fixed (Some t)
target_of s w (Constant b) = target.Fixed (Some (values_of b))
target_of s w (Routine n) = function_target s w n true
target_of s w (Entry n) = function_target s w n false
target_of s w (Predeclared' p) = if is_function p then target.Fixed None else target.Kind
target_of s w Kind = target.Kind
target_of s w Nothing = target.Kind

abbrev pub check_target : ℕ → Target → Judged Target
check_target at target.Kind = broken at C5
check_target at t = Ok t

-- ---- assignments

abbrev pub check_assignment : ℕ → Target → Operand → Use → Judged Use
check_assignment at (target.Assignable t) o u = if agree t o.value_type then Ok u else broken at C5
check_assignment at (target.Fixed (Some t)) o u = if agree t o.value_type then broken at C6 else broken at C5
check_assignment at (target.Fixed None) o u = broken at C6
check_assignment at target.Kind o u = broken at C5

abbrev pub name_at : Designator → ℕ
name_at (name_with n ss) = n.at

abbrev pub with_target : Scopes → Context → ℕ → DesignatedName → Judged (Target × Use)
with_target s w at d = check_target at (target_of s w d.named) >>= (λ t. Ok (t, d.uses))

abbrev pub finish_assignment : ℕ → (Target × Use) × Operand → Judged Use
finish_assignment at p = check_assignment at p.0.0 p.1 (both_uses p.0.1 p.1.uses)

unfoldable pub assignment : Scopes → Context → ℕ → Designator → Expression → Judged Use
assignment s w at d e = both (designator s w d >>= with_target s w (name_at d)) (expression s w false e) >>= finish_assignment at

-- ---- calls

abbrev pub may_wait_in : Scopes → Predeclared → Option SystemKind → Option ℕ → Bool
may_wait_in s predeclared.Delay (Some Monitor) (Some n) = true
may_wait_in s _ (Some Monitor) (Some n) = (heading_at n s).is_entry && not (is_some (heading_at n s).result)
may_wait_in s _ _ _ = false

-- `delay` stands in a monitor's routine, `continue` in an entry procedure of one
abbrev pub may_wait : Scopes → Context → Predeclared → Bool
may_wait s w p = may_wait_in s p w.owner w.routine

abbrev pub queue_faults : ℕ → List Operand → List CheckFault
queue_faults at (o ∷ []) = if is_queue o then [] else fault at C5
queue_faults at _ = fault at C7

abbrev pub wait_faults : Scopes → Context → ℕ → Predeclared → List CheckFault
wait_faults s w at p = if may_wait s w p then [] else fault at C12

abbrev pub waiting_faults : Scopes → Context → ℕ → Predeclared → List Operand → List CheckFault
waiting_faults s w at p os = queue_faults at os ++ wait_faults s w at p

abbrev pub display_faults : ℕ → List Operand → List CheckFault
display_faults at (o ∷ []) = if is_ordinal o.value_type then [] else fault o.at C21
display_faults at _ = fault at C7

abbrev pub one_delay : Use
one_delay = record { calls = 0; need = 0; delays = true }

abbrev pub check_standard_call : Scopes → Context → ℕ → Predeclared → List Operand → Use → Judged Use
check_standard_call s w at predeclared.Display os u = unless (display_faults at os) u
check_standard_call s w at predeclared.Delay os u = unless (waiting_faults s w at predeclared.Delay os) (both_uses u one_delay)
check_standard_call s w at predeclared.Continue os u = unless (waiting_faults s w at predeclared.Continue os) u
check_standard_call s w at _ os u = broken at C5

abbrev pub procedure_of : Scopes → Context → ℕ → ℕ → Bool → ℕ → List Operand → Use → Option ValueType → Judged Use
procedure_of s w at name_at is_local n os u (Some t) = broken at C5
procedure_of s w at name_at is_local n os u None = check_routine_call s w at name_at is_local n os u

unfoldable pub check_procedure_call : Scopes → Context → ℕ → ℕ → Bool → ℕ → List Operand → Use → Judged Use
check_procedure_call s w at name_at is_local n os u = procedure_of s w at name_at is_local n os u (heading_at n s).result

abbrev pub check_call_of : Scopes → Context → ℕ → DesignatedName → List Operand → Named → Judged Use
check_call_of s w at d os (Predeclared' p) = check_standard_call s w at p os (total_use d.uses os)
check_call_of s w at d os (Routine n) = check_procedure_call s w at d.name_at true n os d.uses
check_call_of s w at d os (Entry n) = check_procedure_call s w at d.name_at false n os d.uses
check_call_of s w at d os _ = broken at C5

unfoldable pub check_call : Scopes → Context → ℕ → DesignatedName × List Operand → Judged Use
check_call s w at p = check_call_of s w at p.0 p.1 p.0.named

abbrev pub as_many : List parameter.Parameter → ℕ → Option ValueType → List parameter.Parameter
as_many ps k (Some t) = []
as_many ps k None = if nat_eq (length ps) k then ps else []

abbrev pub procedure_parameters : Scopes → ℕ → ℕ → List parameter.Parameter
procedure_parameters s n k = as_many (heading_at n s).parameters k (heading_at n s).result

-- the parameters of what is called, where as many arguments stand
abbrev pub parameters_of : Scopes → Named → ℕ → List parameter.Parameter
parameters_of s (Routine n) k = procedure_parameters s n k
parameters_of s (Entry n) k = procedure_parameters s n k
parameters_of s _ k = []

abbrev pub number_of : Expressions → ℕ
number_of no_expressions = 0
number_of (more_expressions e es) = 1 + number_of es

abbrev pub parameters_of_judged : Scopes → ℕ → Judged DesignatedName → List parameter.Parameter
parameters_of_judged s k (Ok d) = parameters_of s d.named k
parameters_of_judged s k (Err fs) = []

unfoldable pub call : Scopes → Context → ℕ → Designator → Expressions → Judged Use
call s w at d es = both (designator s w d) (arguments s w (parameters_of_judged s (number_of es) (designator s w d)) 0 es) >>= check_call s w at

-- ---- tests and bounds

abbrev pub check_test : ℕ → Operand → Use → Judged Use
check_test at o u = if is_of Boolean o.value_type then Ok u else broken at C5

abbrev pub counts : ValueType → Operand → Operand → Bool
counts t a b = is_ordinal t && agree t a.value_type && agree t b.value_type

abbrev pub check_for : ℕ → ℕ → Target → Operand → Operand → Use → Judged Use
check_for at n target.Kind a b u = broken at C5
check_for at n (target.Assignable t) a b u = if counts t a b then Ok u else broken at C5
check_for at n (target.Fixed (Some t)) a b u = if counts t a b then broken n C6 else broken at C5
check_for at n (target.Fixed None) a b u = if counts a.value_type a b then broken n C6 else broken at C5

abbrev pub test_then : ℕ → Operand × Use → Judged Use
test_then at p = check_test at p.0 (both_uses p.0.uses p.1)

abbrev pub test_last : ℕ → Use × Operand → Judged Use
test_last at p = check_test at p.1 (both_uses p.0 p.1.uses)

abbrev pub count_over : Scopes → Context → ℕ → ℕ → ((DesignatedName × Operand) × Operand) × Use → Judged Use
count_over s w at n p = check_for at n (target_of s w p.0.0.0.named) p.0.0.1 p.0.1 (both_uses (both_uses p.0.0.1.uses p.0.1.uses) p.1)

abbrev pub together : Use × Use → Judged Use
together p = Ok (both_uses p.0 p.1)

-- ---- annotations

-- what is said is a truth value: else C5 at its first token
unfoldable pub assertion : Scopes → Context → Expression → Judged Use
assertion s w e = expression s (quiet w) false e >>= λ o. check_test (expression_at e) o o.uses

unfoldable pub assertions : Scopes → Context → Judged Use → List Expression → Judged Use
assertions s w j [] = j
assertions s w j (e ∷ es) = assertions s w (both j (assertion s w e) >>= together) es

-- ---- starts

abbrev pub start_need : SystemKind → ℕ → ℕ
start_need Process need = 0
start_need k need = need

abbrev pub start_use : ℕ → Use
start_use need = record { calls = 0; need = need; delays = false }

abbrev pub check_start_of : Scopes → ℕ → DesignatedName → List Operand → Named → Judged Use
check_start_of s at d os (Variable (types.Component k n)) = unless (fit_faults at (heading_at n s).parameters os) (both_uses (total_use d.uses os) (start_use (start_need k (as_need (shape_in n s.shapes)))))
check_start_of s at d os _ = broken at C17

unfoldable pub check_start : Scopes → ℕ → DesignatedName × List Operand → Judged Use
check_start s at p = check_start_of s at p.0 p.1 p.0.named

unfoldable pub start : Scopes → Context → Start → Judged Use
start s w i = both (designator s w i.target) (arguments s w [] 0 i.arguments) >>= check_start s (name_at i.target)

unfoldable pub starts : Scopes → Context → Judged Use → List Start → Judged Use
starts s w j [] = j
starts s w j (i ∷ is) = starts s w (both j (start s w i) >>= together) is

abbrev pub initial_in : ℕ → Option ℕ → Use → Judged Use
initial_in at None u = Ok u
initial_in at (Some n) u = broken at C16

abbrev pub initial : ℕ → Context → Use → Judged Use
initial at w u = initial_in at w.routine u

-- ---- statements, and what they take

unfoldable mutual
  pub statement : Scopes → Context → Statement → Judged Use
  statement s w (empty at) = Ok no_use
  statement s w (assign at d e) = assignment s w at d e
  statement s w (invoke at d es) = call s w at d es
  statement s w (block at ss) = statements s w (Ok no_use) ss
  statement s w (cycle at ss) = statements s w (Ok no_use) ss
  statement s w (if_then at e t) = both (expression s w false e) (statement s w t) >>= test_then at
  statement s w (if_else at e t u) = both (expression s w false e) (both (statement s w t) (statement s w u) >>= together) >>= test_then at
  statement s w (while_do at e t) = both (expression s w false e) (statement s w t) >>= test_then at
  statement s w (repeat_until at ss e) = both (statements s w (Ok no_use) ss) (expression s w false e) >>= test_last at
  statement s w (for_do at i a d b t) = both (both (both (meaning_of_name s i) (expression s w false a)) (expression s w false b)) (statement s w t) >>= count_over s w at i.at
  statement s w (init at is) = starts s w (Ok no_use) is >>= initial at w
  statement s w (case_of at e as' b) = both (expression s w false e) (arms s w (Ok ([], no_use)) as') >>= check_case at
  statement s w (asserted at k e t) = both (assertion s w e) (statement s w t) >>= together

  -- the labels of the arms, and what the arms take
  pub arms : Scopes → Context → Judged (List Label × Use) → Arms → Judged (List Label × Use)
  arms s w j no_arms = j
  arms s w j (more_arms a as') = arms s w (both j (labelled s w a) >>= join_arms) as'

  pub labelled : Scopes → Context → Arm → Judged (List Label × Use)
  labelled s w (arm cs t) = both (labels s cs) (statement s w t)

  pub statements : Scopes → Context → Judged Use → Statements → Judged Use
  statements s w j no_statements = j
  statements s w j (more_statements t ts) = statements s w (both j (statement s w t) >>= together) ts
