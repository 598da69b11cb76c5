-- A step by a rule: none of the branches is taken by which calls, starts, `delay` and `continue` have a meaning that no accepted program needs.
use Rattle.std.specs.Prelude.{◌≡◌, ℕ, ◌<◌, true, List, [], ◌∷◌, length, Option, Some, Ok}
use Rattle.cp_tree.specs.declared.declaration.SystemKind.TheVariants as system_kind
use Rattle.cp_tree.specs.Syntax.{Expression, Expressions, no_expressions, more_expressions, Designator, Statement, invoke, init, Program}
use Rattle.cp_meaning.specs.Declarations.{Parameter, RoutineMeaning}
use Rattle.cp_meaning.specs.Expressions.{meaning_here, routine_called, target_value, variable_in}
use Rattle.cp_meaning.specs.Kernel.{process_of, waits_inside}
use Rattle.cp_meaning.specs.Places.{View, Target, component_there, this_component, value_at}
use Rattle.cp_meaning.specs.Scopes.{Meaning, routine_meaning, standard_meaning, delay_procedure, continue_procedure, display_procedure}
use Rattle.cp_meaning.specs.State.{component_at, process_at, entry_routine, current, Item, statement_item, function_call, start_item, State}
use Rattle.cp_meaning.specs.Steps.{view_of}
use Rattle.cp_meaning.specs.Systems.{system_of}
use Rattle.cp_meaning.specs.Types.{component_of}
use Rattle.cp_meaning.specs.Values.{waiting_in}

-- ---- arguments

-- a name alone, also in parentheses
abbrev pub IsName : Expression → Type 0
IsName e = (d : Designator) × (variable_in e ≡ Some d)

-- where a name leads to a place, this holds of it
abbrev pub Leads : View → Designator → (Target → Type 0) → Type 0
Leads v d P = (t : Target) → target_value v d ≡ Ok t → P t

-- a name for a `var` parameter; for one that is a component a name of a component of its type
pub record IsArgument (v : View) (q : Parameter) (e : Expression) : Type 0 where
  pub variable : q.is_var ≡ true → IsName e
  pub component : (k : ℕ) → q.ty ≡ component_of k → (d : Designator) × (variable_in e ≡ Some d) × Leads v d (λ t. (component_at v.components (component_there v t.place)).system ≡ k)

-- one for each parameter
abbrev pub AreArguments : View → List Parameter → Expressions → Type 0
AreArguments v [] no_expressions = Unit {0}
AreArguments v (q ∷ qs) (more_expressions e es) = IsArgument v q e × AreArguments v qs es
AreArguments v qs es = ⊥

-- ---- calls

-- a component, and no process, whose entry is called
abbrev pub HasEntries : View → ℕ → Type 0
HasEntries v n = (n < length v.components) × ((component_at v.components n).kind ≡ system_kind.Process → ⊥)

-- a routine of the component itself, or an entry of a component
abbrev pub IsCallable : View → Option Meaning → Designator → Type 0
IsCallable v (Some (routine_meaning r)) d = Unit {0}
IsCallable v m d = Leads v d (λ t. HasEntries v (component_there v t.place))

pub record IsCall (v : View) (d : Designator) (es : Expressions) : Type 0 where
  pub routine : RoutineMeaning
  pub called : routine_called v.program (current v.calls).scope d ≡ Some routine
  pub arguments : AreArguments v routine.parameters es
  pub callable : IsCallable v (meaning_here v d) d

-- ---- the standard procedures

abbrev pub IsQueueNamed : Expressions → (Designator → Type 0) → Type 0
IsQueueNamed no_expressions P = ⊥
IsQueueNamed (more_expressions e es) P = (d : Designator) × (variable_in e ≡ Some d) × P d

-- who waits in the queue is delayed in the monitor that is executed, in an entry of it
abbrev pub WaitsThere : State → View → Designator → Type 0
WaitsThere s v d = Leads v d (λ t. (r : ℕ) → waiting_in (value_at v t.place) ≡ Some r → waits_inside s (this_component v) r ≡ true)

abbrev pub IsOne : Expressions → Type 0
IsOne no_expressions = ⊥
IsOne (more_expressions e es) = Unit {0}

abbrev pub IsInvoked : State → View → Option Meaning → Designator → Expressions → Type 0
IsInvoked s v (Some (standard_meaning delay_procedure)) d es = IsQueueNamed es (λ x. Unit {0})
IsInvoked s v (Some (standard_meaning continue_procedure)) d es = ((current v.calls).kind ≡ entry_routine) × IsQueueNamed es (WaitsThere s v)
IsInvoked s v (Some (standard_meaning display_procedure)) d es = IsOne es
IsInvoked s v m d es = IsCall v d es

-- ---- starts

-- a component; where it is a process, one of the program
pub record IsStartable (s : State) (v : View) (es : Expressions) (n : ℕ) : Type 0 where
  pub there : n < length v.components
  pub arguments : AreArguments v (system_of v.program (component_at v.components n).system).parameters es
  pub process : (component_at v.components n).kind ≡ system_kind.Process → (r : ℕ) × (process_of n s.processes ≡ Some r)

-- ---- steps

abbrev pub StatementFollows : State → View → Statement → Type 0
StatementFollows s v (invoke at d es) = IsInvoked s v (meaning_here v d) d es
StatementFollows s v (init at ts) = ⊥
StatementFollows s v t = Unit {0}

-- a ready process has an item
abbrev pub ItemsFollow : State → View → List Item → Type 0
ItemsFollow s v [] = ⊥
ItemsFollow s v (statement_item t ∷ items) = StatementFollows s v t
ItemsFollow s v (function_call at d es ∷ items) = IsCall v d es
ItemsFollow s v (start_item t ∷ items) = Leads v t.target (λ u. IsStartable s v t.arguments (component_there v u.place))
ItemsFollow s v (i ∷ items) = Unit {0}

-- the next step of a process is by a rule
abbrev pub StepFollows : Program → State → ℕ → Type 0
StepFollows p s pid = ItemsFollow s (view_of p s pid) (process_at s.processes pid).items
