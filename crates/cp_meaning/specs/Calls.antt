-- Calls and starts: what is bound, and what is done then (the book, chapter 8; the order of errors is this profile's).
use Rattle.std.specs.Prelude.{ℕ, ◌==◌, Bool, true, false, if◌then◌else◌, List, [], ◌∷◌, ◌++◌, length, Option, Some, None, Ok, Err, pos, slice_set}
use Rattle.cp_tree.specs.declared.declaration.SystemKind.{SystemKind}
use Rattle.cp_tree.specs.declared.declaration.SystemKind.TheVariants as system_kind
use Rattle.cp_tree.specs.Syntax.{Expression, Expressions, more_expressions, Designator, Start}
use Rattle.cp_meaning.specs.Names.{Name, result_name}
use Rattle.cp_meaning.specs.Outcome.{Outcome, ◌>>=◌, not_init, init_twice}
use Rattle.cp_meaning.specs.Types.{Ty, component_of, has_components}
use Rattle.cp_meaning.specs.Values.{number_value, least}
use Rattle.cp_meaning.specs.Scopes.{Meaning, routine_meaning, Scope}
use Rattle.cp_meaning.specs.Declarations.{Variable, Parameter, RoutineMeaning}
use Rattle.cp_meaning.specs.Systems.{SystemMeaning, system_of}
use Rattle.cp_meaning.specs.State.{Content, holds, refers, knows, Environment, ComponentStatus, uninitialised, initialising, initialised, Component, component_at, CallKind, initial_statement, local_routine, entry_routine, Call, current, Item, return, init_end}
use Rattle.cp_meaning.specs.Places.{View, Target, component_there, this_component}
use Rattle.cp_meaning.specs.Operations.{checked}
use Rattle.cp_meaning.specs.Expressions.{value, target_value, variable_in, routine_called, meaning_here}
use Rattle.cp_meaning.specs.Lifting.{check_items, items_of_all}
use Rattle.cp_meaning.specs.Move.{Doing, Move, stays, enters, starts}

-- ---- arguments, from left to right

-- a `var` parameter has the place that was found
abbrev pub refers_to : Outcome Target → Outcome Content
refers_to target = target >>= λ t. Ok (refers t.place)

-- A component as an argument of a parameter of system type k. The test is a guard: what is of another type counts as no component. An accepted
-- program always passes it, since its argument has the parameter's type (C5), and a name of type k stands for a component of type k.
abbrev pub of_system : View → ℕ → ℕ → ℕ
of_system v k n = if (component_at v.components n).system == k then n else length v.components

-- a component parameter has the component that stands at the place
abbrev pub knows_of : View → ℕ → Outcome Target → Outcome Content
knows_of v k target = target >>= λ t. Ok (knows (of_system v k (component_there v t.place)))

-- what a name alone is bound as; another argument, which no accepted program gives there, as 0
abbrev pub bound_variable : View → (Outcome Target → Outcome Content) → Option Designator → Outcome Content
bound_variable v bind (Some d) = bind (target_value v d)
bound_variable v bind None = Ok (holds (number_value (pos 0)))

-- a copied value is checked against the range of the parameter
abbrev pub bound_value : View → Ty → Expression → Outcome Content
bound_value v (component_of k) e = bound_variable v (knows_of v k) (variable_in e)
bound_value v t e = value v e >>= λ x. checked t x.value >>= λ w. Ok (holds w)

-- a `var` parameter is bound to a place, a component to a component, and another one to a value in its range
abbrev pub bound_argument : View → Parameter → Expression → Outcome Content
bound_argument v q e = if q.is_var then bound_variable v refers_to (variable_in e) else bound_value v q.ty e

-- the parameters with their arguments, the first error from left to right
abbrev pub bound : View → List Parameter → Expressions → Outcome Environment
bound v (q ∷ qs) (more_expressions e es) = bound_argument v q e >>= λ c. bound v qs es >>= λ rest. Ok ((q.name, c) ∷ rest)
bound v qs es = Ok []

-- component variables have no value
abbrev pub least_of : List Variable → Environment
least_of [] = []
least_of (x ∷ xs) = if has_components x.ty then least_of xs else (x.name, holds (least x.ty)) ∷ least_of xs

-- a function's result before anything was assigned to it
abbrev pub least_result : Option Ty → Environment
least_result None = []
least_result (Some t) = (result_name, holds (least t)) ∷ []

-- ---- a call; a function's result will go to the name o

-- the invariants are looked at as an entry ends
abbrev pub last_checks : Bool → Scope → List Item
last_checks true s = check_items 0 s
last_checks false s = []

-- opened in the component d
abbrev pub opened : View → ℕ → CallKind → RoutineMeaning → Option Name → List Item → Environment → Doing
opened v d kind r o items e =
    record {
      calls = (let c : Call = record { component = d; kind = kind; scope = r.scope; environment = e ++ least_of r.variables ++ least_result r.result } in c) ∷ v.calls;
      items = items_of_all r.scope r.body ++ last_checks r.checks r.scope ++ return o ∷ items;
      components = v.components;
      move = stays;
    }

abbrev pub is_initialised : ComponentStatus → Bool
is_initialised initialised = true
is_initialised s = false

abbrev pub is_uninitialised : ComponentStatus → Bool
is_uninitialised uninitialised = true
is_uninitialised s = false

abbrev pub with_move : Doing → Move → Doing
with_move d m = record { calls = d.calls; items = d.items; components = d.components; move = m }

-- these items remain, and nothing else changes
abbrev pub with_items : View → List Item → Doing
with_items v items = record { calls = v.calls; items = items; components = v.components; move = stays }

-- what no accepted program does: the item goes, and nothing else changes
abbrev pub passed_over : View → List Item → Doing
passed_over = with_items

-- the event of an entry call of a monitor is the kernel's; a process has no entries
abbrev pub entered_as : SystemKind → View → ℕ → RoutineMeaning → Option Name → List Item → Environment → Doing
entered_as system_kind.Monitor v d r o items e = with_move (opened v d entry_routine r o items e) (enters d)
entered_as system_kind.Class v d r o items e = opened v d entry_routine r o items e
entered_as system_kind.Process v d r o items e = passed_over v items

-- the arguments first, and then whether the component is initialised
abbrev pub entered : View → ℕ → RoutineMeaning → Option Name → Expressions → List Item → Outcome Doing
entered v d r o es items =
    bound v r.parameters es >>= λ e.
    if is_initialised (component_at v.components d).status
    then Ok (entered_as (component_at v.components d).kind v d r o items e)
    else Err not_init

-- the arguments of a routine of the own component are bound at once; else the place of the component comes first
abbrev pub called_as : View → Option Meaning → Designator → Option RoutineMeaning → Option Name → Expressions → List Item → Outcome Doing
called_as v m d None o es items = Ok (passed_over v items)
called_as v (Some (routine_meaning q)) d (Some r) o es items = bound v r.parameters es >>= λ e. Ok (opened v (this_component v) local_routine r o items e)
called_as v m d (Some r) o es items = target_value v d >>= λ t. entered v (component_there v t.place) r o es items

-- a call of a routine of the component itself, or of an entry of another component, whose place comes first
abbrev pub called : View → Designator → Expressions → Option Name → List Item → Outcome Doing
called v d es o items = called_as v (meaning_here v d) d (routine_called v.program (current v.calls).scope d) o es items

-- ---- the start of a component

-- the component with this status and environment
abbrev pub with_status : List Component → ℕ → ComponentStatus → Environment → List Component
with_status cs n s e =
    let c = component_at cs n in
    slice_set cs n (record { path = c.path; system = c.system; kind = c.kind; status = s; environment = e; line = c.line })

-- the initial statement of a class or monitor, in the process that initialises it
abbrev pub initial : View → ℕ → SystemMeaning → List Item → Environment → Doing
initial v d s items e =
    record {
      calls = (let c : Call = record { component = d; kind = initial_statement; scope = s.scope; environment = [] } in c) ∷ v.calls;
      items = items_of_all s.scope s.body ++ check_items 0 s.scope ++ init_end d ∷ items;
      components = with_status v.components d initialising (e ++ (component_at v.components d).environment);
      move = stays;
    }

-- `init` of a component that is not uninitialised is the run error init-twice, looked at last
abbrev pub initialised_in : View → ℕ → SystemMeaning → List Item → Environment → Outcome Doing
initialised_in v d s items e =
    if is_uninitialised (component_at v.components d).status
    then Ok (initial v d s items e)
    else Err init_twice

-- by the kind of the component; that a process is not started twice is looked at by the kernel
abbrev pub started_as : SystemKind → View → ℕ → SystemMeaning → List Item → Environment → Outcome Doing
started_as system_kind.Class v d s items e = initialised_in v d s items e
started_as system_kind.Monitor v d s items e = initialised_in v d s items e
started_as system_kind.Process v d s items e = Ok (with_move (with_items v items) (starts d e))

-- the arguments are bound first
abbrev pub started_at : View → ℕ → SystemMeaning → Expressions → List Item → Outcome Doing
started_at v d s es items = bound v s.parameters es >>= λ e. started_as (component_at v.components d).kind v d s items e

-- the place of the component comes first
abbrev pub started : View → Start → List Item → Outcome Doing
started v t items =
    target_value v t.target >>= λ u.
    let d = component_there v u.place in
    started_at v d (system_of v.program (component_at v.components d).system) t.arguments items
