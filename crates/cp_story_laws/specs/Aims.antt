-- What a process is about to do: which queue it comes to, and whether its call of a monitor ends.
use Rattle.std.specs.Prelude.{◌&&◌, ℕ, Bool, true, false, List, [], ◌∷◌, Option, Some, None, Ok, Err}
use Rattle.cp_tree.specs.Syntax.{Designator, invoke, Tree}
use Rattle.cp_meaning.specs.Expressions.{meaning_here, target_value}
use Rattle.cp_meaning.specs.LocalRules.{argument_of}
use Rattle.cp_meaning.specs.Outcome.{Outcome}
use Rattle.cp_meaning.specs.Places.{Target, View}
use Rattle.cp_meaning.specs.Scopes.{Meaning, standard_meaning, delay_procedure, continue_procedure}
use Rattle.cp_meaning.specs.State.{Discipline, Signals, return_signals, continue_signals, wait_signals, Holder, in_call, in_component, Item, statement_item, return, Place, State, component_at, current, is_entry_kind, process_at}
use Rattle.cp_meaning.specs.Steps.{view_of}
use Rattle.cp_story.specs.Story.{NamedQueue}
use Rattle.cp_story_laws.specs.MonitorNumbers.{monitor_of}
use Rattle.cp_story_laws.specs.OpenCalls.{is_monitor}
use Rattle.cp_story_laws.specs.Places.{place_text}

-- ---- queues

abbrev pub place_found : Outcome Target → Option Place
place_found (Ok t) = Some t.place
place_found (Err e) = None

abbrev pub designated : View → Option Designator → Option Place
designated v None = None
designated v (Some d) = place_found (target_value v d)

-- the argument of `delay` and of `continue`
abbrev pub queue_meant : View → Option Meaning → Option Designator → Option Place
queue_meant v (Some (standard_meaning delay_procedure)) argument = designated v argument
queue_meant v (Some (standard_meaning continue_procedure)) argument = designated v argument
queue_meant v m argument = None

abbrev pub queue_of_item : View → Item → Option Place
queue_of_item v (statement_item (invoke at d es)) = queue_meant v (meaning_here v d) (argument_of es)
queue_of_item v i = None

abbrev pub first_queue : View → List Item → Option Place
first_queue v [] = None
first_queue v (i ∷ items) = queue_of_item v i

-- the component that has a place
abbrev pub component_of : Holder → ℕ
component_of (in_component n) = n
component_of (in_call below) = 0

abbrev pub no_queue : NamedQueue
no_queue = record { monitor = 0; name = [] }

-- a queue by the number of its monitor and its name there
abbrev pub queue_named : Tree → Discipline → View → Option Place → NamedQueue
queue_named t g v None = no_queue
queue_named t g v (Some q) = record { monitor = monitor_of t.program g (component_of q.holder); name = place_text v q }

-- that in which process p is about to be delayed, or which it continues
abbrev pub queue_place : Tree → State → ℕ → Option Place
queue_place t s p = first_queue (view_of t.program s p) (process_at s.processes p).items

abbrev pub queue_aimed : Tree → Discipline → State → ℕ → NamedQueue
queue_aimed t g s p = queue_named t g (view_of t.program s p) (queue_place t s p)

-- ---- the end of a call

abbrev pub is_continue : Option Meaning → Bool
is_continue (Some (standard_meaning continue_procedure)) = true
is_continue m = false

abbrev pub lets_caller_return : Signals → Bool
lets_caller_return return_signals = true
lets_caller_return continue_signals = false
lets_caller_return wait_signals = false

-- a call of a monitor's entry ends by its return, or by a `continue` that returns
abbrev pub ends_call : Signals → View → Item → Bool
ends_call by v (statement_item (invoke at d es)) = is_continue (meaning_here v d) && lets_caller_return by
ends_call by v (return o) = is_entry_kind (current v.calls).kind && is_monitor (component_at v.components (current v.calls).component).kind
ends_call by v i = false

abbrev pub ends_first : Signals → View → List Item → Bool
ends_first by v [] = false
ends_first by v (i ∷ items) = ends_call by v i

-- with the step that process p is about to make
abbrev pub ends_now : Tree → State → ℕ → Bool
ends_now t s p = let v = view_of t.program s p in ends_first s.discipline.signals v (process_at s.processes p).items
