-- What the laws say: a story of the slot machine tells what happens on a program's own names.
use Rattle.std.specs.Prelude.{◌≡◌, ℕ, ◌<◌, Bool, false, List, [], length, map, option_map, Option, Some, None, slice_get}
use Rattle.cp_tree.specs.Read.{IsRead}
use Rattle.cp_tree.specs.Syntax.{Program, Tree}
use Rattle.cp_symbols.specs.declared.symbols.Symbols.{Symbols}
use Rattle.cp_layout.specs.Laid.{plain, laid, whole}
use Rattle.cp_layout.specs.Symbols.{AreSymbolsOf}
use Rattle.cp_slots.specs.Tables.{Tables}
use Rattle.cp_meaning_laws.specs.Accepted.{IsAccepted}
use Rattle.cp_legend.specs.declared.legend.Legend as code_legend
use Rattle.cp_legend.specs.Names.{Legend, Named, IsLegendOf, legend_seen, monitor_in, name_of_routine, path_in, source_seen}
use Rattle.cp_legend.specs.Places.{owner, variables_at}
use Rattle.cp_legend.specs.Values.{Value}
use Rattle.cp_machine.specs.declared.event.Kernel.TheVariants.{Enter, Leave, Delay, Continue, StartProcess, Display}
use Rattle.cp_machine.specs.declared.discipline.Discipline.{Discipline}
use Rattle.cp_machine.specs.declared.process.Status.{Status}
use Rattle.cp_machine.specs.declared.process.Status.TheVariants as status
use Rattle.cp_machine.specs.declared.shown.Shown.{Shown}
use Rattle.cp_machine.specs.Machine.{thread_at}
use Rattle.cp_run.specs.declared.line.TraceEvent.{TraceEvent}
use Rattle.cp_run.specs.declared.line.TraceEvent.TheVariants.{Kernel, End, Admit}
use Rattle.cp_meaning.specs.Names.{Name}
use Rattle.cp_meaning.specs.State as meaning
use Rattle.cp_meaning.specs.Steps.{opening}
use Rattle.cp_machine_laws.specs.Named.{monitor_number, named, named_discipline, named_signals}
use Rattle.cp_resolved.specs.TreeLayouts.{layouts_of}
use Rattle.cp_run.specs.Slots.{slots}
use Rattle.cp_run.specs.Stop.{last_state}
use Rattle.cp_story.specs.Halted.{how_halted}
use Rattle.cp_story.specs.Story.{Happened, Enters, Leaves, Delays, Continues, Starts, Displays, Ends, IsAdmitted, NamedQueue, Told, story_of, telling}
use Rattle.cp_story.specs.Waiting.{Waiting, who_waits}
use Rattle.cp_story.specs.declared.event.OpenCall.{OpenCall}
use Rattle.cp_story_laws.specs.Events.{EntryCall, NamedEvent, events_on_names, names_telling, stack_of}
use Rattle.cp_story_laws.specs.MonitorNumbers.{monitor_of}
use Rattle.cp_story_laws.specs.OpenCalls.{Entered, monitors_entered}
use Rattle.cp_story_laws.specs.Queues.{WaitsIn}
use Rattle.cp_story_laws.specs.Standings.{Standing, not_begun, may_go_on, at_gate_of, in_queue_of, has_ended, path_of}
use Rattle.cp_story_laws.specs.Stops.{stop_on_names}
use Rattle.cp_story_laws.specs.Variables.{HaveValues}
use Rattle.cp_story_laws.specs.Waits.{NamedWait, who_waits_on_names}

-- ---- what a story says of an event

abbrev pub event_told : Happened → TraceEvent
event_told (Enters call arguments waits) = Kernel Enter
event_told (Leaves call) = Kernel Leave
event_told (Delays queue call) = Kernel Delay
event_told (Continues queue call by) = Kernel Continue
event_told (Starts process) = Kernel StartProcess
event_told (Displays value) = Kernel Display
event_told Ends = End
event_told (IsAdmitted call) = Admit

-- a routine by the name that the legend has
abbrev pub call_told : Legend → OpenCall → EntryCall
call_told l c = record { monitor = c.monitor; routine = name_of_routine (slice_get l.routines c.routine); line = c.line }

abbrev pub call_in : Legend → Happened → Option EntryCall
call_in l (Enters call arguments waits) = Some (call_told l call)
call_in l (Leaves call) = Some (call_told l call)
call_in l (Delays queue call) = Some (call_told l call)
call_in l (Continues queue call by) = Some (call_told l call)
call_in l (IsAdmitted call) = Some (call_told l call)
call_in l _ = None

abbrev pub waits_told : Happened → Bool
waits_told (Enters call arguments waits) = waits
waits_told _ = false

abbrev pub displayed_told : Happened → Option Shown
displayed_told (Displays value) = Some value
displayed_told _ = None

abbrev pub queue_in : Happened → Option NamedQueue
queue_in (Delays queue call) = Some queue
queue_in (Continues queue call by) = Some queue
queue_in _ = None

abbrev pub signals_in : Happened → Option meaning.Signals
signals_in (Continues queue call by) = Some (named_signals by)
signals_in _ = None

abbrev pub arguments_in : Happened → List Value
arguments_in (Enters call arguments waits) = arguments
arguments_in _ = []

abbrev pub begins_told : Happened → Option ℕ
begins_told (Starts process) = Some process
begins_told _ = None

-- how a process stands, by the names that the legend has
abbrev pub standing_told : Legend → Status → Standing
standing_told l status.Unstarted = not_begun
standing_told l status.Ready = may_go_on
standing_told l (status.AtGate n) = at_gate_of (path_in (monitor_in l.components n))
standing_told l (status.Delayed cell) = in_queue_of (path_in (owner l.components cell))
standing_told l status.Ended = has_ended

abbrev pub event_on_names : Legend → Told → NamedEvent
event_on_names l e =
    record {
      process = e.process;
      event = event_told e.happened;
      call = call_in l e.happened;
      waits = waits_told e.happened;
      displayed = displayed_told e.happened;
      queue = queue_in e.happened;
      signals = signals_in e.happened;
      arguments = arguments_in e.happened;
      returned = e.returned;
      begins = begins_told e.happened;
      line = e.line;
      choice = e.choice;
      woken = e.woken;
      let_in = e.let_in;
      standings = map (standing_told l) e.statuses;
      holders = e.holders;
      changes = e.changes;
    }

-- The events of a story, and the last choice, are those of the program on its own names.
pub record TellsEvents (t : Tree) (r : Tables) (l : Legend) (g : Discipline) (choices steps : ℕ) (word : List ℕ) : Type 0 where
  pub events : map (event_on_names l) (story_of l r g choices steps word) ≡ events_on_names t (named_discipline g) choices steps word
  pub last_choice : (telling l r g choices steps word).past.choice ≡ (names_telling t (named_discipline g) choices steps word).past.choice

-- of each tree that was read and is accepted, the tables that are laid of it, and the legend beside them
abbrev pub EventsLaw : Type 0
EventsLaw =
    (t : Tree) (y : Symbols) (r : Tables) (l : code_legend.Legend) (g : Discipline) → IsRead t.program → IsAccepted t → AreSymbolsOf y (whole t) → plain r ≡ laid t → IsLegendOf l (source_seen y) r.components →
    (choices steps : ℕ) (word : List ℕ) → TellsEvents t r (legend_seen l) g choices steps word

-- ---- who waits where a run stops

abbrev pub wait_on_names : Legend → Waiting → NamedWait
wait_on_names l w = record { process = w.process; standing = standing_told l w.status; call = option_map (call_told l) w.call; inside = w.inside }

-- who waits, where, in which call and inside which monitors, is so on the program's own names
abbrev pub TellsWaits : Tree → Tables → Legend → Discipline → (choices steps : ℕ) → List ℕ → Type 0
TellsWaits t r l g choices steps word = map (wait_on_names l) (who_waits l r g choices steps word) ≡ who_waits_on_names t (named_discipline g) choices steps word

abbrev pub WaitsLaw : Type 0
WaitsLaw =
    (t : Tree) (y : Symbols) (r : Tables) (l : code_legend.Legend) (g : Discipline) → IsRead t.program → IsAccepted t → AreSymbolsOf y (whole t) → plain r ≡ laid t → IsLegendOf l (source_seen y) r.components →
    (choices steps : ℕ) (word : List ℕ) → TellsWaits t r (legend_seen l) g choices steps word

-- ---- how a run stops

-- Where no event tells of it, the run of a word stops as it does on the program's own names.
abbrev pub TellsStop : Tree → Tables → Legend → Discipline → (choices steps : ℕ) → List ℕ → Type 0
TellsStop t r l g choices steps word = how_halted l r g choices steps word ≡ stop_on_names t (named_discipline g) choices steps word

abbrev pub StopLaw : Type 0
StopLaw =
    (t : Tree) (y : Symbols) (r : Tables) (l : code_legend.Legend) (g : Discipline) → IsRead t.program → IsAccepted t → AreSymbolsOf y (whole t) → plain r ≡ laid t → IsLegendOf l (source_seen y) r.components →
    (choices steps : ℕ) (word : List ℕ) → TellsStop t r (legend_seen l) g choices steps word

-- ---- open calls

-- the number of the monitor, and the routine
abbrev pub numbered_call : EntryCall → ℕ × Name
numbered_call c = (c.monitor, c.routine)

abbrev pub numbered_entry : Program → meaning.Discipline → Entered → ℕ × Name
numbered_entry p g e = (monitor_of p g e.component, e.routine)

-- What is remembered of open calls is true: of each process, they are the entry calls of monitors that are open where the run stops, the innermost last, each with its routine.
abbrev pub OpenCallsAre : Tree → meaning.Discipline → (choices steps : ℕ) → List ℕ → Type 0
OpenCallsAre t g choices steps word =
    (q : ℕ) → q < (named t g).processes →
    map numbered_call (stack_of (names_telling t g choices steps word).past.calls q) ≡ map (numbered_entry t.program g) (monitors_entered (last_state (named t g) choices steps word) q)

abbrev pub OpenCallsLaw : Type 0
OpenCallsLaw = (t : Tree) (r : Tables) (g : Discipline) → IsRead t.program → IsAccepted t → plain r ≡ laid t → (choices steps : ℕ) (word : List ℕ) → OpenCallsAre t (named_discipline g) choices steps word

-- ---- the numbers of monitors

-- the number of a monitor in an event is that of the component which the legend calls as the language does
abbrev pub MonitorsAre : Tree → Legend → meaning.Discipline → Type 0
MonitorsAre t l g = (n : ℕ) → n < (named t g).monitors → path_in (monitor_in l.components n) ≡ path_of t.program (opening t.program g) (monitor_number t.program g n)

abbrev pub MonitorsLaw : Type 0
MonitorsLaw =
    (t : Tree) (y : Symbols) (r : Tables) (l : code_legend.Legend) (g : Discipline) → IsRead t.program → IsAccepted t → AreSymbolsOf y (whole t) → plain r ≡ laid t → IsLegendOf l (source_seen y) r.components →
    MonitorsAre t (legend_seen l) (named_discipline g)

-- ---- the values of variables

-- Where a run stops, each permanent variable of each component has, in the cells where a story reads it, the value that it has by the meaning.
abbrev pub ValuesAre : Tree → Tables → Legend → Discipline → (choices steps : ℕ) → List ℕ → Type 0
ValuesAre t r l g choices steps word =
    (n : ℕ) (c : Named) → slice_get l.components n ≡ Some c →
    HaveValues (last_state (named t (named_discipline g)) choices steps word) (last_state (slots r g) choices steps word) n c ((layouts_of t).systems c.system).variables (variables_at l.permanents c.system)

abbrev pub ValuesLaw : Type 0
ValuesLaw =
    (t : Tree) (y : Symbols) (r : Tables) (l : code_legend.Legend) (g : Discipline) → IsRead t.program → IsAccepted t → AreSymbolsOf y (whole t) → plain r ≡ laid t → IsLegendOf l (source_seen y) r.components →
    (choices steps : ℕ) (word : List ℕ) → ValuesAre t r (legend_seen l) g choices steps word

-- ---- queues

-- Where a run stops, each process that is delayed waits by the meaning in the queue that the story names.
abbrev pub QueuesAre : Tree → Tables → Legend → Discipline → (choices steps : ℕ) → List ℕ → Type 0
QueuesAre t r l g choices steps word =
    (q n cell : ℕ) → q < length (last_state (named t (named_discipline g)) choices steps word).processes →
    (meaning.process_at (last_state (named t (named_discipline g)) choices steps word).processes q).status ≡ meaning.delayed n → (thread_at (last_state (slots r g) choices steps word).threads q).status ≡ status.Delayed cell →
    WaitsIn t l (last_state (named t (named_discipline g)) choices steps word) q n cell

abbrev pub QueuesLaw : Type 0
QueuesLaw =
    (t : Tree) (y : Symbols) (r : Tables) (l : code_legend.Legend) (g : Discipline) → IsRead t.program → IsAccepted t → AreSymbolsOf y (whole t) → plain r ≡ laid t → IsLegendOf l (source_seen y) r.components →
    (choices steps : ℕ) (word : List ℕ) → QueuesAre t r (legend_seen l) g choices steps word
