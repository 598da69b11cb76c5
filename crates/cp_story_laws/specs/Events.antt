-- What is told of a run of a program on its own names: each kernel call, process end and admission, with its process, the entry call and the line, what it displays, the choice
-- before it, who goes on by it, how the processes stand then, and who is inside each monitor.
use Rattle.std.specs.Option.{option_or}
use Rattle.std.specs.Prelude.{ℕ, ◌-◌, ◌==◌, Bool, false, if◌then◌else◌, List, [], ◌∷◌, ◌++◌, length, replicate, take, Option, Some, None, pos, slice_get, slice_index_or, slice_set, unwrap_or}
use Rattle.cp_tree.specs.Syntax.{Program, Tree}
use Rattle.cp_machine.specs.declared.event.Event.{Event}
use Rattle.cp_machine.specs.declared.event.Event.TheVariants as step
use Rattle.cp_machine.specs.declared.event.Kernel.TheVariants.{Enter, Leave, Delay, Continue, StartProcess, Display}
use Rattle.cp_machine.specs.declared.shown.Shown.{Shown}
use Rattle.cp_machine.specs.declared.shown.Shown.TheVariants.{Integer}
use Rattle.cp_run.specs.declared.line.TraceEvent.{TraceEvent}
use Rattle.cp_run.specs.declared.line.TraceEvent.TheVariants.{Kernel, End, Admit}
use Rattle.cp_run.specs.Run.{may, those_below}
use Rattle.cp_run.specs.Trace.{holders_in}
use Rattle.cp_meaning.specs.Names.{Name}
use Rattle.cp_meaning.specs.Places.{View}
use Rattle.cp_meaning.specs.State.{Call, Component, current, process_at, Discipline, Signals, return_signals, Place, State}
use Rattle.cp_meaning.specs.Steps.{opening, view_of}
use Rattle.cp_legend.specs.Values.{Value}
use Rattle.cp_machine_laws.specs.Named.{named, is_some}
use Rattle.cp_resolved.specs.Openings.{openings_of}
use Rattle.cp_run.specs.Fold.{Fold, fold_run}
use Rattle.cp_story.specs.Changes.{Changed}
use Rattle.cp_story.specs.Passed.{Given}
use Rattle.cp_story.specs.Story.{Decision, NamedQueue}
use Rattle.cp_story_laws.specs.Aims.{ends_now, no_queue, queue_aimed, queue_place}
use Rattle.cp_story_laws.specs.Changes.{changes_told}
use Rattle.cp_story_laws.specs.Lines.{next_line}
use Rattle.cp_story_laws.specs.MonitorNumbers.{monitor_of}
use Rattle.cp_story_laws.specs.Passed.{arguments_told, given_back}
use Rattle.cp_story_laws.specs.Routines.{name_of, routine_of}
use Rattle.cp_story_laws.specs.Standings.{Standing, standings, standing_at, is_gated, released, resumed, started}

-- an entry call: the number of its monitor, the routine that is called, and the line on which the call stands
pub record EntryCall : Type 0 where
  pub monitor : ℕ
  pub routine : Name
  pub line : ℕ

pub record NamedEvent : Type 0 where
  pub process : ℕ
  pub event : TraceEvent
  -- the entry call that begins or ends, or in which the process delays, continues or is admitted
  pub call : Option EntryCall
  -- whether a call that begins waits at the gate
  pub waits : Bool
  pub displayed : Option Shown
  -- the queue in which the process is delayed, or which it continues, and who goes on after a `continue`
  pub queue : Option NamedQueue
  pub signals : Option Signals
  -- what a call that begins is given, and what one gives back that ends
  pub arguments : List Value
  pub returned : List Given
  -- the process that begins
  pub begins : Option ℕ
  pub line : Option ℕ
  -- the choice that was taken since the event before
  pub choice : Option Decision
  -- who leaves the queue in which it was delayed, and who goes in that was at a gate
  pub woken : List ℕ
  pub let_in : List ℕ
  -- how each process stands, and the process inside each monitor
  pub standings : List Standing
  pub holders : List (Option ℕ)
  -- the variables of monitors that changed since the event before
  pub changes : List Changed

-- a step: whose it is, its line, and the queue to which it comes
pub record LastStep : Type 0 where
  pub process : ℕ
  pub line : Option ℕ
  pub queue : Option Place

-- What is remembered from one event to the next: the choice that was taken, the open entry calls of monitors of each process, the innermost last, how the processes stood, and
-- the components; what comes back from the call that ends with the step to come, if one does; and the last step.
pub record Remembered : Type 0 where
  pub choice : Option Decision
  pub calls : List (List EntryCall)
  pub standings : List Standing
  pub components : List Component
  pub returned : List Given
  pub last : LastStep

pub record NamedTelling : Type 0 where
  pub events : List NamedEvent
  pub past : Remembered

-- ---- of each process a stack

abbrev pub stack_of : {A : Type 0} → List (List A) → ℕ → List A
stack_of stacks p = slice_index_or stacks p []

abbrev pub last_of : {A : Type 0} → A → List A → A
last_of d xs = slice_index_or xs (length xs - 1) d

abbrev pub pushed : {A : Type 0} → List (List A) → ℕ → A → List (List A)
pushed stacks p x = slice_set stacks p (stack_of stacks p ++ x ∷ [])

abbrev pub popped : {A : Type 0} → List (List A) → ℕ → List (List A)
popped stacks p = slice_set stacks p (take (length (stack_of stacks p) - 1) (stack_of stacks p))

-- ---- entry calls

-- in place of a call where none is open: of the first monitor and the first routine
abbrev pub no_call : Program → EntryCall
no_call p = record { monitor = 0; routine = name_of (slice_get (openings_of p) 0); line = 0 }

abbrev pub innermost : Program → Remembered → ℕ → EntryCall
innermost p past q = last_of (no_call p) (stack_of past.calls q)

-- the call that process p has just begun, from a line
abbrev pub call_begun : Tree → Discipline → State → ℕ → (line : Option ℕ) → EntryCall
call_begun t g s p line =
    let c : Call = current (process_at s.processes p).calls in
    record { monitor = monitor_of t.program g c.component; routine = routine_of c; line = unwrap_or line 0 }

-- `continue` returns from its entry under `return` alone
abbrev pub calls_continued : Signals → List (List EntryCall) → ℕ → List (List EntryCall)
calls_continued return_signals calls p = popped calls p
calls_continued _ calls p = calls

abbrev pub calls_after : Tree → Discipline → TraceEvent → ℕ → (line : Option ℕ) → State → List (List EntryCall) → List (List EntryCall)
calls_after t g (Kernel Enter) p line s calls = pushed calls p (call_begun t g s p line)
calls_after t g (Kernel Leave) p line s calls = popped calls p
calls_after t g (Kernel Continue) p line s calls = calls_continued s.discipline.signals calls p
calls_after t g _ p line s calls = calls

-- ---- an event of process p, which stood on this line and came to the state s

abbrev pub call_of_event : Tree → Discipline → TraceEvent → ℕ → (line : Option ℕ) → State → Remembered → Option EntryCall
call_of_event t g (Kernel Enter) p line s past = Some (call_begun t g s p line)
call_of_event t g (Kernel StartProcess) p line s past = None
call_of_event t g (Kernel Display) p line s past = None
call_of_event t g End p line s past = None
call_of_event t g _ p line s past = Some (innermost t.program past p)

abbrev pub waits_then : TraceEvent → ℕ → List Standing → Bool
waits_then (Kernel Enter) p now = is_gated (standing_at now p)
waits_then _ p now = false

-- the value that was displayed last
abbrev pub displayed_by : TraceEvent → (output : List Shown) → Option Shown
displayed_by (Kernel Display) output = Some (last_of (Integer (pos 0)) output)
displayed_by _ output = None

-- the queue that `delay` and `continue` name in the state before
abbrev pub queue_by : TraceEvent → NamedQueue → Option NamedQueue
queue_by (Kernel Delay) queue = Some queue
queue_by (Kernel Continue) queue = Some queue
queue_by _ queue = None

-- the discipline of a `continue`
abbrev pub signals_by : TraceEvent → Signals → Option Signals
signals_by (Kernel Continue) by = Some by
signals_by _ by = None

-- what the call has that has just begun
abbrev pub arguments_by : TraceEvent → View → List Value
arguments_by (Kernel Enter) v = arguments_told v
arguments_by _ v = []

abbrev pub begun_by : TraceEvent → (before now : List Standing) → Option ℕ
begun_by (Kernel StartProcess) before now = Some (last_of 0 (started before now))
begun_by _ before now = None

-- a return stands where its call does; the end of a process and an admission have no line
abbrev pub line_of_event : TraceEvent → (line : Option ℕ) → (call : EntryCall) → Option ℕ
line_of_event (Kernel Leave) line call = Some call.line
line_of_event End line call = None
line_of_event Admit line call = None
line_of_event _ line call = line

abbrev pub event_of : Tree → Discipline → TraceEvent → ℕ → (line : Option ℕ) → (queue : NamedQueue) → (woken : List ℕ) → State → Remembered → NamedEvent
event_of t g event p line queue woken s past =
    record {
      process = p;
      event = event;
      call = call_of_event t g event p line s past;
      waits = waits_then event p (standings t.program s);
      displayed = displayed_by event ((named t g).output s);
      queue = queue_by event queue;
      signals = signals_by event s.discipline.signals;
      arguments = arguments_by event (view_of t.program s p);
      returned = past.returned;
      begins = begun_by event past.standings (standings t.program s);
      line = line_of_event event line (innermost t.program past p);
      choice = past.choice;
      woken = woken;
      let_in = resumed is_gated past.standings (standings t.program s) p;
      standings = standings t.program s;
      holders = holders_in (named t g) s;
      changes = changes_told t.program g past.components s.components;
    }

abbrev pub remembered_after : Tree → Discipline → TraceEvent → ℕ → (line : Option ℕ) → State → Remembered → Remembered
remembered_after t g event p line s past = record { choice = None; calls = calls_after t g event p line s past.calls; standings = standings t.program s; components = s.components; returned = []; last = past.last }

abbrev pub with_event : Tree → Discipline → TraceEvent → ℕ → (line : Option ℕ) → (queue : NamedQueue) → (woken : List ℕ) → State → NamedTelling → NamedTelling
with_event t g event p line queue woken s x = record { events = x.events ++ event_of t g event p line queue woken s x.past ∷ []; past = remembered_after t g event p line s x.past }

-- ---- a run

-- what comes back from the call that ends with the step of process p, seen before it
abbrev pub returned_then : Tree → State → ℕ → Remembered → List Given
returned_then t s p past = if ends_now t s p then given_back (view_of t.program s p) else past.returned

-- where a step has no line, it is on that of the step before, if the same process made it
abbrev pub line_before : LastStep → ℕ → Option ℕ
line_before last p = if last.process == p then last.line else None

-- the step of process p, seen before it, after a last one
abbrev pub step_seen : Tree → State → ℕ → LastStep → LastStep
step_seen t s p last = record { process = p; line = option_or (next_line t s p) (line_before last p); queue = queue_place t s p }

abbrev pub expecting : Tree → State → ℕ → NamedTelling → NamedTelling
expecting t s p x = record { events = x.events; past = record x.past { returned = returned_then t s p x.past; last = step_seen t s p x.past.last } }

-- a local step, a run error and a full output are no events
abbrev pub with_step : Tree → Discipline → ℕ → (line : Option ℕ) → (queue : NamedQueue) → (woken : List ℕ) → Event → State → NamedTelling → NamedTelling
with_step t g p line queue woken (step.Kernel call) s x = with_event t g (Kernel call) p line queue woken s x
with_step t g p line queue woken step.Ended s x = with_event t g End p line queue woken s x
with_step t g p line queue woken _ s x = x

-- the choice that is due in a state
abbrev pub decision_of : Tree → Discipline → State → ℕ → Decision
decision_of t g s number = record { options = those_below (named t g).processes (may (named t g) s); number = number; at_gate = is_some s.pending }

abbrev pub with_choice : Decision → NamedTelling → NamedTelling
with_choice d x = record { events = x.events; past = record x.past { choice = Some d } }

abbrev pub names_teller : Tree → Discipline → Fold State NamedTelling
names_teller t g =
    record {
      on_step = λ s p event after x. with_step t g p (next_line t s p) (queue_aimed t g s p) (released (standings t.program s) (standings t.program after)) event after (expecting t s p x);
      on_admission = λ p after x. with_event t g Admit p None no_queue [] after x;
      on_choice = λ s number x. with_choice (decision_of t g s number) x;
    }

abbrev pub no_step : LastStep
no_step = record { process = 0; line = None; queue = None }

abbrev pub nothing_told : Tree → Discipline → NamedTelling
nothing_told t g =
    let first = opening t.program g in
    record { events = []; past = record { choice = None; calls = replicate (length first.processes) []; standings = standings t.program first; components = first.components; returned = []; last = no_step } }

-- what is told of the run of a word
abbrev pub names_telling : Tree → Discipline → (choices steps : ℕ) → List ℕ → NamedTelling
names_telling t g choices steps word = fold_run (named t g) (names_teller t g) choices steps word (nothing_told t g)

-- its events
abbrev pub events_on_names : Tree → Discipline → (choices steps : ℕ) → List ℕ → List NamedEvent
events_on_names t g choices steps word = (names_telling t g choices steps word).events
