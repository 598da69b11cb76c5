-- What a story tells of a run: what each kernel call, process end and admission was, on which line and after which choice; in which queue a process is delayed,
-- and which one it continues; what its call is given or gives back; who goes on by it, and how the processes stand then; and which variables of monitors
-- changed. It is told from the states of the slot machine before and after it.
use Rattle.std.specs.Prelude.{ℕ, List, [], ◌∷◌, ◌++◌, ◌-◌, ◌==◌, ◌&&◌, Bool, true, false, not, if◌then◌else◌, map, length, take, replicate, slice_get, slice_index_or, slice_set, Option, Some, None, unwrap_or, ℤ, pos}
use Rattle.std.specs.List.{filter, range_with_len}
use Rattle.std.specs.Option.{option_or, option_to_list}
use Rattle.cp_slots.specs.Tables.{Tables}
use Rattle.cp_legend.specs.Names.{Legend}
use Rattle.cp_legend.specs.Places.{monitor_in, owner, permanent_name_in}
use Rattle.cp_legend.specs.Values.{Value}
use Rattle.cp_machine.specs.declared.event.Event.{Event}
use Rattle.cp_machine.specs.declared.event.Event.TheVariants as step
use Rattle.cp_machine.specs.declared.event.Kernel.TheVariants.{Enter, Leave, Delay, Continue, StartProcess, Display}
use Rattle.cp_machine.specs.declared.discipline.Discipline.{Discipline}
use Rattle.cp_machine.specs.declared.discipline.Signals.{Signals}
use Rattle.cp_machine.specs.declared.discipline.Signals.TheVariants as signals
use Rattle.cp_machine.specs.declared.process.Entry.{Entry}
use Rattle.cp_machine.specs.declared.process.Entry.TheVariants.{Return}
use Rattle.cp_machine.specs.declared.process.Status.{Status}
use Rattle.cp_machine.specs.declared.process.Status.TheVariants as status
use Rattle.cp_machine.specs.declared.shown.Shown.{Shown}
use Rattle.cp_machine.specs.declared.shown.Shown.TheVariants.{Integer}
use Rattle.cp_machine.specs.Machine.{Machine, Thread, is_pending, is_ready, is_unstarted, thread_at}
use Rattle.cp_machine.specs.Opening.{opening}
use Rattle.cp_run.specs.declared.line.TraceEvent.{TraceEvent}
use Rattle.cp_run.specs.declared.line.TraceEvent.TheVariants.{Kernel, End, Admit}
use Rattle.cp_run.specs.Run.{may, those_below}
use Rattle.cp_run.specs.Slots.{slots}
use Rattle.cp_run.specs.Trace.{holders_in}
use Rattle.cp_story.specs.Aimed.{aim_in, no_aim}
use Rattle.cp_story.specs.Changes.{Changed, changes_in}
use Rattle.cp_run.specs.Fold.{Fold, fold_run}
use Rattle.cp_story.specs.Passed.{Given, arguments, given_back}
use Rattle.cp_story.specs.declared.aim.Aim.{Aim}
use Rattle.cp_story.specs.declared.event.OpenCall.{OpenCall}
use Rattle.cp_story.specs.declared.observer.Last.{Last}

-- a choice that was due: who could be chosen, who was, and whether one of a line was to be let in
pub record Decision : Type 0 where
  pub options : List ℕ
  pub number : ℕ
  pub at_gate : Bool

-- a queue, by the monitor that it is in and its name there
pub record NamedQueue : Type 0 where
  pub monitor : ℕ
  pub name : List ℕ

pub data Happened : Type 0 where
  -- a monitor's entry is called, with these arguments, and whether the caller waits at the gate
  Enters : OpenCall → List Value → Bool → Happened
  Leaves : OpenCall → Happened
  -- a process waits in this queue, or continues it by a discipline of who goes on then
  Delays : NamedQueue → OpenCall → Happened
  Continues : NamedQueue → OpenCall → Signals → Happened
  Starts : ℕ → Happened
  Displays : Shown → Happened
  Ends : Happened
  IsAdmitted : OpenCall → Happened

-- an event
pub record Told : Type 0 where
  pub process : ℕ
  pub happened : Happened
  pub line : Option ℕ
  -- what the call gives back that ends with it
  pub returned : List Given
  -- the choice that was taken since the event before
  pub choice : Option Decision
  -- who waited in the queue that is continued, and who was at a gate and goes in
  pub woken : List ℕ
  pub let_in : List ℕ
  -- the status of each process, and the process inside each monitor
  pub statuses : List Status
  pub holders : List (Option ℕ)
  -- the variables of monitors that changed since the event before
  pub changes : List Changed

-- what is remembered from one event to the next
pub record Past : Type 0 where
  pub choice : Option Decision
  -- the open calls of monitors of each process, the innermost last
  pub calls : List (List OpenCall)
  pub statuses : List Status
  -- what comes back from the call that ends with the step to come, if one does
  pub returned : List Given
  -- the last step
  pub last : Last
  -- the cells of all components
  pub cells : List ℤ
  -- what variables are called
  pub legend : Legend

abbrev pub with_calls : Past → List (List OpenCall) → Past
with_calls past calls = record past { calls = calls }

-- the events so far, and what is remembered of them
pub record Telling : Type 0 where
  pub events : List Told
  pub past : Past

-- ---- open calls

abbrev pub no_call : OpenCall
no_call = record { monitor = 0; routine = 0; line = 0 }

abbrev pub calls_of : List (List OpenCall) → ℕ → List OpenCall
calls_of calls p = slice_index_or calls p []

abbrev pub innermost_call : List (List OpenCall) → ℕ → OpenCall
innermost_call calls p = slice_index_or (calls_of calls p) (length (calls_of calls p) - 1) no_call

abbrev pub with_call : List (List OpenCall) → ℕ → OpenCall → List (List OpenCall)
with_call calls p call = slice_set calls p (calls_of calls p ++ call ∷ [])

abbrev pub without_call : List (List OpenCall) → ℕ → List (List OpenCall)
without_call calls p = slice_set calls p (take (length (calls_of calls p) - 1) (calls_of calls p))

-- the monitor that the innermost entry on a control stack leaves at its end
abbrev pub monitor_left : List Entry → ℕ
monitor_left [] = 0
monitor_left (Return caller result (Some monitor) ∷ es) = monitor
monitor_left (e ∷ es) = monitor_left es

-- the call that process p has just begun from a line
abbrev pub call_begun : Thread → Option ℕ → OpenCall
call_begun t line = record { monitor = monitor_left t.stack; routine = t.frame.routine; line = unwrap_or line 0 }

-- ---- queues

-- the queue of a permanent cell, by the monitor that has the cell and the cell's name there
abbrev pub queue_at : Legend → (cell : ℕ) → NamedQueue
queue_at l cell = record { monitor = unwrap_or (monitor_in (owner l.components cell)) 0; name = permanent_name_in l.constants l.shapes l.permanents (owner l.components cell) cell 1 }

abbrev pub queue_told : Legend → (queue : Option ℕ) → NamedQueue
queue_told l None = record { monitor = 0; name = [] }
queue_told l (Some cell) = queue_at l cell

-- ---- who goes on

abbrev pub is_gated : Status → Bool
is_gated (status.AtGate monitor) = true
is_gated _ = false

abbrev pub is_queued : Status → Bool
is_queued (status.Delayed cell) = true
is_queued _ = false

abbrev pub statuses_in : Machine → List Status
statuses_in m = map (λ (t : Thread). t.status) m.threads

-- the processes other than p that waited so and are ready now
abbrev pub resumed_processes : (Status → Bool) → List Status → Machine → ℕ → List ℕ
resumed_processes waited before t p = filter (λ q. waited (slice_index_or before q status.Ended) && not (q == p) && is_ready t q) (range_with_len 0 (length t.threads))

-- the process that was unstarted and is not now
abbrev pub started_processes : List Status → Machine → List ℕ
started_processes before t = filter (λ q. is_unstarted (slice_index_or before q status.Ended) && not (is_unstarted (thread_at t.threads q).status)) (range_with_len 0 (length t.threads))

abbrev pub last_or : {A : Type 0} → A → List A → A
last_or d xs = slice_index_or xs (length xs - 1) d

-- ---- an event of process p, which had this aim and came to the state t

abbrev pub what_happened : TraceEvent → ℕ → Aim → Machine → Past → Happened
what_happened (Kernel Enter) p aim t past = Enters (call_begun (thread_at t.threads p) aim.line) (arguments past.legend (slice_get t.threads p)) (is_gated (thread_at t.threads p).status)
what_happened (Kernel Leave) p aim t past = Leaves (innermost_call past.calls p)
what_happened (Kernel Delay) p aim t past = Delays (queue_told past.legend aim.queue) (innermost_call past.calls p)
what_happened (Kernel Continue) p aim t past = Continues (queue_told past.legend aim.queue) (innermost_call past.calls p) t.discipline.signals
what_happened (Kernel StartProcess) p aim t past = Starts (last_or 0 (started_processes past.statuses t))
what_happened (Kernel Display) p aim t past = Displays (last_or (Integer (pos 0)) t.output)
what_happened End p aim t past = Ends
what_happened Admit p aim t past = IsAdmitted (innermost_call past.calls p)

-- a return stands where its call does
abbrev pub line_told : Happened → Option ℕ → Option ℕ
line_told (Leaves call) line = Some call.line
line_told Ends line = None
line_told (IsAdmitted call) line = None
line_told _ line = line

-- who continues a queue returns from its call under `return` alone
abbrev pub calls_continued : Signals → List (List OpenCall) → ℕ → List (List OpenCall)
calls_continued signals.Return calls p = without_call calls p
calls_continued _ calls p = calls

abbrev pub calls_after : TraceEvent → ℕ → Aim → Machine → List (List OpenCall) → List (List OpenCall)
calls_after (Kernel Enter) p aim t calls = with_call calls p (call_begun (thread_at t.threads p) aim.line)
calls_after (Kernel Leave) p aim t calls = without_call calls p
calls_after (Kernel Continue) p aim t calls = calls_continued t.discipline.signals calls p
calls_after _ p aim t calls = calls

abbrev pub told_event : List (Option ℕ) → TraceEvent → ℕ → Aim → Machine → Past → Told
told_event holders event p aim t past =
    record {
      process = p;
      happened = what_happened event p aim t past;
      line = line_told (what_happened event p aim t past) aim.line;
      returned = past.returned;
      choice = past.choice;
      woken = option_to_list aim.wakes;
      let_in = resumed_processes is_gated past.statuses t p;
      statuses = statuses_in t;
      holders = holders;
      changes = changes_in past.legend past.cells t.permanents;
    }

abbrev pub past_after : TraceEvent → ℕ → Aim → Machine → Past → Past
past_after event p aim t past = record past { choice = None; calls = calls_after event p aim t past.calls; statuses = statuses_in t; returned = []; cells = t.permanents }

abbrev pub told_more : Tables → Discipline → TraceEvent → ℕ → Aim → Machine → Telling → Telling
told_more r discipline event p aim t x = record { events = x.events ++ told_event (holders_in (slots r discipline) t) event p aim t x.past ∷ []; past = past_after event p aim t x.past }

-- ---- a run

-- the step of process p that is about to be made, after a last one: where it has no line, it is on the line that p came to last
abbrev pub line_before : Last → ℕ → Option ℕ
line_before last p = if last.process == p then last.line else None

abbrev pub last_with : Aim → ℕ → Last → Last
last_with aim p last = record { process = p; line = option_or aim.line (line_before last p); queue = aim.queue }

-- what is seen of it before it is made: which step it is, and what comes back from the call that ends with it
abbrev pub past_with : Last → Past → Past
past_with last past = record past { last = last }

abbrev pub past_before : Aim → Machine → ℕ → Past → Past
past_before aim s p past = past_with (last_with aim p past.last) (if aim.ends_call then record past { returned = given_back past.legend s.permanents (slice_get s.threads p) } else past)

abbrev pub expecting : Aim → Machine → ℕ → Telling → Telling
expecting aim s p x = record { events = x.events; past = past_before aim s p x.past }

abbrev pub told_step : Tables → Discipline → ℕ → Aim → Event → Machine → Telling → Telling
told_step r discipline p aim (step.Kernel call) t x = told_more r discipline (Kernel call) p aim t x
told_step r discipline p aim step.Ended t x = told_more r discipline End p aim t x
told_step r discipline p aim _ t x = x

-- the choice that is due in a state
abbrev pub decision_in : Tables → Discipline → Machine → ℕ → Decision
decision_in r discipline m number = record { options = those_below (length r.processes) (may (slots r discipline) m); number = number; at_gate = is_pending m }

abbrev pub choice_taken : Telling → Decision → Telling
choice_taken x d = record { events = x.events; past = record x.past { choice = Some d } }

abbrev pub teller : Tables → Discipline → Fold Machine Telling
teller r discipline =
    record {
      on_step = λ s p event t x. let aim = aim_in r s p in told_step r discipline p aim event t (expecting aim s p x);
      on_admission = λ p t x. told_more r discipline Admit p (no_aim false) t x;
      on_choice = λ s number x. choice_taken x (decision_in r discipline s number);
    }

abbrev pub no_step : Last
no_step = record { process = 0; line = None; queue = None }

abbrev pub nothing_told : Legend → Machine → Telling
nothing_told l m = record { events = []; past = record { choice = None; calls = replicate (length m.threads) []; statuses = statuses_in m; returned = []; last = no_step; cells = m.permanents; legend = l } }

-- what is told of the run of a word
abbrev pub telling : Legend → Tables → Discipline → (choices steps : ℕ) → List ℕ → Telling
telling l r discipline choices steps word = fold_run (slots r discipline) (teller r discipline) choices steps word (nothing_told l (opening r discipline))

-- its events
abbrev pub story_of : Legend → Tables → Discipline → (choices steps : ℕ) → List ℕ → List Told
story_of l r discipline choices steps word = (telling l r discipline choices steps word).events
