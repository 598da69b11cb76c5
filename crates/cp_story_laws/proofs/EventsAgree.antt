-- Along the run of a word, the events that a story tells are those on the program's own names.
use Rattle.std.proofs.Common.{◌≡◌, ◌∙◌, ℕ, ◌<◌, ◌==◌, ℤ, Bool, true, false, List, [], ◌∷◌, ◌++◌, Option, Some, None, ap, ap₂, sym, refl, subst, arith, if◌then◌else◌, length}
use Rattle.std.specs.Option.{option_or, option_to_list}
use Rattle.std.specs.Prelude.{map, pos, replicate, slice_get}
use Rattle.std.proofs.lemmas.List.{map-append}
use Rattle.cp_tree.specs.Read.{IsRead}
use Rattle.cp_tree.specs.Syntax.{Tree}
use Rattle.cp_layout.specs.Laid.{plain, laid}
use Rattle.cp_slots.specs.Tables.{Tables}
use Rattle.cp_meaning_laws.specs.Accepted.{IsAccepted}
use Rattle.cp_legend.specs.Names.{Legend, RoutineNames}
use Rattle.cp_legend_laws.specs.Called.{called_in_legend, tabled}
use Rattle.cp_legend_laws.specs.Paths.{called_in_language}
use Rattle.cp_legend_laws.specs.Statements.{routine_text}
use Rattle.cp_machine.specs.declared.event.Event.{Event}
use Rattle.cp_machine.specs.declared.event.Event.TheVariants as step
use Rattle.cp_machine.specs.declared.event.Kernel as calls
use Rattle.cp_machine.specs.declared.event.Kernel.TheVariants.{Enter, Leave, Delay, Continue, StartProcess, Display}
use Rattle.cp_machine.specs.declared.discipline.Discipline as slot_gates
use Rattle.cp_machine.specs.declared.discipline.Signals as slot_signals
use Rattle.cp_machine.specs.declared.discipline.Signals.TheVariants as signals
use Rattle.cp_machine.specs.declared.shown.Shown.{Shown}
use Rattle.cp_machine.specs.declared.shown.Shown.TheVariants.{Integer}
use Rattle.cp_machine.specs.Machine.{Machine, is_pending, is_ready, thread_at}
use Rattle.cp_machine.specs.Opening as machine
use Rattle.cp_meaning.specs.Components.{components_of}
use Rattle.cp_meaning.specs.Names.{Name}
use Rattle.cp_meaning.specs.State.{Discipline, Signals, State}
use Rattle.cp_meaning.specs.State as meaning
use Rattle.cp_meaning.specs.Steps.{step_of, line_at, view_of}
use Rattle.cp_run.specs.declared.line.TraceEvent.{TraceEvent}
use Rattle.cp_run.specs.declared.line.TraceEvent.TheVariants.{Kernel, End, Admit}
use Rattle.cp_run.specs.Run.{may, those_below}
use Rattle.cp_run.specs.Slots.{slots}
use Rattle.cp_run.specs.System.{System}
use Rattle.cp_run.specs.Trace.{holders_in}
use Rattle.cp_run.proofs.Choosing.{those_same}
use Rattle.cp_resolved.specs.Openings.{openings_of}
use Rattle.cp_resolved.specs.TreeLayouts.{layouts_of}
use Rattle.cp_machine_laws.specs.InStep.{CanGo, CanEnter, GoInStep, LooksAlike}
use Rattle.cp_machine_laws.specs.Named.{named, named_discipline, named_signals, is_some}
use Rattle.cp_machine_laws.specs.Prepared.{Prepared}
use Rattle.cp_machine_laws.proofs.Disciplines.{discipline_back}
use Rattle.cp_machine_laws.proofs.Alike.{holders_same, may_same}
use Rattle.cp_machine_laws.proofs.HoldsInReached.{reached_stands}
use Rattle.cp_story.specs.Aimed.{aim_in, no_aim}
use Rattle.cp_story.specs.Changes.{changes_in}
use Rattle.cp_story.specs.Passed.{Given, arguments, given_back}
use Rattle.cp_story.specs.Story as story
use Rattle.cp_story.specs.Story.{Decision, NamedQueue, Telling, Past, last_with, line_before, queue_told, calls_of, innermost_call, what_happened, line_told, told_event, told_more, told_step, expecting, choice_taken, decision_in, teller, statuses_in, resumed_processes, started_processes}
use Rattle.cp_story.specs.declared.aim.Aim.{Aim}
use Rattle.cp_story.specs.declared.observer.Last.{Last}
use Rattle.cp_story_laws.specs.Aims.{ends_now, no_queue, queue_aimed, queue_place}
use Rattle.cp_story_laws.specs.Changes.{changes_told}
use Rattle.cp_story_laws.specs.Events as names
use Rattle.cp_story_laws.specs.Events.{EntryCall, LastStep, NamedEvent, NamedTelling, names_teller, stack_of, step_seen}
use Rattle.cp_story_laws.specs.Lines.{next_line}
use Rattle.cp_story_laws.specs.Passed as passed
use Rattle.cp_story_laws.specs.Passed.{arguments_told}
use Rattle.cp_story_laws.specs.Standings as stands
use Rattle.cp_story_laws.specs.Standings.{Standing, standings, released, resumed}
use Rattle.cp_story_laws.specs.Statements.{arguments_in, call_told, call_in, queue_in, signals_in, event_on_names, event_told, displayed_told, begins_told, waits_told, standing_told, TellsEvents}
use Rattle.cp_story_laws.proofs.aims.QueueCells.{SameQueue}
use Rattle.cp_story_laws.proofs.CalledInProgram.{calls_routine}
use Rattle.cp_story_laws.proofs.Entered.{call_same, scope_same}
use Rattle.cp_story_laws.proofs.Entering.{step_enters, enters_seen}
use Rattle.cp_story_laws.proofs.EntersRoutine.{enters_routine}
use Rattle.cp_story_laws.proofs.FoldsInStep.{KeepRelated, EndRelated, ends_related}
use Rattle.cp_story_laws.proofs.passed.NamedCalls.{AreNamed}
use Rattle.cp_story_laws.proofs.NextLines.{lines_same}
use Rattle.cp_story_laws.proofs.Together as together
use Rattle.cp_story_laws.proofs.OpenCalls.{each_of_none, stack_kept, last_kept, pushed_kept, popped_kept}
use Rattle.cp_story_laws.proofs.RoutinesExecuted.{executes_named, legend_name}
use Rattle.cp_story_laws.proofs.StandingsAgree.{standings_same}
use Rattle.cp_story_laws.proofs.Waited.{released_same, resumed_same, started_same, gated_same, gate_kept}
use Rattle.cp_story_laws.proofs.WokenAgree.{is_told, woken_same}

-- the last step on names and on slots
pub record LastAgrees (t : Tree) (r : Tables) (x : LastStep) (y : Last) : Type 0 where
  pub process : y.process ≡ x.process
  pub line : y.line ≡ x.line
  pub queue : SameQueue t r x.queue y.queue

-- what is told on names, and what a story tells
pub record EventsAgree (t : Tree) (r : Tables) (Held : List meaning.Component → List ℤ → Type 0) (l : Legend) (x : NamedTelling) (y : Telling) : Type 0 where
  pub events : map (event_on_names l) y.events ≡ x.events
  pub choice : y.past.choice ≡ x.past.choice
  pub calls : map (map (call_told l)) y.past.calls ≡ x.past.calls
  pub standings : map (standing_told l) y.past.statuses ≡ x.past.standings
  pub returned : y.past.returned ≡ x.past.returned
  -- the components and the cells of the last event
  pub held : Held x.past.components y.past.cells
  pub legend : y.past.legend ≡ l
  pub last : LastAgrees t r x.past.last y.past.last

kernel_of : (c : calls.Kernel) → Kernel c ≡ Kernel Enter → step.Kernel c ≡ step.Kernel Enter
kernel_of c e = cc

-- whether an event tells of a queue
abbrev queue_of : TraceEvent → Bool
queue_of (Kernel Delay) = true
queue_of (Kernel Continue) = true
queue_of _ = false

abbrev pub names_queue : Event → Bool
names_queue (step.Kernel call) = queue_of (Kernel call)
names_queue _ = false

module _ (t : Tree) (r : Tables) (g : slot_gates.Discipline) (l : Legend) (Held : List meaning.Component → List ℤ → Type 0) (routines : map (λ (n : RoutineNames). n.name) l.routines ≡ map routine_text (openings_of t.program)) where
  abbrev h : Discipline
  h = named_discipline g

  abbrev on_names : System State
  on_names = named t h

  abbrev on_slots : System Machine
  on_slots = slots r g

  abbrev Agree : NamedTelling → Telling → Type 0
  Agree x y = EventsAgree t r Held l x y

  -- ---- an event

  module _ (p : ℕ) (aim : Aim) (s : State) (m : Machine) (queue : NamedQueue) (woken : List ℕ) (count : on_names.monitors ≡ on_slots.monitors) (alike : LooksAlike on_names on_slots s m) (by : named_signals m.discipline.signals ≡ s.discipline.signals)
      (now : map (standing_told l) (statuses_in m) ≡ standings t.program s) (wakes : option_to_list aim.wakes ≡ woken)
      (held : Held s.components m.permanents) (changes : (cs : List meaning.Component) (cells : List ℤ) → Held cs cells → changes_in l cells m.permanents ≡ changes_told t.program h cs s.components) (x : NamedTelling) (y : Telling) (agree : Agree x y) where
    kind_same : (event : TraceEvent) → event_told (what_happened event p aim m y.past) ≡ event
    kind_same (Kernel Enter) = refl
    kind_same (Kernel Leave) = refl
    kind_same (Kernel Delay) = refl
    kind_same (Kernel Continue) = refl
    kind_same (Kernel StartProcess) = refl
    kind_same (Kernel Display) = refl
    kind_same End = refl
    kind_same Admit = refl

    none_same : call_told l story.no_call ≡ names.no_call t.program
    none_same = ap (λ (x : Name). (let c : EntryCall = record { monitor = 0; routine = x; line = 0 } in c)) (legend_name l.routines (openings_of t.program) 0 routines)

    innermost_same : call_told l (innermost_call y.past.calls p) ≡ names.innermost t.program x.past p
    innermost_same =
        sym (last_kept (call_told l) story.no_call (calls_of y.past.calls p))
        ∙ ap (λ (c : EntryCall). names.last_of c (map (call_told l) (calls_of y.past.calls p))) none_same
        ∙ ap (names.last_of (names.no_call t.program)) (sym (stack_kept (call_told l) y.past.calls p) ∙ ap (λ (cs : List (List EntryCall)). stack_of cs p) agree.calls)

    abbrev Begun : TraceEvent → Type 0
    Begun event = event ≡ Kernel Enter → call_told l (story.call_begun (thread_at m.threads p) aim.line) ≡ names.call_begun t h s p aim.line

    calls_told : (event : TraceEvent) → Begun event → call_in l (what_happened event p aim m y.past) ≡ names.call_of_event t h event p aim.line s x.past
    calls_told (Kernel Enter) begun = ap Some (begun refl)
    calls_told (Kernel Leave) begun = ap Some innermost_same
    calls_told (Kernel Delay) begun = ap Some innermost_same
    calls_told (Kernel Continue) begun = ap Some innermost_same
    calls_told (Kernel StartProcess) begun = refl
    calls_told (Kernel Display) begun = refl
    calls_told End begun = refl
    calls_told Admit begun = ap Some innermost_same

    waits_same : (event : TraceEvent) → waits_told (what_happened event p aim m y.past) ≡ names.waits_then event p (standings t.program s)
    waits_same (Kernel Enter) = gated_same l m p ∙ ap (λ (all : List Standing). stands.is_gated (stands.standing_at all p)) now
    waits_same (Kernel Leave) = refl
    waits_same (Kernel Delay) = refl
    waits_same (Kernel Continue) = refl
    waits_same (Kernel StartProcess) = refl
    waits_same (Kernel Display) = refl
    waits_same End = refl
    waits_same Admit = refl

    displayed_same : (event : TraceEvent) → displayed_told (what_happened event p aim m y.past) ≡ names.displayed_by event (on_names.output s)
    displayed_same (Kernel Enter) = refl
    displayed_same (Kernel Leave) = refl
    displayed_same (Kernel Delay) = refl
    displayed_same (Kernel Continue) = refl
    displayed_same (Kernel StartProcess) = refl
    displayed_same (Kernel Display) = ap (λ (o : List Shown). Some (names.last_of (Integer (pos 0)) o)) (sym alike.output)
    displayed_same End = refl
    displayed_same Admit = refl

    begins_same : (event : TraceEvent) → begins_told (what_happened event p aim m y.past) ≡ names.begun_by event x.past.standings (standings t.program s)
    begins_same (Kernel Enter) = refl
    begins_same (Kernel Leave) = refl
    begins_same (Kernel Delay) = refl
    begins_same (Kernel Continue) = refl
    begins_same (Kernel StartProcess) =
        ap (λ (qs : List ℕ). Some (names.last_of 0 qs))
        (started_same l y.past.statuses m ∙ ap (λ (all : List Standing). stands.started all (map (standing_told l) (statuses_in m))) agree.standings ∙ ap (stands.started x.past.standings) now)
    begins_same (Kernel Display) = refl
    begins_same End = refl
    begins_same Admit = refl

    abbrev Queued : TraceEvent → Type 0
    Queued event = queue_of event ≡ true → queue_told l aim.queue ≡ queue

    queues_same : (event : TraceEvent) → Queued event → queue_in (what_happened event p aim m y.past) ≡ names.queue_by event queue
    queues_same (Kernel Enter) queued = refl
    queues_same (Kernel Leave) queued = refl
    queues_same (Kernel Delay) queued = ap Some (ap (λ (k : Legend). queue_told k aim.queue) agree.legend ∙ queued refl)
    queues_same (Kernel Continue) queued = ap Some (ap (λ (k : Legend). queue_told k aim.queue) agree.legend ∙ queued refl)
    queues_same (Kernel StartProcess) queued = refl
    queues_same (Kernel Display) queued = refl
    queues_same End queued = refl
    queues_same Admit queued = refl

    signals_same : (event : TraceEvent) → signals_in (what_happened event p aim m y.past) ≡ names.signals_by event s.discipline.signals
    signals_same (Kernel Enter) = refl
    signals_same (Kernel Leave) = refl
    signals_same (Kernel Delay) = refl
    signals_same (Kernel Continue) = ap Some by
    signals_same (Kernel StartProcess) = refl
    signals_same (Kernel Display) = refl
    signals_same End = refl
    signals_same Admit = refl

    abbrev IsGiven : TraceEvent → Type 0
    IsGiven event = event ≡ Kernel Enter → arguments l (slice_get m.threads p) ≡ arguments_told (view_of t.program s p)

    arguments_same : (event : TraceEvent) → IsGiven event → arguments_in (what_happened event p aim m y.past) ≡ names.arguments_by event (view_of t.program s p)
    arguments_same (Kernel Enter) given = ap (λ (k : Legend). arguments k (slice_get m.threads p)) agree.legend ∙ given refl
    arguments_same (Kernel Leave) given = refl
    arguments_same (Kernel Delay) given = refl
    arguments_same (Kernel Continue) given = refl
    arguments_same (Kernel StartProcess) given = refl
    arguments_same (Kernel Display) given = refl
    arguments_same End given = refl
    arguments_same Admit given = refl

    changes_same : changes_in y.past.legend y.past.cells m.permanents ≡ changes_told t.program h x.past.components s.components
    changes_same = ap (λ (k : Legend). changes_in k y.past.cells m.permanents) agree.legend ∙ changes x.past.components y.past.cells agree.held

    line_same : (event : TraceEvent) → line_told (what_happened event p aim m y.past) aim.line ≡ names.line_of_event event aim.line (names.innermost t.program x.past p)
    line_same (Kernel Enter) = refl
    line_same (Kernel Leave) = ap (λ (c : EntryCall). Some c.line) innermost_same
    line_same (Kernel Delay) = refl
    line_same (Kernel Continue) = refl
    line_same (Kernel StartProcess) = refl
    line_same (Kernel Display) = refl
    line_same End = refl
    line_same Admit = refl

    let_in_same : resumed_processes story.is_gated y.past.statuses m p ≡ resumed stands.is_gated x.past.standings (standings t.program s) p
    let_in_same =
        resumed_same l story.is_gated stands.is_gated (gate_kept l) y.past.statuses m p
        ∙ ap (λ (all : List Standing). resumed stands.is_gated all (map (standing_told l) (statuses_in m)) p) agree.standings
        ∙ ap (λ (all : List Standing). resumed stands.is_gated x.past.standings all p) now

    holders_are : holders_in on_slots m ≡ holders_in on_names s
    holders_are = sym (holders_same on_names on_slots s m count alike)

    event_same : (event : TraceEvent) → Begun event → Queued event → IsGiven event → event_on_names l (told_event (holders_in on_slots m) event p aim m y.past) ≡ names.event_of t h event p aim.line queue woken s x.past
    event_same event begun queued given =
        let a = kind_same event in
        let b = calls_told event begun in
        let c = waits_same event in
        let d = displayed_same event in
        let e = begins_same event in
        let f = line_same event in
        let i = agree.choice in
        let j = wakes in
        let k = let_in_same in
        let n = now in
        let o = holders_are in
        let q = queues_same event queued in
        let r2 = signals_same event in
        let u = arguments_same event given in
        let v = agree.returned in
        let w = changes_same in
        cc

    opens : call_told l (story.call_begun (thread_at m.threads p) aim.line) ≡ names.call_begun t h s p aim.line → map (map (call_told l)) (names.pushed y.past.calls p (story.call_begun (thread_at m.threads p) aim.line)) ≡ names.pushed x.past.calls p (names.call_begun t h s p aim.line)
    opens begun =
        pushed_kept (call_told l) y.past.calls p (story.call_begun (thread_at m.threads p) aim.line)
        ∙ (ap (λ (cs : List (List EntryCall)). names.pushed cs p (call_told l (story.call_begun (thread_at m.threads p) aim.line))) agree.calls ∙ ap (names.pushed x.past.calls p) begun)

    closes : map (map (call_told l)) (names.popped y.past.calls p) ≡ names.popped x.past.calls p
    closes = popped_kept (call_told l) y.past.calls p ∙ ap (λ (cs : List (List EntryCall)). names.popped cs p) agree.calls

    continued : (k : slot_signals.Signals) → map (map (call_told l)) (story.calls_continued k y.past.calls p) ≡ names.calls_continued (named_signals k) x.past.calls p
    continued signals.Return = closes
    continued signals.Continue = agree.calls
    continued signals.Wait = agree.calls

    calls_same : (event : TraceEvent) → Begun event → map (map (call_told l)) (told_more r g event p aim m y).past.calls ≡ names.calls_after t h event p aim.line s x.past.calls
    calls_same (Kernel Enter) begun = opens (begun refl)
    calls_same (Kernel Leave) begun = closes
    calls_same (Kernel Delay) begun = agree.calls
    calls_same (Kernel Continue) begun = continued m.discipline.signals ∙ ap (λ (k : Signals). names.calls_continued k x.past.calls p) by
    calls_same (Kernel StartProcess) begun = agree.calls
    calls_same (Kernel Display) begun = agree.calls
    calls_same End begun = agree.calls
    calls_same Admit begun = agree.calls

    pub event_agrees : (event : TraceEvent) → Begun event → Queued event → IsGiven event → Agree (names.with_event t h event p aim.line queue woken s x) (told_more r g event p aim m y)
    event_agrees event begun queued given =
        record {
          events =
              map-append (event_on_names l) y.events (told_event (holders_in on_slots m) event p aim m y.past ∷ [])
              ∙ ap (λ (es : List NamedEvent). es ++ event_on_names l (told_event (holders_in on_slots m) event p aim m y.past) ∷ []) agree.events
              ∙ ap (λ (e : NamedEvent). x.events ++ e ∷ []) (event_same event begun queued given);
          choice = refl;
          calls = calls_same event begun;
          standings = now;
          returned = refl;
          held = held;
          legend = agree.legend;
          last = agree.last;
        }

  -- ---- what is expected of a step is no event

  either_past : {X : Type 0} (c : Bool) (a b : Past) (of : Past → X) → of a ≡ of b → of (if c then a else b) ≡ of b
  either_past true a b of e = e
  either_past false a b of e = refl

  module _ (aim : Aim) (s : State) (m : Machine) (p : ℕ) (ends : aim.ends_call ≡ ends_now t s p) (line : next_line t s p ≡ aim.line) (meets : SameQueue t r (queue_place t s p) aim.queue) (given : ends_now t s p ≡ true → given_back l m.permanents (slice_get m.threads p) ≡ passed.given_back (view_of t.program s p)) where
    given_now : (c : Bool) → ends_now t s p ≡ c → (past : Past) (before : List Given) → past.legend ≡ l → past.returned ≡ before →
        (if c then record past { returned = given_back past.legend m.permanents (slice_get m.threads p) } else past).returned ≡ (if c then passed.given_back (view_of t.program s p) else before)
    given_now true e past before same kept = ap (λ (k : Legend). given_back k m.permanents (slice_get m.threads p)) same ∙ given e
    given_now false e past before same kept = kept

    last_seen : (x : LastStep) (y : Last) → LastAgrees t r x y → LastAgrees t r (step_seen t s p x) (last_with aim p y)
    last_seen x y agree =
        let before : line_before y p ≡ names.line_before x p = ap₂ (λ (n : ℕ) (o : Option ℕ). if n == p then o else None) agree.process agree.line in
        record { process = refl; line = ap₂ option_or (sym line) before; queue = meets }

    expecting_agrees : (x : NamedTelling) (y : Telling) → Agree x y → Agree (names.expecting t s p x) (expecting aim m p y)
    expecting_agrees x y agree =
        let ended : Past = record y.past { returned = given_back y.past.legend m.permanents (slice_get m.threads p) } in
        record {
          events = agree.events;
          choice = either_past aim.ends_call ended y.past (λ (q : Past). q.choice) refl ∙ agree.choice;
          calls = ap (map (map (call_told l))) (either_past aim.ends_call ended y.past (λ (q : Past). q.calls) refl) ∙ agree.calls;
          standings = ap (map (standing_told l)) (either_past aim.ends_call ended y.past (λ (q : Past). q.statuses) refl) ∙ agree.standings;
          returned = ap (λ (c : Bool). (if c then ended else y.past).returned) ends ∙ given_now (ends_now t s p) refl y.past x.past.returned agree.legend agree.returned;
          held = subst (λ (cells : List ℤ). Held x.past.components cells) (sym (either_past aim.ends_call ended y.past (λ (q : Past). q.cells) refl)) agree.held;
          legend = either_past aim.ends_call ended y.past (λ (q : Past). q.legend) refl ∙ agree.legend;
          last = last_seen x.past.last y.past.last agree.last;
        }

  -- ---- the choice that is due

  decision_same : (s : State) (m : Machine) (n : on_names.processes ≡ on_slots.processes) → LooksAlike on_names on_slots s m → (number : ℕ) → decision_in r g m number ≡ names.decision_of t h s number
  decision_same s m n alike number =
      let options : those_below on_names.processes (may on_names s) ≡ those_below on_slots.processes (may on_slots m) =
      those_same on_names.processes (may on_names s) (may on_slots m) (λ q k. may_same on_names on_slots s m n alike q) ∙ ap (λ (k : ℕ). those_below k (may on_slots m)) n in
      let gate : is_some s.pending ≡ is_pending m = alike.pending in
      cc

  -- ---- runs

  module _ (read : IsRead t.program) (ok : IsAccepted t) (same : plain r ≡ laid t) (tables : map tabled l.components ≡ r.components) (paths : map called_in_legend l.components ≡ map (called_in_language t.program) (components_of t.program)) where
    abbrev Related : State → Machine → Type 0
    Related = together.Related t r g read ok same

    -- what is told of a step from its states, beside who calls and who waits
    pub record StepsAgree : Type 0 where
      pub held : (s : State) (m : Machine) → Related s m → Held s.components m.permanents
      pub changes : (cs ds : List meaning.Component) (before now : List ℤ) → Held cs before → Held ds now → changes_in l before now ≡ changes_told t.program h cs ds
      pub queues : (s : State) (m : Machine) (p : ℕ) → Related s m → CanGo on_names s p → names_queue (on_slots.event m p) ≡ true → queue_told l (aim_in r m p).queue ≡ queue_aimed t h s p
      pub meets : (s : State) (m : Machine) (p : ℕ) → Related s m → CanGo on_names s p → SameQueue t r (queue_place t s p) (aim_in r m p).queue
      pub ending : (s : State) (m : Machine) (p : ℕ) → Related s m → CanGo on_names s p → (aim_in r m p).ends_call ≡ ends_now t s p
      pub given : (s : State) (m : Machine) (p : ℕ) → Related s m → CanGo on_names s p → AreNamed (openings_of t.program) m → ends_now t s p ≡ true → given_back l m.permanents (slice_get m.threads p) ≡ passed.given_back (view_of t.program s p)
      pub begun : (s : State) (m : Machine) (p : ℕ) → Related s m → CanGo on_names s p → on_slots.event m p ≡ step.Kernel Enter → arguments l (slice_get (on_slots.step m p).threads p) ≡ arguments_told (view_of t.program (on_names.step s p) p)
      -- each frame that a return leaves executes a routine that has a name
      pub named_start : AreNamed (openings_of t.program) on_slots.start
      pub named_step : (m : Machine) (p : ℕ) → AreNamed (openings_of t.program) m → AreNamed (openings_of t.program) (on_slots.step m p)
      pub named_admission : (m : Machine) (p : ℕ) → AreNamed (openings_of t.program) m → AreNamed (openings_of t.program) (on_slots.admit m p)

    go : GoInStep on_names on_slots Related
    go = together.go t r g read ok same

    prepared : Prepared t r (layouts_of t)
    prepared = together.prepared t r g read ok same

    stand_now : (s : State) (m : Machine) → Related s m → map (standing_told l) (statuses_in m) ≡ standings t.program s
    stand_now s m sim = standings_same t r (layouts_of t) h ok prepared l tables paths s m sim

    signals_now : (s : State) (m : Machine) → Related s m → named_signals m.discipline.signals ≡ s.discipline.signals
    signals_now s m sim = ap (λ (d : slot_gates.Discipline). named_signals d.signals) sim.represents.discipline ∙ ap (λ (d : Discipline). d.signals) (discipline_back s.discipline)

    -- ---- a step

    module _ (s : State) (m : Machine) (p : ℕ) (sim : Related s m) (can : CanGo on_names s p) where
      abbrev s2 : State
      s2 = on_names.step s p

      abbrev m2 : Machine
      m2 = on_slots.step m p

      sim2 : Related s2 m2
      sim2 = go.step s m p sim can

      abbrev aim : Aim
      aim = aim_in r m p

      line_now : next_line t s p ≡ aim.line
      line_now = lines_same t r (layouts_of t) s m p (together.going t r g read ok same s m p sim can)

      entered_now : on_slots.event m p ≡ step.Kernel Enter → call_told l (story.call_begun (thread_at m2.threads p) aim.line) ≡ names.call_begun t h s2 p aim.line
      entered_now e =
          let k = together.going t r g read ok same s m p sim can in
          let holds = reached_stands t ok h s sim.reached in
          let holds2 = reached_stands t ok h s2 sim2.reached in
          let open_call = holds.open_call p k.there (λ f. (let bad : meaning.ready ≡ meaning.unstarted = sym k.was ∙ f in cc)) in
          let event = enters_seen p (line_at t s p) (step_of t.program s p).event (go.event s m p sim can ∙ e) in
          let w = step_enters t.program s p k.there open_call.0 open_call.1 open_call.2 event in
          let less : p < length s2.processes = (let a = sim.represents.process_count in let b = sim2.represents.process_count in let c = sim.fits.threads in let d = sim2.fits.threads in let f = k.there in omega (arith, a, b, c, d, f)) in
          let n = (meaning.current (meaning.process_at s2.processes p).calls).component in
          let there : p < length m.threads = (let a = sim.represents.process_count in let b = k.there in omega (arith, a, b)) in
          let called = enters_routine r (openings_of t.program) m p there (calls_routine t r same) e in
          let executes = executes_named t.program l.routines routines (thread_at m2.threads p).frame.routine called (meaning.current (meaning.process_at s2.processes p).calls) (scope_same t r (layouts_of t) prepared.stands h ok s2 m2 sim2 p less aim.line w.0) in
          call_same t r (layouts_of t) prepared.stands h ok s2 m2 sim2 p less aim.line l executes w.0 (holds2.kind n ∙ sym (holds.kind n) ∙ w.1)

      woken_now : is_told (on_slots.event m p) ≡ true → option_to_list aim.wakes ≡ released (standings t.program s) (standings t.program s2)
      woken_now told =
          let ready : is_ready m p ≡ true = sym ((go.alike s m sim).ready p can.below) ∙ can.ready in
          let same_length : length m.threads ≡ length m2.threads = (let c = sim.fits.threads in let d = sim2.fits.threads in omega (arith, c, d)) in
          woken_same r m p sim.lines ready told same_length
          ∙ released_same l (statuses_in m) m2
          ∙ ap (λ (all : List Standing). released all (map (standing_told l) (statuses_in m2))) (stand_now s m sim)
          ∙ ap (released (standings t.program s)) (stand_now s2 m2 sim2)

      abbrev back : List ℕ
      back = released (standings t.program s) (standings t.program s2)

      module _ (steps : StepsAgree) (named_now : AreNamed (openings_of t.program) m) (x : NamedTelling) (y : Telling) (agree : Agree x y) where
        abbrev queue : NamedQueue
        queue = queue_aimed t h s p

        abbrev held_now : Held s2.components m2.permanents
        held_now = steps.held s2 m2 sim2

        expected : Agree (names.expecting t s p x) (expecting aim m p y)
        expected = expecting_agrees aim s m p (steps.ending s m p sim can) line_now (steps.meets s m p sim can) (steps.given s m p sim can named_now) x y agree

        told_by : (e : Event) → on_slots.event m p ≡ e → Agree (names.with_step t h p aim.line queue back e s2 (names.expecting t s p x)) (told_step r g p aim e m2 (expecting aim m p y))
        told_by (step.Kernel call) e =
            event_agrees p aim s2 m2 queue back go.monitors (go.alike s2 m2 sim2) (signals_now s2 m2 sim2) (stand_now s2 m2 sim2) (woken_now (ap is_told e)) held_now (λ cs cells k. steps.changes cs s2.components cells m2.permanents k held_now) (names.expecting t s p x) (expecting aim m p y) expected
            (Kernel call) (λ f. entered_now (e ∙ kernel_of call f)) (λ f. steps.queues s m p sim can (ap names_queue e ∙ f)) (λ f. steps.begun s m p sim can (e ∙ kernel_of call f))
        told_by step.Ended e =
            event_agrees p aim s2 m2 queue back go.monitors (go.alike s2 m2 sim2) (signals_now s2 m2 sim2) (stand_now s2 m2 sim2) (woken_now (ap is_told e)) held_now (λ cs cells k. steps.changes cs s2.components cells m2.permanents k held_now) (names.expecting t s p x) (expecting aim m p y) expected End
            (λ f. absurd (let bad : End ≡ Kernel Enter = f in cc)) (λ f. absurd (let bad : false ≡ true = f in cc)) (λ f. absurd (let bad : End ≡ Kernel Enter = f in cc))
        told_by _ e = expected

        step_kept : Agree (names.with_step t h p (next_line t s p) queue back (on_names.event s p) s2 (names.expecting t s p x)) (told_step r g p aim (on_slots.event m p) m2 (expecting aim m p y))
        step_kept =
            let after : Telling = told_step r g p aim (on_slots.event m p) m2 (expecting aim m p y) in
            subst (λ (e : Event). Agree (names.with_step t h p (next_line t s p) queue back e s2 (names.expecting t s p x)) after) (sym (go.event s m p sim can))
            (subst (λ (n : Option ℕ). Agree (names.with_step t h p n queue back (on_slots.event m p) s2 (names.expecting t s p x)) after) (sym line_now) (told_by (on_slots.event m p) refl))

    -- ---- a run

    module _ (steps : StepsAgree) where
      admission_kept : (s : State) (m : Machine) (p : ℕ) (x : NamedTelling) (y : Telling) → Related s m → CanEnter on_names s p → Agree x y → Agree (names.with_event t h Admit p None no_queue [] (on_names.admit s p) x) (told_more r g Admit p (no_aim false) (on_slots.admit m p) y)
      admission_kept s m p x y sim can agree =
          let s2 : State = on_names.admit s p in
          let m2 : Machine = on_slots.admit m p in
          let sim2 : Related s2 m2 = go.admit s m p sim can in
          let held_now = steps.held s2 m2 sim2 in
          event_agrees p (no_aim false) s2 m2 no_queue [] go.monitors (go.alike s2 m2 sim2) (signals_now s2 m2 sim2) (stand_now s2 m2 sim2) refl held_now (λ cs cells k. steps.changes cs s2.components cells m2.permanents k held_now) x y agree Admit
          (λ f. absurd (let bad : Admit ≡ Kernel Enter = f in cc)) (λ f. absurd (let bad : false ≡ true = f in cc)) (λ f. absurd (let bad : Admit ≡ Kernel Enter = f in cc))

      abbrev AgreeNow : State → Machine → NamedTelling → Telling → Type 0
      AgreeNow s m x y = Agree x y × AreNamed (openings_of t.program) m

      choice_kept : (s : State) (m : Machine) (p : ℕ) (x : NamedTelling) (y : Telling) → Related s m → Agree x y → Agree (names.with_choice (names.decision_of t h s p) x) (choice_taken y (decision_in r g m p))
      choice_kept s m p x y sim agree =
          record {
            events = agree.events;
            choice = ap Some (decision_same s m go.processes (go.alike s m sim) p);
            calls = agree.calls;
            standings = agree.standings;
            returned = agree.returned;
            held = agree.held;
            legend = agree.legend;
            last = agree.last;
          }

      keeps : KeepRelated on_names on_slots Related (names_teller t h) (teller r g) AgreeNow
      keeps =
          record {
            step = λ s m p x y sim can k. (step_kept s m p sim can steps k.1 x y k.0, steps.named_step m p k.1);
            admission = λ s m p x y sim can k. (admission_kept s m p x y sim can k.0, steps.named_admission m p k.1);
            choice = λ s m p x y sim k. (choice_kept s m p x y sim k.0, k.1);
          }

      begins : Agree (names.nothing_told t h) (story.nothing_told l (machine.opening r g))
      begins =
          record {
            events = refl;
            choice = refl;
            calls = each_of_none (call_told l) (length (machine.opening r g).threads) ∙ ap (λ (n : ℕ). replicate n []) (sym go.start.represents.process_count);
            standings = stand_now on_names.start on_slots.start go.start;
            returned = refl;
            held = steps.held on_names.start on_slots.start go.start;
            legend = refl;
            last = record { process = refl; line = refl; queue = tt };
          }

      pub ends : (choices limit : ℕ) (word : List ℕ) → EndRelated on_names on_slots Related (names_teller t h) (teller r g) AgreeNow choices limit word (names.nothing_told t h) (story.nothing_told l (machine.opening r g))
      ends choices limit word =
          ends_related on_names on_slots Related (names_teller t h) (teller r g) AgreeNow go keeps (names.nothing_told t h) (story.nothing_told l (machine.opening r g)) (begins, steps.named_start) choices limit word

      pub tells_events : (choices steps : ℕ) (word : List ℕ) → TellsEvents t r l g choices steps word
      tells_events choices limit word = let k = (ends choices limit word).gathered.0 in record { events = k.events; last_choice = k.choice }
