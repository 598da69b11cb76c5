-- What is remembered of open calls is true in each state of a run.
use Rattle.std.proofs.Common.{◌⊎◌, inl, inr, ◌≡◌, ◌∙◌, ℕ, zero, suc, ◌-◌, ◌<◌, ◌≤◌, List, [], ◌∷◌, ◌++◌, Option, None, ap, sym, refl, subst, arith, length, length-set, get_or-set_same, get_or-set_other}
use Rattle.std.proofs.lemmas.Bool.{cases_eq, cases_lt}
use Rattle.std.proofs.lemmas.List.{length-map, length-append, length-replicate, map-append, take-map}
use Rattle.std.specs.Prelude.{map, replicate, slice_set, take}
use Rattle.cp_tree.specs.declared.declaration.SystemKind.{SystemKind}
use Rattle.cp_tree.specs.declared.declaration.SystemKind.TheVariants as system_kind
use Rattle.cp_tree.specs.Read.{IsRead}
use Rattle.cp_tree.specs.Syntax.{Program, Tree}
use Rattle.cp_layout.specs.Laid.{plain, laid}
use Rattle.cp_slots.specs.declared.tables.ComponentKind.{ComponentKind}
use Rattle.cp_slots.specs.declared.tables.ComponentKind.TheVariants as kind
use Rattle.cp_slots.specs.Tables.{Tables}
use Rattle.cp_slots.specs.Tables as tables
use Rattle.cp_meaning_laws.specs.Accepted.{IsAccepted}
use Rattle.cp_meaning_laws.proofs.Accepting.{well_formed}
use Rattle.cp_machine.specs.declared.event.Event as slot_event
use Rattle.cp_machine.specs.declared.event.Event.TheVariants as slot
use Rattle.cp_machine.specs.declared.event.Kernel.TheVariants.{Enter, Leave, Continue}
use Rattle.cp_machine.specs.declared.discipline.Discipline as slot_gates
use Rattle.cp_machine.specs.declared.discipline.Signals.TheVariants as signals
use Rattle.cp_machine.specs.declared.process.Status as slot_status
use Rattle.cp_machine.specs.declared.process.Status.TheVariants as status
use Rattle.cp_machine.specs.Machine.{Machine, thread_at}
use Rattle.cp_meaning.specs.Names.{Name}
use Rattle.cp_meaning.specs.Kernel.{Event, local_event, enter_event, leave_event, delay_event, continue_event, start_event, display_event, ended_event, fault_event, output_full}
use Rattle.cp_meaning.specs.State.{Component, component_at, process_at, Call, current, Discipline, Signals, return_signals, continue_signals, wait_signals, State, Status, unstarted, ready, Process}
use Rattle.cp_meaning.specs.Steps.{first_components, line_at, own_begun, process_first, processes_from, step_of}
use Rattle.cp_meaning.proofs.OwnershipLemmas.{reached}
use Rattle.cp_run.specs.declared.line.TraceEvent.TheVariants.{Admit}
use Rattle.cp_run.specs.Slots.{slots}
use Rattle.cp_run.specs.System.{System}
use Rattle.cp_resolved.specs.TreeLayouts.{layouts_of}
use Rattle.cp_machine_laws.specs.InStep.{CanGo, CanEnter, GoInStep}
use Rattle.cp_machine_laws.specs.Kinds.{SameKind}
use Rattle.cp_machine_laws.specs.Law.{ground_of}
use Rattle.cp_machine_laws.specs.Named.{event_of, named, named_discipline, signals_of}
use Rattle.cp_machine_laws.specs.Represents.{StatusIs}
use Rattle.cp_machine_laws.proofs.HoldsInReached.{HoldsInReached, reached_stands}
use Rattle.cp_machine_laws.proofs.ReachedKinds.{kinds_agree, monitor_there}
use Rattle.cp_machine_laws.proofs.steps.Going.{Going}
use Rattle.cp_run.specs.Fold.{Fold}
use Rattle.cp_run.specs.Stop.{last_state}
use Rattle.cp_story.specs.Story.{NamedQueue}
use Rattle.cp_story_laws.specs.Aims.{no_queue, queue_aimed}
use Rattle.cp_story_laws.specs.Events as names
use Rattle.cp_story_laws.specs.Events.{EntryCall, NamedTelling, stack_of, names_teller, names_telling}
use Rattle.cp_story_laws.specs.Lines.{next_line}
use Rattle.cp_story_laws.specs.OpenCalls.{Entered, entered_by, entry_of, monitors_entered}
use Rattle.cp_story_laws.specs.Standings.{released, standings}
use Rattle.cp_story_laws.specs.Statements.{OpenCallsAre, OpenCallsLaw, numbered_call, numbered_entry}
use Rattle.cp_story_laws.proofs.CalledFrames.{framed}
use Rattle.cp_story_laws.proofs.ContinueOnly.{continue_in_monitor, executes_monitor}
use Rattle.cp_story_laws.proofs.FoldsInStep.{KeepRelated, ends_related}
use Rattle.cp_story_laws.proofs.OpenMonitors.{Continues, OpensBy, OthersKept, entered_in, step_opens, by_frames, kinds_alike, admitted_kept}
use Rattle.cp_story_laws.proofs.Together as together

-- ---- lists

all_but_last : {A : Type 0} (xs : List A) (x : A) → take (length (xs ++ x ∷ []) - 1) (xs ++ x ∷ []) ≡ xs
all_but_last {A} xs x = ap (λ (n : ℕ). take n (xs ++ x ∷ [])) (let e = length-append xs (x ∷ []) in let d : length (xs ++ x ∷ []) - 1 ≡ length xs = omega (arith, e) in d) ∙ first xs
  where
    first : (ys : List A) → take (length ys) (ys ++ x ∷ []) ≡ ys
    first [] = refl
    first (y ∷ ys) = ap (λ (zs : List A). y ∷ zs) (first ys)

none_open : (n q : ℕ) → stack_of {A = EntryCall} (replicate n []) q ≡ []
none_open zero q = refl
none_open (suc n) zero = refl
none_open (suc n) (suc q) = none_open n q

-- ---- processes before the first step

past_calls : (ps : List Process) (r : ℕ) → length ps ≤ r → (process_at ps r).calls ≡ []
past_calls [] r le = refl
past_calls (x ∷ ps) zero le = absurd (omega (arith, le))
past_calls (x ∷ ps) (suc r) le = past_calls ps r (omega (arith, le))

none_called : (n : ℕ) (cs : List Component) (q : ℕ) → (process_at (processes_from n cs) q).calls ≡ []
none_called n [] q = refl
none_called n (c ∷ cs) q = by c.kind q (none_called (suc n) cs)
  where
    by : (k : SystemKind) (q : ℕ) → ((i : ℕ) → (process_at (processes_from (suc n) cs) i).calls ≡ []) → (process_at (process_first k n (processes_from (suc n) cs)) q).calls ≡ []
    by system_kind.Process zero rest = refl
    by system_kind.Process (suc q) rest = rest q
    by system_kind.Class q rest = rest q
    by system_kind.Monitor q rest = rest q

own_opens_none : (p : Program) (ds cs : List Component) (ps : List Process) → ((i : ℕ) → (process_at ps i).calls ≡ []) → (q : ℕ) → entered_by ds (process_at (own_begun p cs ps) q).calls ≡ []
own_opens_none p ds (c ∷ cs) (x ∷ ps) h zero = refl
own_opens_none p ds (c ∷ cs) (x ∷ ps) h (suc q) = ap (entered_by ds) (h (suc q))
own_opens_none p ds [] ps h q = ap (entered_by ds) (h q)
own_opens_none p ds (c ∷ cs) [] h q = ap (entered_by ds) (h q)

monitor_is : (a : SystemKind) (d : ComponentKind) (j : ℕ) → SameKind a d → d ≡ kind.Monitor j → a ≡ system_kind.Monitor
monitor_is system_kind.Monitor d j h e = refl
monitor_is system_kind.Class kind.Class j h e = absurd (cc)
monitor_is system_kind.Process (kind.Process n) j h e = absurd (cc)
monitor_is a d j h e = absurd h

module _ (t : Tree) (r : Tables) (g : slot_gates.Discipline) (read : IsRead t.program) (ok : IsAccepted t) (same : plain r ≡ laid t) where
  abbrev h : Discipline
  h = named_discipline g

  abbrev on_names : System State
  on_names = named t h

  abbrev on_slots : System Machine
  on_slots = slots r g

  abbrev mon : EntryCall → ℕ × Name
  mon c = numbered_call c

  abbrev number : Entered → ℕ × Name
  number x = numbered_entry t.program h x

  -- what is remembered of each process
  pub record OpenNow (s : State) (x : NamedTelling) : Type 0 where
    pub many : length x.past.calls ≡ length s.processes
    pub entered : (q : ℕ) → q < length s.processes → map mon (stack_of x.past.calls q) ≡ map number (monitors_entered s q)

  -- ---- a step of process p from s to u

  module _ (s u : State) (p : ℕ) (less : p < length s.processes) (count : length u.processes ≡ length s.processes) (others : (q : ℕ) → (q ≡ p → ⊥) → monitors_entered u q ≡ monitors_entered s q) (x : NamedTelling) (now : OpenNow s x) (line : Option ℕ) (queue : NamedQueue) (woken : List ℕ) where
    -- by a `continue` one is closed, or they are the same
    abbrev Continued : Signals → Type 0
    Continued return_signals = (m : Entered) × (monitors_entered s p ≡ monitors_entered u p ++ m ∷ [])
    Continued _ = monitors_entered u p ≡ monitors_entered s p

    -- one is opened, one is closed, or they are the same
    abbrev Opens : slot_event.Event → Type 0
    Opens (slot.Kernel Enter) = monitors_entered u p ≡ monitors_entered s p ++ entry_of (current (process_at u.processes p).calls) ∷ []
    Opens (slot.Kernel Leave) = (m : Entered) × (monitors_entered s p ≡ monitors_entered u p ++ m ∷ [])
    Opens (slot.Kernel Continue) = Continued u.discipline.signals
    Opens _ = monitors_entered u p ≡ monitors_entered s p

    known : p < length x.past.calls
    known = let a = now.many in let b = less in omega (arith, a, b)

    with_stack : (new : List EntryCall) → map mon new ≡ map number (monitors_entered u p) → (q : ℕ) → q < length u.processes → map mon (stack_of (slice_set x.past.calls p new) q) ≡ map number (monitors_entered u q)
    with_stack new e q there = by (cases_eq q p)
      where
        by : (q ≡ p) ⊎ (q ≡ p → ⊥) → map mon (stack_of (slice_set x.past.calls p new) q) ≡ map number (monitors_entered u q)
        by (inl at) =
            ap (λ (k : ℕ). map mon (stack_of (slice_set x.past.calls p new) k)) at
            ∙ (ap (map mon) (get_or-set_same x.past.calls p new [] known) ∙ (e ∙ ap (λ (k : ℕ). map number (monitors_entered u k)) (sym at)))
        by (inr ne) = ap (map mon) (get_or-set_other x.past.calls p q new [] ne) ∙ (now.entered q (omega (arith, there, count)) ∙ ap (map number) (sym (others q ne)))

    set_many : (new : List EntryCall) → length (slice_set x.past.calls p new) ≡ length u.processes
    set_many new = length-set x.past.calls p new ∙ (now.many ∙ sym count)

    one_more : (c : EntryCall) (n : Entered) → mon c ≡ number n → monitors_entered u p ≡ monitors_entered s p ++ n ∷ [] → map mon (stack_of x.past.calls p ++ c ∷ []) ≡ map number (monitors_entered u p)
    one_more c n is e =
        map-append mon (stack_of x.past.calls p) (c ∷ [])
        ∙ (ap (λ (ns : List (ℕ × Name)). ns ++ mon c ∷ []) (now.entered p less)
        ∙ (ap (λ (k : ℕ × Name). map number (monitors_entered s p) ++ k ∷ []) is
        ∙ (sym (map-append number (monitors_entered s p) (n ∷ [])) ∙ ap (map number) (sym e))))

    one_less : (m : Entered) → monitors_entered s p ≡ monitors_entered u p ++ m ∷ [] → map mon (take (length (stack_of x.past.calls p) - 1) (stack_of x.past.calls p)) ≡ map number (monitors_entered u p)
    one_less m e =
        sym (take-map mon (length (stack_of x.past.calls p) - 1) (stack_of x.past.calls p))
        ∙ (ap (λ (n : ℕ). take (n - 1) (map mon (stack_of x.past.calls p))) (sym (length-map (stack_of x.past.calls p) mon))
        ∙ (ap (λ (ns : List (ℕ × Name)). take (length ns - 1) ns) (now.entered p less ∙ (ap (map number) e ∙ map-append number (monitors_entered u p) (m ∷ [])))
        ∙ all_but_last (map number (monitors_entered u p)) (number m)))

    unchanged : monitors_entered u p ≡ monitors_entered s p → (q : ℕ) → q < length u.processes → map mon (stack_of x.past.calls q) ≡ map number (monitors_entered u q)
    unchanged e q there = now.entered q (omega (arith, there, count)) ∙ ap (map number) (sym (by (cases_eq q p)))
      where
        by : (q ≡ p) ⊎ (q ≡ p → ⊥) → monitors_entered u q ≡ monitors_entered s q
        by (inl at) = ap (monitors_entered u) at ∙ (e ∙ ap (monitors_entered s) (sym at))
        by (inr ne) = others q ne

    abbrev AreEntered : List (List EntryCall) → Type 0
    AreEntered calls = (length calls ≡ length u.processes) × ((q : ℕ) → q < length u.processes → map mon (stack_of calls q) ≡ map number (monitors_entered u q))

    continued_now : (by : Signals) → Continued by → AreEntered (names.calls_continued by x.past.calls p)
    continued_now return_signals k = let new = take (length (stack_of x.past.calls p) - 1) (stack_of x.past.calls p) in (set_many new, with_stack new (one_less k.0 k.1))
    continued_now continue_signals k = (now.many ∙ sym count, unchanged k)
    continued_now wait_signals k = (now.many ∙ sym count, unchanged k)

    pub opens_now : (e : slot_event.Event) → Opens e → OpenNow u (names.with_step t h p line queue woken e u x)
    opens_now (slot.Kernel Enter) k =
        let c = names.call_begun t h u p line in
        record { many = set_many (stack_of x.past.calls p ++ c ∷ []); entered = with_stack (stack_of x.past.calls p ++ c ∷ []) (one_more c (entry_of (current (process_at u.processes p).calls)) refl k) }
    opens_now (slot.Kernel Leave) k =
        let new = take (length (stack_of x.past.calls p) - 1) (stack_of x.past.calls p) in
        record { many = set_many new; entered = with_stack new (one_less k.0 k.1) }
    opens_now (slot.Kernel Continue) k = let after = continued_now u.discipline.signals k in record { many = after.0; entered = after.1 }
    opens_now e k = record { many = now.many ∙ sym count; entered = unchanged k }

  -- ---- states that are related

  abbrev Related : State → Machine → Type 0
  Related = together.Related t r g read ok same

  in_step : GoInStep on_names on_slots Related
  in_step = together.go t r g read ok same

  holds_in : (s : State) (m : Machine) → Related s m → HoldsInReached t.program s
  holds_in s m sim = reached_stands t ok h s sim.reached

  same_many : (s u : State) (m n : Machine) → Related s m → Related u n → length u.processes ≡ length s.processes
  same_many s u m n a b = let c = a.represents.process_count in let d = b.represents.process_count in let e = a.fits.threads in let f = b.fits.threads in omega (arith, c, d, e, f)

  module _ (s : State) (m : Machine) (p : ℕ) (sim : Related s m) (can : CanGo on_names s p) where
    abbrev u : State
    u = on_names.step s p

    abbrev n : Machine
    n = on_slots.step m p

    sim2 : Related u n
    sim2 = in_step.step s m p sim can

    kinds : (i : ℕ) → (component_at u.components i).kind ≡ (component_at s.components i).kind
    kinds i = (holds_in u n sim2).kind i ∙ sym ((holds_in s m sim).kind i)

    goes : Going (ground_of t r) t.program (layouts_of t) s m p
    goes = together.going t r g read ok same s m p sim can

    has : (c : Call) × (cs : List Call) × ((process_at s.processes p).calls ≡ c ∷ cs)
    has = (holds_in s m sim).open_call p goes.there (λ f. (let bad : ready ≡ unstarted = sym goes.was ∙ f in cc))

    idle_within : (i : ℕ) (w : slot_status.Status) → StatusIs (ground_of t r) t.program (layouts_of t) i (process_at s.processes i) (thread_at m.threads i) unstarted w → (process_at s.processes i).calls ≡ []
    idle_within i status.Unstarted k = k.0
    idle_within i w k = absurd k

    idle : (i : ℕ) → (process_at s.processes i).status ≡ unstarted → (process_at s.processes i).calls ≡ []
    idle i e = by (cases_lt i (length s.processes))
      where
        by : (i < length s.processes) ⊎ (length s.processes ≤ i) → (process_at s.processes i).calls ≡ []
        by (inl less) = idle_within i (thread_at m.threads i).status (subst (λ (v : Status). StatusIs (ground_of t r) t.program (layouts_of t) i (process_at s.processes i) (thread_at m.threads i) v (thread_at m.threads i).status) e (sim.represents.processes i less).status)
        by (inr past) = past_calls s.processes i past

    moves : OthersKept t.program s p goes.there goes.was idle has.0 has.1 has.2 u × OpensBy t.program s p goes.there goes.was idle has.0 has.1 has.2 (step_of t.program s p).event u
    moves = step_opens t.program s p goes.there goes.was idle has.0 has.1 has.2 ((reached t.program (well_formed t ok) h s sim.reached).1.orderly.processes p goes.there).fits

    entered_before : (q : ℕ) → monitors_entered s q ≡ entered_in s.components (framed (process_at s.processes q).calls)
    entered_before q = by_frames s.components (process_at s.processes q).calls

    entered_after : (q : ℕ) → monitors_entered u q ≡ entered_in s.components (framed (process_at u.processes q).calls)
    entered_after q = kinds_alike s.components u.components (process_at u.processes q).calls kinds ∙ by_frames s.components (process_at u.processes q).calls

    others : (q : ℕ) → (q ≡ p → ⊥) → monitors_entered u q ≡ monitors_entered s q
    others q ne = entered_after q ∙ (moves.0 q ne ∙ sym (entered_before q))

    in_monitor : s.discipline.signals ≡ return_signals → (step_of t.program s p).event ≡ continue_event → (component_at s.components has.0.component).kind ≡ system_kind.Monitor
    in_monitor by e =
        let returns : m.discipline.signals ≡ signals.Return = ap (λ (d : slot_gates.Discipline). d.signals) sim.represents.discipline ∙ ap signals_of by in
        let ends = continue_in_monitor r m p returns (sym (in_step.event s m p sim can) ∙ ap (event_of p (line_at t s p)) e) in
        let executed = executes_monitor t r (layouts_of t) (thread_at m.threads p).stack (thread_at m.threads p).frame (process_at s.processes p).calls (process_at s.processes p).items goes.stack ends in
        let is : (tables.component_at r has.0.component).kind ≡ kind.Monitor executed.0 = sym (ap (λ (cs : List Call). (tables.component_at r (current cs).component).kind) has.2) ∙ executed.1 in
        let stands = (together.prepared t r g read ok same).stands in
        monitor_is (component_at s.components has.0.component).kind (tables.component_at r has.0.component).kind executed.0
        (kinds_agree t r (layouts_of t) stands s (holds_in s m sim).kind has.0.component (monitor_there t r (layouts_of t) stands has.0.component executed.0 is)) is

    closes : (k : Entered) → entered_in s.components (framed (process_at s.processes p).calls) ≡ entered_in s.components (framed (process_at u.processes p).calls) ++ k ∷ [] → monitors_entered s p ≡ monitors_entered u p ++ k ∷ []
    closes k e = entered_before p ∙ (e ∙ ap (λ (ns : List Entered). ns ++ k ∷ []) (sym (entered_after p)))

    module _ (x : NamedTelling) (now : OpenNow s x) (line : Option ℕ) (queue : NamedQueue) (woken : List ℕ) where
      stays : entered_in s.components (framed (process_at u.processes p).calls) ≡ entered_in s.components (framed (process_at s.processes p).calls) → monitors_entered u p ≡ monitors_entered s p
      stays e = entered_after p ∙ (e ∙ sym (entered_before p))

      continued : (by : Signals) → s.discipline.signals ≡ by → (step_of t.program s p).event ≡ continue_event → Continues t.program s p goes.there goes.was idle has.0 has.1 has.2 by u → Continued s u p goes.there (same_many s u m n sim sim2) others x now line queue woken by
      continued return_signals same e k = (entry_of has.0, closes (entry_of has.0) (k (in_monitor same e)))
      continued continue_signals same e k = stays k
      continued wait_signals same e k = stays k

      opens : (e : Event) → (step_of t.program s p).event ≡ e → OpensBy t.program s p goes.there goes.was idle has.0 has.1 has.2 e u → Opens s u p goes.there (same_many s u m n sim sim2) others x now line queue woken (event_of p (line_at t s p) e)
      opens enter_event e w = entered_after p ∙ (w ∙ ap (λ (ns : List Entered). ns ++ entry_of (current (process_at u.processes p).calls) ∷ []) (sym (entered_before p)))
      opens leave_event e w = (w.0, closes w.0 w.1)
      opens continue_event e w = subst (Continued s u p goes.there (same_many s u m n sim sim2) others x now line queue woken) (ap (λ (d : Discipline). d.signals) (sym w.0)) (continued s.discipline.signals refl e w.1)
      opens delay_event e w = stays w
      opens start_event e w = stays w
      opens display_event e w = stays w
      opens ended_event e w = stays w
      opens local_event e w = stays w
      opens (fault_event f) e w = stays w
      opens output_full e w = stays w

      step_kept : OpenNow u (names.with_step t h p line queue woken (on_names.event s p) u x)
      step_kept = opens_now s u p goes.there (same_many s u m n sim sim2) others x now line queue woken (on_names.event s p) (opens (step_of t.program s p).event refl moves.1)

  admission_kept : (s : State) (m : Machine) (p : ℕ) (x : NamedTelling) → Related s m → CanEnter on_names s p → OpenNow s x → OpenNow (on_names.admit s p) (names.with_event t h Admit p None no_queue [] (on_names.admit s p) x)
  admission_kept s m p x sim can now =
      let u2 = on_names.admit s p in
      let sim2 = in_step.admit s m p sim can in
      let count = same_many s u2 m (on_slots.admit m p) sim sim2 in
      let kinds_kept : (i : ℕ) → (component_at u2.components i).kind ≡ (component_at s.components i).kind = λ i. (holds_in u2 (on_slots.admit m p) sim2).kind i ∙ sym ((holds_in s m sim).kind i) in
      record {
        many = now.many ∙ sym count;
        entered = λ q less. now.entered q (omega (arith, less, count)) ∙ ap (map number) (sym (kinds_alike s.components u2.components (process_at u2.processes q).calls kinds_kept ∙ ap (entered_by s.components) (admitted_kept s p q)));
      }

  -- nothing is made of the machine's own run
  abbrev idle_fold : Fold Machine ℕ
  idle_fold = record { on_step = λ s p event v y. y; on_admission = λ p v y. y; on_choice = λ s p y. y }

  keeps : KeepRelated on_names on_slots Related (names_teller t h) idle_fold (λ s m x y. OpenNow s x)
  keeps =
      record {
        step = λ s m p x y sim can now. step_kept s m p sim can (names.expecting t s p x) (record { many = now.many; entered = now.entered }) (next_line t s p) (queue_aimed t h s p) (released (standings t.program s) (standings t.program (on_names.step s p)));
        admission = λ s m p x y sim can now. admission_kept s m p x sim can now;
        choice = λ s m p x y sim now. record { many = now.many; entered = now.entered };
      }

  begins : OpenNow on_names.start (names.nothing_told t h)
  begins =
      record {
        many = length-replicate (length on_names.start.processes) [];
        entered = λ q less.
            ap (map mon) (none_open (length on_names.start.processes) q)
            ∙ ap (map number) (sym (own_opens_none t.program (first_components t.program) (first_components t.program) (processes_from 0 (first_components t.program)) (none_called 0 (first_components t.program)) q));
      }

  pub open_calls_are : (choices steps : ℕ) (word : List ℕ) → OpenCallsAre t h choices steps word
  open_calls_are choices steps word q less =
      let k = ends_related on_names on_slots Related (names_teller t h) idle_fold (λ s m x y. OpenNow s x) in_step keeps (names.nothing_told t h) 0 begins choices steps word in
      k.gathered.entered q (let e = same_many on_names.start (last_state on_names choices steps word) on_slots.start (last_state on_slots choices steps word) in_step.start k.states in omega (arith, e, less))

pub open_calls_law : OpenCallsLaw
open_calls_law t r g read ok same choices steps word = open_calls_are t r g read ok same choices steps word
