-- `continue` where its caller goes on: who waited in the queue comes to the end of the line, or goes in while the caller is the first of the line.
use Rattle.std.proofs.Common.{◌≡◌, ◌≢◌, ◌∙◌, ℕ, ◌<◌, Bool, true, false, if◌then◌else◌, List, [], ◌∷◌, ◌++◌, Option, Some, None, ap, sym, refl, subst, arith, length, length-set, eq-eqb}
use Rattle.cp_machine_laws.proofs.Words.{◌&&◌, not, pos, slice_set, Program, SystemKind, component_at, Entry, Name, Ty, queue_type, Value, queue_value, Choice, part_at, with_part}
use Rattle.cp_machine_laws.proofs.Words.{value_held, content_of, with_content, with_permanents, first_inside, Layouts, look, chosen_at, Ground, StackIs, ProcessIs, MonitorIs, CallsHold}
use Rattle.cp_machine_laws.proofs.Words.{own_memory, frames_of, Represents, with_stack}
use Rattle.cp_tree.specs.declared.declaration.SystemKind.TheVariants as system_kind
use Rattle.cp_slots.specs.declared.tables.ComponentKind.TheVariants as kind
use Rattle.cp_machine.specs.declared.discipline.Signals as slot_signals
use Rattle.cp_machine.specs.declared.discipline.Signals.TheVariants as signals
use Rattle.cp_machine.specs.declared.process.Status.TheVariants as status
use Rattle.cp_machine.specs.Kernel as machine
use Rattle.cp_machine.specs.Machine.{Machine, Monitor, Thread, no_thread, no_monitor, monitor_at, thread_at}
use Rattle.cp_meaning.specs.State as named
use Rattle.cp_meaning.specs.State.{ready, at_gate, delayed, Status, Call, Item, Component, no_component, Environment, holds, Process, no_process, State, has_entry, is_inside, waits_at}
use Rattle.cp_meaning.specs.Kernel as meaning
use Rattle.cp_meaning.specs.Kernel.{with_line, line_of, is_monitor, is_delayed_in, waits_inside}
use Rattle.cp_meaning.specs.Move.{Move, Doing}
use Rattle.cp_machine_laws.proofs.assignments.Assigning.{set_set}
use Rattle.cp_machine_laws.proofs.control.Control.{Goes, goes_still}
use Rattle.cp_machine_laws.proofs.control.Moving.{set_here, set_there, inside_same, ready_awake, gate_awake, stands_ready}
use Rattle.cp_machine_laws.proofs.expressions.Members.{not_equal as differs}
use Rattle.cp_machine_laws.proofs.gates.Gates.{none_left, and_false, lined, new_line, gate_changes}
use Rattle.cp_machine_laws.proofs.queues.Delayed.{MayDelay}
use Rattle.cp_machine_laws.proofs.queues.Resumed as resumed

-- ---- a component whose line and variables are written, in either order

module _ (cs : List Component) (n : ℕ) (line : List ℕ) (write : Environment → Environment) (less : n < length cs) where
  abbrev old : Component
  old = named.component_at cs n

  abbrev both : Component
  both = record old { environment = write old.environment; line = line }

  lined_first : with_permanents (with_line cs n line) n (write (named.component_at (with_line cs n line) n).environment) ≡ slice_set cs n both
  lined_first =
      ap (λ (c : Component). slice_set (with_line cs n line) n (record c { environment = write c.environment })) (set_here cs n (record old { line = line }) no_component less)
      ∙ set_set cs n (record old { line = line }) both

  written_first : with_line (with_permanents cs n (write old.environment)) n line ≡ slice_set cs n both
  written_first =
      ap (λ (c : Component). slice_set (with_permanents cs n (write old.environment)) n (record c { line = line })) (set_here cs n (record old { environment = write old.environment }) no_component less)
      ∙ set_set cs n (record old { environment = write old.environment }) both

  lined_written : with_permanents (with_line cs n line) n (write (named.component_at (with_line cs n line) n).environment) ≡ with_line (with_permanents cs n (write old.environment)) n line
  lined_written = lined_first ∙ sym written_first

-- who waits in a queue of a monitor, in an entry of it, passes the guard
pub inside_so : (n : ℕ) (a : SystemKind) (b : Bool) (c : Status) → a ≡ system_kind.Monitor → b ≡ true → c ≡ delayed n → (is_monitor a && b && is_delayed_in n c) ≡ true
inside_so n a b c monitor entry waits =
    ap (λ (k : SystemKind). is_monitor k && b && is_delayed_in n c) monitor ∙ (ap (λ (d : Bool). d && is_delayed_in n c) entry ∙ (ap (is_delayed_in n) waits ∙ eq-eqb n n refl))

-- what has to be known of the monitor, beside what `delay` asks
pub record MaySignal (g : Ground) (l : Layouts) (s : State) (m : Machine) (q n j : ℕ) : Type 0 where
  pub delay : MayDelay g l s m q n j
  pub monitor : (named.component_at s.components n).kind ≡ system_kind.Monitor
  -- who is delayed in the monitor has an open entry call of it
  pub called : (r : ℕ) → r < length s.processes → (named.process_at s.processes r).status ≡ delayed n → has_entry n (named.process_at s.processes r).calls ≡ true

module _ (g : Ground) (p : Program) (l : Layouts) (s : State) (m : Machine) (q : ℕ) (es : List Entry) (k : Goes g p l s m q es)
    (zs : List Item) (rest : List Entry) (stack : StackIs g p l (thread_at m.threads q).frame (named.process_at s.processes q).calls zs rest) (frames : frames_of (thread_at m.threads q).frame rest ≡ frames_of (thread_at m.threads q).frame es)
    (n j : ℕ) (may : MaySignal g l s m q n j)
    (y : Name) (u : Ty) (choices : List Choice) (offset : ℕ) (there : n < length g.tables.components) (known : look y (l.systems (component_at g.tables n).system).variables ≡ Some u) (chosen : chosen_at u choices ≡ Some (offset, queue_type)) where
  abbrev before : Process
  before = named.process_at s.processes q

  abbrev thread : Thread
  thread = thread_at m.threads q

  -- the caller behind its statement
  abbrev caller : Status → Process
  caller w = record { component = before.component; status = w; calls = before.calls; items = zs }

  there_n : n < length s.components
  there_n = let a = k.rep.component_count in omega (arith, a, there)

  monitor_here : MonitorIs s m n (kind.Monitor j)
  monitor_here = subst (MonitorIs s m n) may.delay.is (k.rep.monitors n there_n)

  -- ---- it goes on

  abbrev state_on : State
  state_on = record s { processes = slice_set s.processes q (caller ready) }

  abbrev machine_on : Machine
  machine_on = with_stack m q rest

  rep_on : Represents g p l state_on machine_on
  rep_on = goes_still g p l s m q es k zs rest stack frames

  -- ---- the queue is emptied

  abbrev pub at : ℕ
  at = resumed.at g p l s m k.rep may.delay.apart may.delay.parts_apart n y u choices offset there known chosen

  abbrev pub old_queue : Value
  old_queue = resumed.old_queue g p l s m k.rep may.delay.apart may.delay.parts_apart n y u choices offset there known chosen

  abbrev write : Environment → Environment
  write e = with_content y (holds (with_part (value_held (content_of y e)) choices (queue_value None))) e

  abbrev pub emptied : List Component
  emptied = with_permanents s.components n (write (named.component_at s.components n).environment)

  abbrev pub machine_emptied : Machine
  machine_emptied = record machine_on { permanents = slice_set m.permanents at (pos 0) }

  abbrev pub state_emptied : State
  state_emptied = record state_on { components = emptied }

  line_same : (named.component_at emptied n).line ≡ (named.component_at s.components n).line
  line_same = resumed.lines_same g p l s m k.rep may.delay.apart may.delay.parts_apart n y u choices offset there known chosen n

  -- nobody waited
  pub found_none : old_queue ≡ queue_value None → machine.waits_in machine_on at ≡ None
  found_none free = resumed.found_none g p l state_on machine_on rep_on may.delay.apart may.delay.parts_apart n y u choices offset there known chosen free

  pub none_on : old_queue ≡ queue_value None → Represents g p l state_emptied machine_emptied
  none_on free = resumed.emptied_none g p l state_on machine_on rep_on may.delay.apart may.delay.parts_apart n y u choices offset there known chosen free

  -- ---- a process waited

  module _ (r : ℕ) (somebody : old_queue ≡ queue_value (Some r)) where
    pub found_some : machine.waits_in machine_on at ≡ Some r
    found_some = resumed.found_some g p l state_on machine_on rep_on may.delay.apart may.delay.parts_apart n y u choices offset there known chosen r somebody

    waiting : (r < length s.processes) × ((named.process_at s.processes r).status ≡ delayed n) × ((thread_at m.threads r).status ≡ status.Delayed at)
    waiting = resumed.is_waiting g p l s m k.rep may.delay.apart may.delay.parts_apart n y u choices offset there known chosen r somebody

    called : has_entry n (named.process_at s.processes r).calls ≡ true
    called = may.called r waiting.0 waiting.1

    other : r ≢ q
    other d = absurd (let w : ready ≡ delayed n = sym k.was ∙ (sym (ap (λ i. (named.process_at s.processes i).status) d) ∙ waiting.1) in cc)

    still_called : (w : Status) → has_entry n (named.process_at (slice_set s.processes q (caller w)) r).calls ≡ true
    still_called w = ap (λ (x : Process). has_entry n x.calls) (set_there s.processes q r (caller w) no_process other) ∙ called

    -- the queue has the process also where the line is longer
    still_there : (line : List ℕ) → part_at (value_held (content_of y (named.component_at (with_line s.components n line) n).environment)) choices ≡ queue_value (Some r)
    still_there line = ap (λ (e : Environment). part_at (value_held (content_of y e)) choices) ((lined n s.components line there_n).environment n) ∙ somebody

    -- ---- it comes to the end of the line

    guard_on : waits_inside state_emptied n r ≡ true
    guard_on =
        inside_so n (named.component_at emptied n).kind (has_entry n (named.process_at state_on.processes r).calls) (named.process_at state_on.processes r).status
        (ap (λ (c : Component). c.kind) (set_here s.components n (record (named.component_at s.components n) { environment = write (named.component_at s.components n).environment }) no_component there_n) ∙ may.monitor)
        (still_called ready) (ap (λ (x : Process). x.status) (set_there s.processes q r (caller ready) no_process other) ∙ waiting.1)

    abbrev longer : List ℕ
    longer = line_of s n ++ r ∷ []

    abbrev gate_longer : Monitor
    gate_longer = record { holder = (monitor_at m j).holder; line = (monitor_at m j).line ++ r ∷ [] }

    abbrev state_longer : State
    state_longer = record state_on { components = with_line s.components n longer }

    abbrev machine_longer : Machine
    machine_longer = record machine_on { monitors = slice_set m.monitors j gate_longer }

    same_inside : (i : ℕ) → is_inside i (caller ready) ≡ is_inside i before
    same_inside i = sym (ap (λ (v : Status). has_entry i before.calls && not (waits_at i v)) k.was)

    rep_longer : Represents g p l state_longer machine_longer
    rep_longer =
        gate_changes g p l s m q (caller ready) (record thread { stack = rest }) n j k.rep may.delay.own may.delay.is may.delay.known there_n k.there (ready_awake before.status k.was) (ready_awake ready refl)
        (stands_ready g p l s m q k.rep k.there k.was k.was_slot before.calls zs (record thread { stack = rest }) refl (record { stack = stack; calls = subst (λ fs. CallsHold g.tables l (own_memory thread) before.calls fs) (sym frames) k.calls }))
        (with_line s.components n longer) gate_longer (lined n s.components longer there_n) (ap (λ (ks : List ℕ). ks ++ r ∷ []) monitor_here.0 ∙ sym (new_line n s.components longer there_n))
        (monitor_here.1 ∙ sym (inside_same n q (caller ready) s.processes (same_inside n) k.there)) (λ i d. same_inside i)

    -- the state with these components, where who waited is at the gate
    abbrev at_gate_with : List Component → State
    at_gate_with cs = record state_on { processes = slice_set state_on.processes r (record (named.process_at state_on.processes r) { status = at_gate n }); components = cs }

    notified : Represents g p l (meaning.at_gate_last state_emptied n r) (machine.join_line machine_emptied j r)
    notified =
        subst (λ (line : List ℕ). Represents g p l (at_gate_with (with_line emptied n (line ++ r ∷ []))) (machine.join_line machine_emptied j r)) (sym line_same)
        (subst (λ (cs : List Component). Represents g p l (at_gate_with cs) (machine.join_line machine_emptied j r)) (lined_written s.components n longer write there_n)
        (resumed.comes_to_gate g p l state_longer machine_longer rep_longer may.delay.apart may.delay.parts_apart n y u choices offset there known chosen r (still_there longer) j may.delay.is))

    pub notifies : Represents g p l (meaning.notifying state_emptied n (Some r)) (machine.join_line machine_emptied j r)
    notifies = subst (λ (b : Bool). Represents g p l (if b then meaning.at_gate_last state_emptied n r else state_emptied) (machine.join_line machine_emptied j r)) (sym guard_on) notified

    -- ---- it goes in, and the caller is the first of the line

    guard_before : waits_inside s n r ≡ true
    guard_before = inside_so n (named.component_at s.components n).kind (has_entry n (named.process_at s.processes r).calls) (named.process_at s.processes r).status may.monitor called waiting.1

    abbrev with_caller : List ℕ
    with_caller = q ∷ line_of s n

    abbrev gate_free : Monitor
    gate_free = record { holder = None; line = q ∷ (monitor_at m j).line }

    abbrev thread_waiting : Thread
    thread_waiting = record thread { stack = rest; status = status.AtGate j }

    abbrev state_waiting : State
    state_waiting = record s { processes = slice_set s.processes q (caller (at_gate n)); components = with_line s.components n with_caller }

    abbrev machine_waiting : Machine
    machine_waiting = record m { threads = slice_set m.threads q thread_waiting; monitors = slice_set m.monitors j gate_free }

    outside : is_inside n (caller (at_gate n)) ≡ false
    outside = ap (λ (b : Bool). has_entry n before.calls && not b) (eq-eqb n n refl) ∙ and_false (has_entry n before.calls)

    nobody : first_inside n state_waiting.processes ≡ None
    nobody = none_left n q (caller (at_gate n)) s.processes k.there may.delay.exclusive outside

    inside_there : (i : ℕ) → i ≢ n → is_inside i (caller (at_gate n)) ≡ is_inside i before
    inside_there i d = ap (λ (b : Bool). has_entry i before.calls && not b) (differs n i (λ e. d (sym e))) ∙ sym (ap (λ (v : Status). has_entry i before.calls && not (waits_at i v)) k.was)

    stands_waiting : ProcessIs g p l q (caller (at_gate n)) thread_waiting
    stands_waiting = record { component = (k.rep.processes q k.there).component; status = (may.delay.is, record { stack = stack; calls = subst (λ fs. CallsHold g.tables l (own_memory thread) before.calls fs) (sym frames) k.calls }) }

    rep_waiting : Represents g p l state_waiting machine_waiting
    rep_waiting =
        gate_changes g p l s m q (caller (at_gate n)) thread_waiting n j k.rep may.delay.own may.delay.is may.delay.known there_n k.there (ready_awake before.status k.was) (gate_awake n (at_gate n) refl) stands_waiting
        (with_line s.components n with_caller) gate_free (lined n s.components with_caller there_n) (ap (λ (ks : List ℕ). q ∷ ks) monitor_here.0 ∙ sym (new_line n s.components with_caller there_n)) (sym nobody) inside_there

    -- the machine's two writings of the thread, and of the monitor
    abbrev goes_in_by : List Thread → List Monitor → Machine
    goes_in_by ts ms = record machine_emptied { threads = slice_set ts r (record (thread_at ts r) { status = status.Ready }); monitors = ms }

    abbrev gate_taken : Monitor
    gate_taken = record { holder = Some r; line = q ∷ (monitor_at m j).line }

    threads_same : slice_set machine_on.threads q (record (thread_at machine_on.threads q) { status = status.AtGate j }) ≡ machine_waiting.threads
    threads_same =
        ap (λ (t : Thread). slice_set machine_on.threads q (record t { status = status.AtGate j })) (set_here m.threads q (record thread { stack = rest }) no_thread (let a = k.rep.process_count in let b = k.there in omega (arith, a, b)))
        ∙ set_set m.threads q (record thread { stack = rest }) thread_waiting

    monitors_same : slice_set machine_waiting.monitors j (record { holder = Some r; line = (monitor_at machine_waiting j).line }) ≡ slice_set m.monitors j gate_taken
    monitors_same =
        ap (λ (w : Monitor). slice_set machine_waiting.monitors j (record { holder = Some r; line = w.line })) (set_here m.monitors j gate_free no_monitor may.delay.known)
        ∙ set_set m.monitors j gate_free gate_taken

    -- the state with these components, where who waited is ready
    abbrev ready_with : List Component → State
    ready_with cs = record state_waiting { processes = slice_set state_waiting.processes r (record (named.process_at state_waiting.processes r) { status = ready }); components = cs }

    abbrev lined_emptied : List Component
    lined_emptied = with_permanents (with_line s.components n with_caller) n (write (named.component_at (with_line s.components n with_caller) n).environment)

    resumed_inside : Represents g p l (ready_with (with_line emptied n with_caller)) (machine.change_places machine_emptied j q r)
    resumed_inside =
        subst (λ (cs : List Component). Represents g p l (ready_with cs) (machine.change_places machine_emptied j q r)) (lined_written s.components n with_caller write there_n)
        (subst (λ (ts : List Thread). Represents g p l (ready_with lined_emptied) (goes_in_by ts (slice_set m.monitors j gate_taken))) (sym threads_same)
        (subst (λ (ms : List Monitor). Represents g p l (ready_with lined_emptied) (goes_in_by machine_waiting.threads ms)) monitors_same
        (resumed.resumed_some g p l state_waiting machine_waiting rep_waiting may.delay.apart may.delay.parts_apart n y u choices offset there known chosen r (still_there with_caller) may.delay.own j may.delay.is (let a = length-set m.monitors j gate_free in let b = may.delay.known in omega (arith, a, b)) nobody (still_called (at_gate n)))))

    pub yields : (move : Move) → Represents g p l (meaning.yielding s q n (record { calls = before.calls; items = zs; components = emptied; move = move }) (Some r)) (machine.change_places machine_emptied j q r)
    yields move =
        let doing : Doing = record { calls = before.calls; items = zs; components = emptied; move = move } in
        subst (λ (b : Bool). Represents g p l (if b then meaning.made_ready (meaning.at_gate_first s q n doing) r else meaning.moved_to ready s q doing) (machine.change_places machine_emptied j q r)) (sym guard_before)
        (subst (λ (line : List ℕ). Represents g p l (ready_with (with_line emptied n (q ∷ line))) (machine.change_places machine_emptied j q r)) (sym line_same) resumed_inside)

  -- ---- by what the queue has

  pub notifies_by : m.discipline.signals ≡ signals.Continue → (o : Option ℕ) → old_queue ≡ queue_value o → Represents g p l (meaning.notifying state_emptied n o) (machine.signal machine_on q j at)
  notifies_by rule o is = subst (λ (w : slot_signals.Signals). Represents g p l (meaning.notifying state_emptied n o) (machine.signal_by w (machine.waits_in machine_on at) machine_emptied q j)) (sym rule) (go o is)
    where
      go : (o : Option ℕ) → old_queue ≡ queue_value o → Represents g p l (meaning.notifying state_emptied n o) (machine.signal_by signals.Continue (machine.waits_in machine_on at) machine_emptied q j)
      go None free = subst (λ (w : Option ℕ). Represents g p l state_emptied (machine.signal_by signals.Continue w machine_emptied q j)) (sym (found_none free)) (none_on free)
      go (Some r) somebody = subst (λ (w : Option ℕ). Represents g p l (meaning.notifying state_emptied n (Some r)) (machine.signal_by signals.Continue w machine_emptied q j)) (sym (found_some r somebody)) (notifies r somebody)

  module _ (move : Move) where
    abbrev doing : Doing
    doing = record { calls = before.calls; items = zs; components = emptied; move = move }

    yields_to : (o : Option ℕ) → old_queue ≡ queue_value o → Represents g p l (meaning.yielding s q n doing o) (machine.signal_by signals.Wait (machine.waits_in machine_on at) machine_emptied q j)
    yields_to None free = subst (λ (w : Option ℕ). Represents g p l state_emptied (machine.signal_by signals.Wait w machine_emptied q j)) (sym (found_none free)) (none_on free)
    yields_to (Some r) somebody = subst (λ (w : Option ℕ). Represents g p l (meaning.yielding s q n doing (Some r)) (machine.signal_by signals.Wait w machine_emptied q j)) (sym (found_some r somebody)) (yields r somebody move)

    pub yields_by : m.discipline.signals ≡ signals.Wait → (o : Option ℕ) → old_queue ≡ queue_value o → Represents g p l (meaning.yielding s q n doing o) (machine.signal machine_on q j at)
    yields_by rule o is = subst (λ (w : slot_signals.Signals). Represents g p l (meaning.yielding s q n doing o) (machine.signal_by w (machine.waits_in machine_on at) machine_emptied q j)) (sym rule) (yields_to o is)
