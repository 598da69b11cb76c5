-- A call is opened: its frame stands above those of its callers, and its end returns to the caller.
use Rattle.std.proofs.Common.{◌≡◌, ◌∙◌, ℕ, ◌+◌, ◌<◌, ◌==◌, true, false, List, [], ◌∷◌, ◌++◌, append_assoc, Option, Some, None, ap, sym, refl, subst, arith, length}
use Rattle.cp_machine_laws.proofs.Words.{◌&&◌, ◌||◌, ℤ, slice_set, Program, Argument, component_at, routine_at, Bound, Frame, bind_frame, Memory, Entry}
use Rattle.cp_machine_laws.proofs.Words.{Return, frame_behind, StackFits, size_of, Machine, Thread, no_thread, monitor_at, thread_at, with_thread, rest_of, Name}
use Rattle.cp_machine_laws.proofs.Words.{RoutineMeaning, items_of_all, Doing, enters, first_inside, Layouts, here, cell_named, first_values, RoutineIs, Ground, result_cell}
use Rattle.cp_machine_laws.proofs.Words.{ResultGoes, AreBound, memory_at, add_frame, with_memory, least_of, least_result}
use Rattle.std.proofs.lemmas.Bool.{eq-eqb}
use Rattle.cp_slots.specs.declared.tables.ComponentKind.TheVariants as kind
use Rattle.cp_machine.specs.declared.event.Event.TheVariants as event
use Rattle.cp_machine.specs.declared.event.Kernel.TheVariants as event_call
use Rattle.cp_machine.specs.declared.process.Status.TheVariants as status
use Rattle.cp_machine.specs.Calls as calls
use Rattle.cp_machine.specs.Kernel as machine
use Rattle.cp_machine.specs.Statements as statements
use Rattle.cp_meaning.specs.State as named
use Rattle.cp_meaning.specs.State.{ready, at_gate, Status, Environment, CallKind, local_routine, entry_routine, Call, Item, return, Process, State, has_entry, is_entry_kind}
use Rattle.cp_meaning.specs.Kernel as meaning
use Rattle.cp_meaning.specs.Calls.{last_checks}
use Rattle.cp_meaning.specs.Kernel.{local_event, enter_event, is_anybody_inside}
use Rattle.cp_machine_laws.specs.Represents.{StackIs, ProcessIs, Runs, monitor_left, CallIs, CallsHold, MonitorIs, frames_of, own_memory, Represents}
use Rattle.cp_machine_laws.proofs.assignments.Assigning.{set_set}
use Rattle.cp_machine_laws.proofs.control.Control.{Goes, StepIs}
use Rattle.cp_machine_laws.proofs.calls.FramesBelow.{lie_lower, frames_lie, calls_below}
use Rattle.cp_machine_laws.proofs.gates.Gates as gates
use Rattle.cp_machine_laws.proofs.gates.Gates.{OwnNumbers, HasCalled, nobody_inside, somebody_inside}
use Rattle.cp_machine_laws.proofs.control.Lists.{body_items, stack_rest, frames_rest}
use Rattle.cp_machine_laws.proofs.control.Moving.{set_here, stands_ready, goes_ready}
use Rattle.cp_machine_laws.proofs.calls.NewFrame.{CanOpen, bound_memory, binds_all, holds_new}
use Rattle.cp_machine_laws.proofs.control.Running.{calls_alike}
use Rattle.cp_machine_laws.proofs.expressions.Members.{not_equal as differs}

-- what has to be known of a process that calls a routine in a component
pub record CanCall (g : Ground) (p : Program) (l : Layouts) (m : Machine) (q number d : ℕ) (es : List Entry) : Type 0 where
  pub routines : (n : ℕ) → n < length g.tables.routines → RoutineIs g p l n
  pub known : number < length g.tables.routines
  pub there : d < length g.tables.components
  pub owner : l.owners number ≡ (component_at g.tables d).system
  pub opens : CanOpen g p l (memory_at m q) (frame_behind g.tables (thread_at m.threads q) number d)
  pub fits : StackFits g.tables (thread_at m.threads q).frame es
  pub cells : length (thread_at m.threads q).cells ≡ (thread_at m.threads q).frame.base + size_of g.tables (thread_at m.threads q).frame.routine
  pub references : length (thread_at m.threads q).references ≡ (thread_at m.threads q).frame.references + (routine_at g.tables (thread_at m.threads q).frame.routine).references

module _ (g : Ground) (p : Program) (l : Layouts) (s : State) (m : Machine) (q : ℕ) (es : List Entry) (k : Goes g p l s m q es)
    (zs : List Item) (rest : List Entry) (is : StackIs g p l (thread_at m.threads q).frame (named.process_at s.processes q).calls zs rest) (same : frames_of (thread_at m.threads q).frame rest ≡ frames_of (thread_at m.threads q).frame es)
    (number d : ℕ) (can : CanCall g p l m q number d es) (o : Option Name) (goes : ResultGoes (here p l (thread_at m.threads q).frame.routine) o (l.meanings number).result)
    (e : Environment) (xs : List Argument) (bs : List Bound)
    (given : AreBound g.tables l (frames_of (thread_at m.threads q).frame es) (memory_at m q) (cell_named (l.frames number)) (l.meanings number).parameters e xs bs) where
  abbrev before : Process
  before = named.process_at s.processes q

  abbrev thread : Thread
  thread = thread_at m.threads q

  abbrev meaning_of : RoutineMeaning
  meaning_of = l.meanings number

  abbrev slot : Option ℕ
  slot = result_cell (here p l thread.frame.routine) o

  abbrev frame : Frame
  frame = frame_behind g.tables thread number d

  abbrev frames : List Frame
  frames = frames_of thread.frame es

  -- ---- the call on names, and the process and the thread after it

  abbrev pub new_call : CallKind → Call
  new_call c = record { component = d; kind = c; scope = meaning_of.scope; environment = e ++ least_of meaning_of.variables ++ least_result meaning_of.result }

  abbrev pub new_process : Status → CallKind → Process
  new_process u c = record { component = before.component; status = u; calls = new_call c ∷ before.calls; items = items_of_all meaning_of.scope meaning_of.body ++ last_checks meaning_of.checks meaning_of.scope ++ return o ∷ zs }

  abbrev memory : Memory
  memory = bound_memory g p l frames (memory_at m q) frame can.opens e xs bs given

  abbrev pub new_thread : Option ℕ → Thread
  new_thread monitor = record thread { frame = frame; stack = rest_of (routine_at g.tables number).body (Return thread.frame slot monitor ∷ rest); cells = memory.cells; references = memory.references }

  environment_is : (c : CallKind) → (new_call c).environment ≡ e ++ first_values meaning_of
  environment_is c = append_assoc e (least_of meaning_of.variables) (least_result meaning_of.result)

  call_is : (c : CallKind) → CallIs g.tables l (new_call c) frame
  call_is c = record { routine = can.known; component = refl; there = can.there; own = refl; owner = can.owner; scope = refl }

  callers_hold : CallsHold g.tables l memory before.calls frames
  callers_hold =
      let binds = binds_all g p l frames (memory_at m q) frame can.opens e xs bs given in
      calls_below g p l can.routines (own_memory thread) memory (length thread.cells) (length thread.references)
      (record { there = (let a = binds.many in omega (arith, a)); cells = binds.below; references = binds.before }) before.calls frames
      (lie_lower g.tables (thread.frame.base + size_of g.tables thread.frame.routine) (thread.frame.references + (routine_at g.tables thread.frame.routine).references) (length thread.cells) (length thread.references) frames
      (let a = can.cells in omega (arith, a)) (let a = can.references in omega (arith, a)) (frames_lie g.tables thread.frame es can.fits)) k.calls

  calls_hold : (c : CallKind) (monitor : Option ℕ) → CallsHold g.tables l (own_memory (new_thread monitor)) (new_call c ∷ before.calls) (frame ∷ frames)
  calls_hold c monitor =
      calls_alike g.tables l memory (own_memory (new_thread monitor)) (new_call c ∷ before.calls) (frame ∷ frames) refl refl
      (call_is c, holds_new g p l frames (memory_at m q) frame can.opens e xs bs given (new_call c) (environment_is c), callers_hold)

  stack_stands : (c : CallKind) (monitor : Option ℕ) → monitor ≡ monitor_left g.tables (new_call c) c (component_at g.tables d).kind →
      StackIs g p l frame (new_call c ∷ before.calls) (items_of_all meaning_of.scope meaning_of.body ++ last_checks meaning_of.checks meaning_of.scope ++ return o ∷ zs) (rest_of (routine_at g.tables number).body (Return thread.frame slot monitor ∷ rest))
  stack_stands c monitor left =
      stack_rest g p l frame (new_call c ∷ before.calls) (routine_at g.tables number).body (items_of_all meaning_of.scope meaning_of.body ++ last_checks meaning_of.checks meaning_of.scope) (return o ∷ zs) (Return thread.frame slot monitor ∷ rest)
      (body_items g (here p l number) (routine_at g.tables number).body meaning_of.body meaning_of.checks (can.routines number can.known).body)
      (new_call c, before.calls, o, zs, refl, refl, (refl, goes, left), is)

  pub runs_new : (u : Status) (c : CallKind) (monitor : Option ℕ) → monitor ≡ monitor_left g.tables (new_call c) c (component_at g.tables d).kind → Runs g p l (new_process u c) (new_thread monitor)
  runs_new u c monitor left =
      record {
        stack = stack_stands c monitor left;
        calls = subst (λ fs. CallsHold g.tables l (own_memory (new_thread monitor)) (new_call c ∷ before.calls) fs) (sym (frames_rest frame (routine_at g.tables number).body (Return thread.frame slot monitor ∷ rest) ∙ ap (λ fs. frame ∷ fs) same)) (calls_hold c monitor);
      }

  -- ---- the machine after it

  there_thread : q < length m.threads
  there_thread = let a = k.there in let b = k.rep.process_count in omega (arith, a, b)

  pub machine_is : (monitor : Option ℕ) → calls.open_call g.tables m q number d xs bs slot monitor rest ≡ with_thread m q (new_thread monitor)
  machine_is monitor =
      let top : Thread = add_frame (record thread { frame = frame; stack = rest_of (routine_at g.tables number).body (Return thread.frame slot monitor ∷ rest) }) (routine_at g.tables number) in
      let binds = binds_all g p l frames (memory_at m q) frame can.opens e xs bs given in
      ap (λ (w : Thread). with_memory (with_thread m q top) q (bind_frame (record { permanents = m.permanents; cells = w.cells; references = w.references }) w.frame xs bs)) (set_here m.threads q top no_thread there_thread)
      ∙ (ap (λ (w : Thread). record m { permanents = memory.permanents; threads = slice_set (slice_set m.threads q top) q (record w { cells = memory.cells; references = memory.references }) }) (set_here m.threads q top no_thread there_thread)
      ∙ (ap (λ (ts : List Thread). record m { permanents = memory.permanents; threads = ts }) (set_set m.threads q top (new_thread monitor))
      ∙ ap (λ (cs : List ℤ). record m { permanents = cs; threads = slice_set m.threads q (new_thread monitor) }) binds.permanents))

  -- ---- a call of the component itself, or of an entry of a class

  -- no monitor is entered
  abbrev Outside : CallKind → Type 0
  Outside c = (n j : ℕ) → (component_at g.tables n).kind ≡ kind.Monitor j → (is_entry_kind c && d == n) ≡ false

  stands_new : (c : CallKind) (monitor : Option ℕ) → monitor ≡ monitor_left g.tables (new_call c) c (component_at g.tables d).kind → ProcessIs g p l q (new_process ready c) (new_thread monitor)
  stands_new c monitor left = stands_ready g p l s m q k.rep k.there k.was k.was_slot (new_call c ∷ before.calls) (items_of_all meaning_of.scope meaning_of.body ++ last_checks meaning_of.checks meaning_of.scope ++ return o ∷ zs) (new_thread monitor) refl (runs_new ready c monitor left)

  pub called_outside : (line : ℕ) (c : CallKind) → Outside c → monitor_left g.tables (new_call c) c (component_at g.tables d).kind ≡ None →
      StepIs g p l q line (record { state = record s { processes = slice_set s.processes q (new_process ready c) }; event = local_event }) (statements.local (calls.open_call g.tables m q number d xs bs slot None rest))
  called_outside line c out none =
      record {
        state = subst (λ w. Represents g p l (record s { processes = slice_set s.processes q (new_process ready c) }) w) (sym (machine_is None))
            (goes_ready g p l s m q k.rep k.there k.was k.was_slot (new_call c ∷ before.calls) (items_of_all meaning_of.scope meaning_of.body ++ last_checks meaning_of.checks meaning_of.scope ++ return o ∷ zs) (new_thread None) refl (runs_new ready c None (sym none))
            (λ n j f. ap (λ b. b || has_entry n before.calls) (out n j f)));
        event = refl;
      }

  -- a routine of the component itself
  pub called_inside : (line : ℕ) → StepIs g p l q line (record { state = record s { processes = slice_set s.processes q (new_process ready local_routine) }; event = local_event }) (statements.local (calls.open_call g.tables m q number d xs bs slot None rest))
  called_inside line = called_outside line local_routine (λ n j f. refl) refl

  -- an entry of a class
  pub called_class : (line : ℕ) → (component_at g.tables d).kind ≡ kind.Class → StepIs g p l q line (record { state = record s { processes = slice_set s.processes q (new_process ready entry_routine) }; event = local_event }) (statements.local (calls.open_call g.tables m q number d xs bs slot None rest))
  called_class line class = called_outside line entry_routine (λ n j f. differs d n (λ a. absurd (let w : (component_at g.tables d).kind ≡ kind.Monitor j = ap (λ i. (component_at g.tables i).kind) a ∙ f in cc))) (ap (monitor_left g.tables (new_call entry_routine) entry_routine) class)

  -- ---- an entry of a monitor: the caller goes in if nobody is inside, and else to the end of the line

  module _ (j : ℕ) (monitor : (component_at g.tables d).kind ≡ kind.Monitor j) (own : OwnNumbers g) (known : j < length m.monitors) (fresh : has_entry d before.calls ≡ false) where
    there_component : d < length s.components
    there_component = let a = can.there in let b = k.rep.component_count in omega (arith, a, b)

    left : Some j ≡ monitor_left g.tables (new_call entry_routine) entry_routine (component_at g.tables d).kind
    left = sym (ap (monitor_left g.tables (new_call entry_routine) entry_routine) monitor)

    has_called : (u : Status) → HasCalled d (new_process u entry_routine) before
    has_called u =
        record {
          entry = ap (λ b. b || has_entry d before.calls) (eq-eqb d d refl);
          others = λ n other. ap (λ b. b || has_entry n before.calls) (differs d n (λ a. other (sym a)));
          fresh = fresh;
        }

    abbrev waiting_thread : Thread
    waiting_thread = record (new_thread (Some j)) { status = status.AtGate j }

    stands_waiting : ProcessIs g p l q (new_process (at_gate d) entry_routine) waiting_thread
    stands_waiting =
        let runs = runs_new (at_gate d) entry_routine (Some j) left in
        record { component = (k.rep.processes q k.there).component; status = (monitor, record { stack = runs.stack; calls = runs.calls }) }

    -- who is inside on names is the holder
    by_holder : (w : Option ℕ) → first_inside d s.processes ≡ w →
        Represents g p l (meaning.entering (is_anybody_inside d s.processes) s q d (record { calls = new_call entry_routine ∷ before.calls; items = items_of_all meaning_of.scope meaning_of.body ++ last_checks meaning_of.checks meaning_of.scope ++ return o ∷ zs; components = s.components; move = enters d })) (machine.enter_by w (with_thread m q (new_thread (Some j))) q j)
    by_holder None free =
        subst (λ b. Represents g p l (meaning.entering b s q d doing) (machine.enter_by None (with_thread m q (new_thread (Some j))) q j)) (sym (nobody_inside d s.processes free))
        (gates.enters_free g p l s m q (new_process ready entry_routine) (new_thread (Some j)) d j k.rep own monitor known there_component k.there k.was k.was_slot (has_called ready) free refl (stands_new entry_routine (Some j) left))
      where
        doing : Doing
        doing = record { calls = new_call entry_routine ∷ before.calls; items = items_of_all meaning_of.scope meaning_of.body ++ last_checks meaning_of.checks meaning_of.scope ++ return o ∷ zs; components = s.components; move = enters d }
    by_holder (Some r) busy =
        subst (λ b. Represents g p l (meaning.entering b s q d doing) (machine.enter_by (Some r) (with_thread m q (new_thread (Some j))) q j)) (sym (somebody_inside d r s.processes busy))
        (subst (λ w. Represents g p l (meaning.entering true s q d doing) w) (sym machine_waits)
        (gates.enters_busy g p l s m q (new_process (at_gate d) entry_routine) waiting_thread d j k.rep own monitor known there_component k.there k.was k.was_slot (has_called (at_gate d)) r busy refl stands_waiting))
      where
        doing : Doing
        doing = record { calls = new_call entry_routine ∷ before.calls; items = items_of_all meaning_of.scope meaning_of.body ++ last_checks meaning_of.checks meaning_of.scope ++ return o ∷ zs; components = s.components; move = enters d }

        machine_waits : machine.enter_by (Some r) (with_thread m q (new_thread (Some j))) q j ≡ record m { threads = slice_set m.threads q waiting_thread; monitors = slice_set m.monitors j (record { holder = Some r; line = (monitor_at m j).line ++ q ∷ [] }) }
        machine_waits =
            ap (λ (w : Thread). record m { threads = slice_set (slice_set m.threads q (new_thread (Some j))) q (record w { status = status.AtGate j }); monitors = slice_set m.monitors j (record { holder = Some r; line = (monitor_at m j).line ++ q ∷ [] }) }) (set_here m.threads q (new_thread (Some j)) no_thread there_thread)
            ∙ ap (λ (ts : List Thread). record m { threads = ts; monitors = slice_set m.monitors j (record { holder = Some r; line = (monitor_at m j).line ++ q ∷ [] }) }) (set_set m.threads q (new_thread (Some j)) waiting_thread)

    holder_same : (monitor_at m j).holder ≡ first_inside d s.processes
    holder_same = (subst (MonitorIs s m d) monitor (k.rep.monitors d there_component)).1

    pub called_monitor : (line : ℕ) →
        StepIs g p l q line (record { state = meaning.entering (is_anybody_inside d s.processes) s q d (record { calls = new_call entry_routine ∷ before.calls; items = items_of_all meaning_of.scope meaning_of.body ++ last_checks meaning_of.checks meaning_of.scope ++ return o ∷ zs; components = s.components; move = enters d }); event = enter_event })
        (record { machine = machine.enter_caller (calls.open_call g.tables m q number d xs bs slot (Some j) rest) q j; event = event.Kernel event_call.Enter })
    called_monitor line =
        record {
          state = subst (λ w. Represents g p l (meaning.entering (is_anybody_inside d s.processes) s q d (record { calls = new_call entry_routine ∷ before.calls; items = items_of_all meaning_of.scope meaning_of.body ++ last_checks meaning_of.checks meaning_of.scope ++ return o ∷ zs; components = s.components; move = enters d })) (machine.enter_caller w q j)) (sym (machine_is (Some j)))
              (by_holder (monitor_at m j).holder (sym holder_same));
          event = refl;
        }
