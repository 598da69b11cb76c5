-- A process that was not started begins, with its parameters bound.
use Rattle.std.proofs.Common.{◌≡◌, ◌≢◌, ◌∙◌, ℕ, ◌<◌, List, [], ap, sym, refl, subst, arith, length}
use Rattle.cp_machine_laws.proofs.Words.{◌&&◌, not, slice_set, Program, Argument, ComponentKind, IsItself, Bound, Memory, Machine, Thread}
use Rattle.cp_machine_laws.proofs.Words.{thread_at, unstarted_thread, Parameter, system_of, begun, Layouts, Ground, AreHanded}
use Rattle.cp_slots.specs.declared.tables.ComponentKind.TheVariants as kind
use Rattle.cp_slots.specs.Tables.{component_at, process_at, system_at}
use Rattle.cp_machine.specs.declared.process.Status as slot_status
use Rattle.cp_machine.specs.declared.process.Status.TheVariants as status
use Rattle.cp_meaning.specs.State as named
use Rattle.cp_meaning.specs.State.{Environment, ComponentStatus, uninitialised, unstarted, Call, Process, State, has_entry, is_inside, waits_at}
use Rattle.cp_machine_laws.specs.Represents.{StatusIs, ProcessIs, HasBegun, Runs, Represents}
use Rattle.cp_machine_laws.proofs.starts.Begun.{CanBegin, begun_runs}
use Rattle.cp_machine_laws.proofs.starts.Handed.{CanStart, memory, bindings, components_after, count, line_same, components_stand, queue_kept}
use Rattle.cp_machine_laws.proofs.control.Moving.{inside_same, monitor_from, there_process, counts_stand, processes_stand, queues_stand}

module _ (g : Ground) (p : Program) (l : Layouts) (s : State) (m : Machine) (rep : Represents g p l s m) (mem : Memory) (d : ℕ) (qs : List Parameter) (can : CanStart g l m.permanents m.bindings mem d qs)
    (e : Environment) (xs : List Argument) (bs : List Bound) (given : AreHanded mem (component_at g.tables d).base (system_at g.tables (component_at g.tables d).system).own (l.systems (component_at g.tables d).system).slots qs e xs bs)
    (r : ℕ) (begins : CanBegin g p l d (component_at g.tables d).system (process_at g.tables r)) (there : r < length s.processes) (was : (named.process_at s.processes r).status ≡ unstarted) where
  abbrev before : Process
  before = named.process_at s.processes r

  abbrev same_status : ComponentStatus
  same_status = (named.component_at s.components d).status

  abbrev new_process : Process
  new_process = begun d (system_of p (component_at g.tables d).system)

  abbrev new_thread : Thread
  new_thread = record (thread_at m.threads r) { status = status.Ready }

  abbrev pub state_begun : State
  state_begun = record s { processes = slice_set s.processes r new_process; components = components_after g p l s m rep mem d qs can e xs bs given same_status }

  abbrev pub machine_begun : Machine
  machine_begun = record m { permanents = (memory g p l s m rep mem d qs can e xs bs given same_status).permanents; bindings = bindings g p l s m rep mem d qs can e xs bs given same_status; threads = slice_set m.threads r new_thread }

  -- what an unstarted process has
  still : (before.calls ≡ []) × (before.items ≡ []) × (thread_at m.threads r ≡ unstarted_thread g.tables (process_at g.tables r))
  still = go (thread_at m.threads r).status (subst (λ w. StatusIs g p l r before (thread_at m.threads r) w (thread_at m.threads r).status) was (rep.processes r there).status)
    where
      go : (w : slot_status.Status) → StatusIs g p l r before (thread_at m.threads r) unstarted w → (before.calls ≡ []) × (before.items ≡ []) × (thread_at m.threads r ≡ unstarted_thread g.tables (process_at g.tables r))
      go status.Unstarted h = h
      go _ h = absurd h

  stands : ProcessIs g p l r new_process new_thread
  stands =
      record {
        component = sym begins.component;
        status = subst (λ (t : Thread). Runs g p l new_process (record t { status = status.Ready })) (sym still.2) (begun_runs g p l d (component_at g.tables d).system (process_at g.tables r) begins);
      }

  -- no other component begins
  begun_before : (i : ℕ) → i < length g.tables.components → i ≢ d → (c : ComponentKind) → (component_at g.tables i).kind ≡ c → (w : ComponentStatus) → HasBegun state_begun c w → HasBegun s c w
  begun_before i less f (kind.Process a) z w b = λ u. b (ap (λ (x : Process). x.status) (there_process g p l s m rep r there new_process new_thread a other) ∙ u)
    where
      other : a ≢ r
      other same =
          let itself : (process_at g.tables a).component ≡ i = subst (λ c. IsItself g.tables c i) z (can.typed.components i less).itself in
          f (sym itself ∙ (ap (λ k. (process_at g.tables k).component) same ∙ begins.component))
  begun_before i less f (kind.Monitor a) z uninitialised b = b
  begun_before i less f kind.Class z uninitialised b = b
  begun_before i less f _ z _ b = b

  -- it is inside of no monitor, as it was
  outside : (i : ℕ) → is_inside i new_process ≡ is_inside i before
  outside i = sym (ap (λ (cs : List Call). has_entry i cs && not (waits_at i before.status)) still.0)

  pub process_begun : Represents g p l state_begun machine_begun
  process_begun =
      record {
        process_count = counts_stand g p l s m rep r there new_process new_thread;
        component_count = count g p l s m rep mem d qs can e xs bs given same_status ∙ rep.component_count;
        processes = processes_stand g p l s m rep r there new_process new_thread stands;
        components = components_stand g p l s m rep mem d qs can e xs bs given same_status state_begun machine_begun (rep.components d (let a = rep.component_count in let b = can.there in omega (arith, a, b))).phase (λ i f. refl)
            (λ i less f w b. begun_before i less f (component_at g.tables i).kind refl w b);
        monitors = λ i h. monitor_from s state_begun m machine_begun i (component_at g.tables i).kind refl (line_same g p l s m rep mem d qs can e xs bs given same_status i) (λ a f. inside_same i r new_process s.processes (outside i) there)
            (rep.monitors i (let a = count g p l s m rep mem d qs can e xs bs given same_status in omega (arith, a, h)));
        queues = queues_stand g p l s m rep r there new_process new_thread (λ i f. (let w = was in cc)) (λ i f. cc) state_begun machine_begun (λ v x i a c f h. queue_kept g p l s m rep mem d qs can e xs bs given same_status v x i a c f h);
        pending = rep.pending;
        discipline = rep.discipline;
        output = rep.output;
      }
