-- The whole step that starts a class or monitor: its parameters are bound, and its initial statement is executed.
use Rattle.cp_machine_laws.proofs.Words.{◌≡◌, ◌∙◌, ℕ, ◌<◌, Bool, true, false, if◌then◌else◌, List, ◌++◌, Option, ap, sym, refl, subst, arith, length, ℤ, Ok, Err}
use Rattle.cp_machine_laws.proofs.Words.{replicate, slice_index, slice_set, SystemKind, Program, Start, Argument, ComponentKind, component_at}
use Rattle.cp_machine_laws.proofs.Words.{routine_at, system_at, Bound, bind_component, bindings_after, Memory, nowhere, Entry, InitEnd, Phase, frame_behind, rest_of}
use Rattle.cp_machine_laws.proofs.Words.{step_at, Parameter, system_of, View, at_designator, view_of, step_of, settled, Layouts}
use Rattle.cp_machine_laws.proofs.Words.{initial_meaning, Ground, SameKind, PhaseIs, frames_of}
use Rattle.cp_machine_laws.proofs.Words.{Represents, length-append, length-replicate, Machine, Thread, no_thread, thread_at, phase_at, with_phase, with_bindings, with_thread}
use Rattle.cp_machine_laws.proofs.Words.{init_twice, Environment, ComponentStatus, uninitialised, initialising, initialised, Item, start_item, Process, State}
use Rattle.cp_tree.specs.declared.declaration.SystemKind.TheVariants as system_kind
use Rattle.cp_slots.specs.declared.tables.ComponentKind.TheVariants as kind
use Rattle.cp_store.specs.declared.error.ErrorName.TheVariants as error
use Rattle.cp_machine.specs.declared.state.Phase.TheVariants as phase
use Rattle.cp_machine.specs.Calls as calls
use Rattle.cp_machine.specs.Machine as slot_machine
use Rattle.cp_machine.specs.Memory.{memory_at, with_memory, parameters_bound}
use Rattle.cp_machine.specs.Statements as statements
use Rattle.cp_meaning.specs.State as named
use Rattle.cp_meaning.specs.Calls.{initial, is_uninitialised, initialised_in, started_as}
use Rattle.cp_machine_laws.proofs.assignments.Assigning.{set_set}
use Rattle.cp_machine_laws.proofs.calls.Calling.{CanCall}
use Rattle.cp_machine_laws.proofs.control.Control.{Taken, Goes, StepIs, goes, stack_after, fails}
use Rattle.cp_machine_laws.proofs.starts.Handed as handed
use Rattle.cp_machine_laws.proofs.starts.Handed.{CanStart, hands}
use Rattle.cp_machine_laws.proofs.starts.InitialOpened.{HasMore, all_more, process_in, thread_in, initial_opened, has_more}
use Rattle.cp_machine_laws.proofs.control.Lists.{frames_rest}
use Rattle.cp_machine_laws.proofs.control.Moving.{set_here, set_there, begun_from, monitor_from}
use Rattle.cp_machine_laws.proofs.calls.NewFrame.{new_memory}
use Rattle.cp_machine_laws.proofs.starts.ProcessStarts.{memory_with}
use Rattle.cp_machine_laws.proofs.starts.Starting as starting

module _ (g : Ground) (p : Program) (l : Layouts) (s : State) (m : Machine) (q at : ℕ) (t : Start) (mid : Option ℕ) (es : List Entry) (xs ys : List Item) (k : Taken g p l s m q at (start_item t) mid es xs ys) where
  abbrev view : View
  view = view_of p s q

  abbrev line : ℕ
  line = slice_index g.lines (at_designator t.target)

  abbrev routine : ℕ
  routine = (l.systems k.own.system).initial

  abbrev IsFound : ℕ → Type 0
  IsFound d = starting.IsFound g p l s m q at t mid es xs ys k d

  abbrev parameters_of : ℕ → List Parameter
  parameters_of d = (system_of p (component_at g.tables d).system).parameters

  abbrev AreGivenTo : Memory → ℕ → Environment → List Argument → List Bound → Type 0
  AreGivenTo mem d e as' bs = starting.AreGivenTo g p l s m q at t mid es xs ys k mem d e as' bs

  -- what has to be known of the component that is started, which is a class or a monitor
  pub record InitialKnown : Type 0 where
    pub start : starting.CanBeStarted g p l s m q at t mid es xs ys k
    pub call : (d : ℕ) → IsFound d → CanCall g p l m q routine d es
    pub statement : (d : ℕ) → IsFound d → l.meanings routine ≡ initial_meaning (system_of p (component_at g.tables d).system)
    pub no_process : (d r : ℕ) → IsFound d → (component_at g.tables d).kind ≡ kind.Process r → ⊥
    pub phases : (d : ℕ) → IsFound d → d < length m.phases

  module _ (initial_known : InitialKnown) (as' : List Argument) (d : ℕ) (is_found : IsFound d) where
    abbrev rest : List Entry
    rest = rest_of mid es

    abbrev thread : Thread
    thread = thread_at m.threads q

    abbrev going : Goes g p l s m q es
    going = goes g p l s m q at (start_item t) mid es xs ys k

    abbrev can_call : CanCall g p l m q routine d es
    can_call = initial_known.call d is_found

    abbrev Inside : Process
    Inside = process_in g p l s m q es going (xs ++ ys) rest (stack_after g p l s m q at (start_item t) mid es xs ys k) (frames_rest thread.frame mid es) routine d (component_at g.tables d).system can_call (initial_known.statement d is_found)

    abbrev Above : Thread
    Above = thread_in g p l s m q es going (xs ++ ys) rest (stack_after g p l s m q at (start_item t) mid es xs ys k) (frames_rest thread.frame mid es) routine d (component_at g.tables d).system can_call (initial_known.statement d is_found)

    abbrev state_in : State
    state_in = record s { processes = slice_set s.processes q Inside }

    abbrev machine_in : Machine
    machine_in = with_thread m q Above

    rep_in : Represents g p l state_in machine_in
    rep_in = initial_opened g p l s m q es going (xs ++ ys) rest (stack_after g p l s m q at (start_item t) mid es xs ys k) (frames_rest thread.frame mid es) routine d (component_at g.tables d).system can_call (initial_known.statement d is_found)

    abbrev mem : Memory
    mem = new_memory g p l (frames_of thread.frame es) (memory_at m q) (frame_behind g.tables thread routine d) can_call.opens

    more : HasMore (memory_at m q) mem
    more = has_more g p l s m q es going (xs ++ ys) rest (stack_after g p l s m q at (start_item t) mid es xs ys k) (frames_rest thread.frame mid es) routine d (component_at g.tables d).system can_call (initial_known.statement d is_found)

    can_in : CanStart g l machine_in.permanents machine_in.bindings mem d (parameters_of d)
    can_in =
        let c = initial_known.start.can d is_found in
        record {
          there = c.there;
          same = refl;
          typed = c.typed;
          hand = record {
            cells = c.hand.cells;
            apart = c.hand.apart;
            inside = c.hand.inside;
            different = c.hand.different;
            few = record {
              permanents = c.hand.few.permanents;
              cells = (let a = length-append thread.cells (routine_at g.tables routine).image in let b = can_call.opens.few in omega (arith, a, b));
              references = (let a = length-append thread.references (replicate (routine_at g.tables routine).references nowhere) in let n = length-replicate (routine_at g.tables routine).references nowhere in let b = can_call.opens.few_references in omega (arith, a, n, b));
            };
            room = c.hand.room;
            numbers = c.hand.numbers;
          };
          cells = c.cells;
          inside = c.inside;
          parameters = c.parameters;
          distinct = c.distinct;
          not_both = c.not_both;
          closed = c.closed;
          unqueued = c.unqueued;
        }

    there_d : d < length s.components
    there_d = subst (λ n. d < n) (sym k.rep.component_count) can_call.there

    module _ (e : Environment) (bs : List Bound) (given : AreGivenTo (memory_at m q) d e as' bs) where
      given_in : AreGivenTo mem d e as' bs
      given_in = all_more (memory_at m q) mem (component_at g.tables d).base (system_at g.tables (component_at g.tables d).system).own (l.systems (component_at g.tables d).system).slots (parameters_of d) e as' bs more given

      abbrev bound_memory : Memory
      bound_memory = bind_component mem (component_at g.tables d).base as' bs

      abbrev numbers : List ℕ
      numbers = bindings_after m.bindings (component_at g.tables d).base as' bs

      abbrev state_started : State
      state_started = record state_in { components = handed.components_after g p l state_in machine_in rep_in mem d (parameters_of d) can_in e as' bs given_in initialising }

      abbrev machine_with : List ℤ → List Thread → Machine
      machine_with cells threads = record m { permanents = cells; bindings = numbers; phases = slice_set m.phases d phase.Initialising; threads = threads }

      abbrev machine_started : Machine
      machine_started = machine_with bound_memory.permanents machine_in.threads

      phase_agrees : (c : ComponentKind) → PhaseIs c initialising phase.Initialising
      phase_agrees (kind.Process r) = tt
      phase_agrees _ = tt

      started_stands : Represents g p l state_started machine_started
      started_stands =
          record {
            process_count = rep_in.process_count;
            component_count = handed.count g p l state_in machine_in rep_in mem d (parameters_of d) can_in e as' bs given_in initialising ∙ rep_in.component_count;
            processes = rep_in.processes;
            components = handed.components_stand g p l state_in machine_in rep_in mem d (parameters_of d) can_in e as' bs given_in initialising state_started machine_started
                (subst (λ w. PhaseIs (component_at g.tables d).kind initialising w) (sym (set_here m.phases d phase.Initialising phase.Uninitialised (initial_known.phases d is_found))) (phase_agrees (component_at g.tables d).kind))
                (λ i f. set_there m.phases d i phase.Initialising phase.Uninitialised f) (λ i less f w b. begun_from state_in state_started (λ j u. u) (component_at g.tables i).kind w b);
            monitors = λ i h. monitor_from state_in state_started machine_in machine_started i (component_at g.tables i).kind refl (handed.line_same g p l state_in machine_in rep_in mem d (parameters_of d) can_in e as' bs given_in initialising i) (λ j f. refl)
                (rep_in.monitors i (let a = handed.count g p l state_in machine_in rep_in mem d (parameters_of d) can_in e as' bs given_in initialising in omega (arith, a, h)));
            queues = record {
              waiting = λ r i a v h f z c.
                  (let w = rep_in.queues.waiting r i a (record { program = v.program; calls = v.calls; components = s.components }) h f z refl in
                  (w.0, w.1, w.2, handed.queue_kept g p l state_in machine_in rep_in mem d (parameters_of d) can_in e as' bs given_in initialising v w.0 i a c w.1 w.2 ∙ w.3));
              queued = λ x r i a v c f h w.
                  rep_in.queues.queued x r i a (record { program = v.program; calls = v.calls; components = s.components }) refl f h (sym (handed.queue_kept g p l state_in machine_in rep_in mem d (parameters_of d) can_in e as' bs given_in initialising v x i a c f h) ∙ w);
            };
            pending = rep_in.pending;
            discipline = rep_in.discipline;
            output = rep_in.output;
          }

      many : q < length m.threads
      many = let a = k.rep.process_count in let b = k.there in omega (arith, a, b)

      here_thread : thread_at machine_in.threads q ≡ Above
      here_thread = set_here m.threads q Above no_thread many

      machine_is : with_phase (parameters_bound machine_in q (component_at g.tables d).base as' bs) d phase.Initialising ≡ machine_started
      machine_is =
          let h = hands g p l state_in machine_in rep_in mem d (parameters_of d) can_in e as' bs given_in initialising in
          let same_memory : memory_at machine_in q ≡ mem = ap (λ (w : Thread). memory_with m.permanents w.cells w.references) here_thread in
          ap (λ (x : Memory). with_phase (with_bindings (with_memory machine_in q (bind_component x (component_at g.tables d).base as' bs)) numbers) d phase.Initialising) same_memory
          ∙ (ap (λ (w : Thread). machine_with bound_memory.permanents (slice_set machine_in.threads q (record w { cells = bound_memory.cells; references = bound_memory.references }))) here_thread
          ∙ (ap (λ cells. machine_with bound_memory.permanents (slice_set machine_in.threads q (record Above { cells = cells; references = bound_memory.references }))) h.cells
          ∙ (ap (λ refs. machine_with bound_memory.permanents (slice_set machine_in.threads q (record Above { references = refs }))) h.references
          ∙ ap (λ threads. machine_with bound_memory.permanents threads) (set_set m.threads q Above Above))))

      started_so : StepIs g p l q line (settled p s q (Ok (initial view d (system_of p (named.component_at s.components d).system) (xs ++ ys) e)))
          (statements.local (with_phase (parameters_bound (calls.open_frame g.tables m q routine d (InitEnd thread.frame d) rest) q (component_at g.tables d).base as' bs) d phase.Initialising))
      started_so =
          subst (λ n. StepIs g p l q line (settled p s q (Ok (initial view d (system_of p n) (xs ++ ys) e))) (statements.local (with_phase (parameters_bound machine_in q (component_at g.tables d).base as' bs) d phase.Initialising))) (sym (initial_known.start.system d is_found))
          (record { state = subst (λ w. Represents g p l state_started w) (sym machine_is) started_stands; event = refl })

      -- whether it was started before
      status_same : (c : ComponentKind) (u : ComponentStatus) (w : Phase) → ((r : ℕ) → c ≡ kind.Process r → ⊥) → PhaseIs c u w → is_uninitialised u ≡ slot_machine.is_uninitialised w
      status_same (kind.Process j) u w never h = absurd (never j refl)
      status_same (kind.Monitor j) uninitialised phase.Uninitialised never h = refl
      status_same (kind.Monitor j) initialising phase.Initialising never h = refl
      status_same (kind.Monitor j) initialised phase.Initialised never h = refl
      status_same kind.Class uninitialised phase.Uninitialised never h = refl
      status_same kind.Class initialising phase.Initialising never h = refl
      status_same kind.Class initialised phase.Initialised never h = refl
      status_same _ u w never h = absurd h

      inside_so : StepIs g p l q line (settled p s q (initialised_in view d (system_of p (named.component_at s.components d).system) (xs ++ ys) e)) (calls.start_inside g.tables m q line routine d as' bs rest)
      inside_so =
          subst (λ b. StepIs g p l q line (settled p s q (if b then Ok (initial view d (system_of p (named.component_at s.components d).system) (xs ++ ys) e) else Err init_twice)) (calls.start_inside g.tables m q line routine d as' bs rest))
          (sym (status_same (component_at g.tables d).kind (named.component_at s.components d).status (phase_at m d) (λ r f. initial_known.no_process d r is_found f) (k.rep.components d there_d).phase)) (go (slot_machine.is_uninitialised (phase_at m d)))
        where
          go : (b : Bool) → StepIs g p l q line (settled p s q (if b then Ok (initial view d (system_of p (named.component_at s.components d).system) (xs ++ ys) e) else Err init_twice))
              (if b then statements.local (with_phase (parameters_bound (calls.open_frame g.tables m q routine d (InitEnd thread.frame d) rest) q (component_at g.tables d).base as' bs) d phase.Initialising) else statements.fault m q line error.InitTwice)
          go true = started_so
          go false = fails g p l s m q at (start_item t) mid es xs ys k line init_twice error.InitTwice refl

      by_kind : (c : ComponentKind) → (component_at g.tables d).kind ≡ c → (a : SystemKind) → SameKind a c →
          StepIs g p l q line (settled p s q (started_as a view d (system_of p (named.component_at s.components d).system) (xs ++ ys) e)) (calls.start_by g.tables m q line c routine d as' bs rest)
      by_kind (kind.Monitor j) f system_kind.Monitor w = inside_so
      by_kind kind.Class f system_kind.Class w = inside_so
      by_kind (kind.Process r) f a w = absurd (initial_known.no_process d r is_found f)
      by_kind c f a w = absurd w

  pub start_initial_step : InitialKnown → StepIs g p l q line (step_of p s q) (step_at g.tables m q)
  start_initial_step known =
      starting.start_step g p l s m q at t mid es xs ys k known.start
      (λ d f as' e bs given. by_kind known as' d f e bs given (component_at g.tables d).kind refl (named.component_at s.components d).kind (known.start.kinds d (known.start.can d f).there))
