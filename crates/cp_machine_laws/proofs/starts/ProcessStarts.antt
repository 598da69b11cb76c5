-- The whole step that starts a process: the component's place first, then the arguments, and last whether it was started before.
use Rattle.std.proofs.Common.{◌≡◌, ◌∙◌, ℕ, zero, suc, ◌<◌, ◌==◌, if◌then◌else◌, List, [], ◌∷◌, ◌++◌, Option, Some, None, ap, sym, refl, subst, arith, length, length-set}
use Rattle.cp_machine_laws.proofs.Words.{ℤ, slice_index, slice_set, SystemKind, Program, Start, Argument, Bound}
use Rattle.cp_machine_laws.proofs.Words.{Address, bind_component, bindings_after, Memory, Entry, rest_of, step_at, Parameter, system_of, View}
use Rattle.cp_machine_laws.proofs.Words.{Doing, starts, after, process_of, at_designator, view_of, step_of, settled, Layouts, Ground}
use Rattle.cp_machine_laws.proofs.Words.{SameKind, StatusIs, Represents, init_twice, Environment, Item, start_item}
use Rattle.cp_machine_laws.proofs.Words.{unstarted, Status, Process, State, with_items, with_move, started_as}
use Rattle.cp_tree.specs.declared.declaration.SystemKind.TheVariants as system_kind
use Rattle.cp_slots.specs.declared.tables.ComponentKind.TheVariants as kind
use Rattle.cp_slots.specs.Tables.{component_at, process_at}
use Rattle.cp_store.specs.declared.error.ErrorName.TheVariants as error
use Rattle.cp_machine.specs.declared.event.Event.TheVariants as event
use Rattle.cp_machine.specs.declared.event.Kernel.TheVariants as event_call
use Rattle.cp_machine.specs.declared.process.Status as slot_status
use Rattle.cp_machine.specs.declared.process.Status.TheVariants as status
use Rattle.cp_machine.specs.Calls as calls
use Rattle.cp_machine.specs.Machine.{Machine, Thread, no_thread, thread_at, is_unstarted, with_stack, with_status, with_bindings}
use Rattle.cp_machine.specs.Memory.{memory_at, with_memory, parameters_bound}
use Rattle.cp_machine.specs.Statements as statements
use Rattle.cp_meaning.specs.State as named
use Rattle.cp_meaning.specs.Kernel as meaning
use Rattle.cp_machine_laws.proofs.assignments.Assigning.{set_set}
use Rattle.cp_machine_laws.proofs.starts.Begun.{CanBegin}
use Rattle.cp_machine_laws.proofs.starts.BegunProcess.{state_begun, process_begun}
use Rattle.cp_machine_laws.proofs.control.Control.{Taken, StepIs, goes, goes_on_to, still_process, fails}
use Rattle.cp_machine_laws.proofs.starts.Handed.{CanStart, hands}
use Rattle.cp_machine_laws.proofs.control.Moving.{set_here, set_keeps}
use Rattle.cp_machine_laws.proofs.starts.Starting as starting

-- the process of a component is the same whatever one process does
process_kept : (d q : ℕ) (x : Process) (ps : List Process) → x.component ≡ (named.process_at ps q).component → q < length ps → process_of d (slice_set ps q x) ≡ process_of d ps
process_kept d q x [] e h = absurd (omega arith)
process_kept d zero x (p ∷ ps) e h = ap (λ n. if n == d then Some 0 else after (process_of d ps)) e
process_kept d (suc q) x (p ∷ ps) e h = ap (λ (o : Option ℕ). if p.component == d then Some 0 else after o) (process_kept d q x ps e (omega arith))

abbrev pub memory_with : List ℤ → List ℤ → List Address → Memory
memory_with permanents cells references = record { permanents = permanents; cells = cells; references = references }

module _ (g : Ground) (p : Program) (l : Layouts) (s : State) (m : Machine) (q at : ℕ) (t : Start) (mid : Option ℕ) (es : List Entry) (xs ys : List Item) (k : Taken g p l s m q at (start_item t) mid es xs ys) where
  abbrev view : View
  view = view_of p s q

  abbrev line : ℕ
  line = slice_index g.lines (at_designator t.target)

  abbrev IsFound : ℕ → Type 0
  IsFound d = starting.IsFound g p l s m q at t mid es xs ys k d

  abbrev parameters_of : ℕ → List Parameter
  parameters_of d = (system_of p (component_at g.tables d).system).parameters

  abbrev AreGivenTo : ℕ → Environment → List Argument → List Bound → Type 0
  AreGivenTo d e as' bs = starting.AreGivenTo g p l s m q at t mid es xs ys k (memory_at m q) d e as' bs

  -- what has to be known of the component that is started, which is a process
  pub record ProcessKnown : Type 0 where
    pub start : starting.CanBeStarted g p l s m q at t mid es xs ys k
    -- the process of the component, on slots and on names
    pub number : ℕ → ℕ
    pub process : (d : ℕ) → IsFound d → (component_at g.tables d).kind ≡ kind.Process (number d)
    pub known : (d : ℕ) → IsFound d → number d < length s.processes
    pub same : (d : ℕ) → IsFound d → process_of d s.processes ≡ Some (number d)
    pub begins : (d : ℕ) → IsFound d → CanBegin g p l d (component_at g.tables d).system (process_at g.tables (number d))

  module _ (process_known : ProcessKnown) (as' : List Argument) (d : ℕ) (is_found : IsFound d) where
    abbrev r : ℕ
    r = process_known.number d

    abbrev rest : List Entry
    rest = rest_of mid es

    abbrev doing : Environment → Doing
    doing e = with_move (with_items view (xs ++ ys)) (starts d e)

    -- ---- the caller goes on

    abbrev state_on : State
    state_on = record s { processes = slice_set s.processes q (still_process g p l s m q es (goes g p l s m q at (start_item t) mid es xs ys k) (xs ++ ys)) }

    abbrev machine_on : Machine
    machine_on = with_stack m q rest

    rep_on : Represents g p l state_on machine_on
    rep_on = goes_on_to g p l s m q at (start_item t) mid es xs ys k None [] refl

    many : q < length m.threads
    many = let a = k.rep.process_count in let b = k.there in omega (arith, a, b)

    here_thread : thread_at machine_on.threads q ≡ record (thread_at m.threads q) { stack = rest }
    here_thread = set_here m.threads q (record (thread_at m.threads q) { stack = rest }) no_thread many

    can_on : CanStart g l m.permanents m.bindings (memory_at m q) d (parameters_of d)
    can_on = process_known.start.can d is_found

    there_r : r < length state_on.processes
    there_r = let a = length-set s.processes q (still_process g p l s m q es (goes g p l s m q at (start_item t) mid es xs ys k) (xs ++ ys)) in let b = process_known.known d is_found in omega (arith, a, b)

    -- a status is not changed by another stack
    status_same : (thread_at machine_on.threads r).status ≡ (thread_at m.threads r).status
    status_same = set_keeps (λ (w : Thread). w.status) m.threads q (record (thread_at m.threads q) { stack = rest }) no_thread many refl r

    -- ---- the machine of the definitions

    module _ (e : Environment) (bs : List Bound) (given : AreGivenTo d e as' bs) where
      abbrev bound_memory : Memory
      bound_memory = bind_component (memory_at m q) (component_at g.tables d).base as' bs

      abbrev numbers : List ℕ
      numbers = bindings_after m.bindings (component_at g.tables d).base as' bs

      abbrev begun_machine : (List ℤ) → List Thread → Machine
      begun_machine cells threads = record machine_on { permanents = cells; bindings = numbers; threads = slice_set threads r (record (thread_at threads r) { status = status.Ready }) }

      machine_is : with_status (parameters_bound machine_on q (component_at g.tables d).base as' bs) r status.Ready ≡ begun_machine bound_memory.permanents machine_on.threads
      machine_is =
          let h = hands g p l state_on machine_on rep_on (memory_at m q) d (parameters_of d) can_on e as' bs given (named.component_at s.components d).status in
          let same_memory : memory_at machine_on q ≡ memory_at m q = ap (λ (w : Thread). memory_with m.permanents w.cells w.references) here_thread in
          ap (λ (x : Memory). with_status (with_bindings (with_memory machine_on q (bind_component x (component_at g.tables d).base as' bs)) numbers) r status.Ready) same_memory
          ∙ (ap (λ (w : Thread). begun_machine bound_memory.permanents (slice_set machine_on.threads q (record w { cells = bound_memory.cells; references = bound_memory.references }))) here_thread
          ∙ (ap (λ cells. begun_machine bound_memory.permanents (slice_set machine_on.threads q (record (thread_at m.threads q) { stack = rest; cells = cells; references = bound_memory.references }))) h.cells
          ∙ (ap (λ refs. begun_machine bound_memory.permanents (slice_set machine_on.threads q (record (thread_at m.threads q) { stack = rest; references = refs }))) h.references
          ∙ ap (λ threads. begun_machine bound_memory.permanents threads) (set_set m.threads q (record (thread_at m.threads q) { stack = rest }) (record (thread_at m.threads q) { stack = rest })))))

      -- who was started before is so on slots too
      twice : (w : Status) → (w ≡ unstarted → ⊥) → (u : slot_status.Status) → StatusIs g p l r (named.process_at state_on.processes r) (thread_at machine_on.threads r) w u → StepIs g p l q line (record { state = s; event = meaning.fault_event init_twice }) (if is_unstarted u then record { machine = with_status (parameters_bound machine_on q (component_at g.tables d).base as' bs) r status.Ready; event = event.Kernel event_call.StartProcess } else statements.fault m q line error.InitTwice)
      twice unstarted never status.Unstarted h = absurd (never refl)
      twice w never status.Unstarted h = absurd h
      twice w never _ h = fails g p l s m q at (start_item t) mid es xs ys k line init_twice error.InitTwice refl

      -- it begins, or it was started before
      by_status : (w : Status) → (named.process_at state_on.processes r).status ≡ w → StatusIs g p l r (named.process_at state_on.processes r) (thread_at machine_on.threads r) w (thread_at m.threads r).status →
          StepIs g p l q line (meaning.starting_as p s q (doing e) r w d e) (calls.start_process g.tables m q line r d as' bs rest)
      by_status unstarted f h = go (thread_at m.threads r).status h
        where
          begun : StepIs g p l q line (meaning.starting_as p s q (doing e) r unstarted d e) (record { machine = with_status (parameters_bound machine_on q (component_at g.tables d).base as' bs) r status.Ready; event = event.Kernel event_call.StartProcess })
          begun =
              record {
                state = subst (λ n. Represents g p l (record state_on { processes = slice_set state_on.processes r (meaning.begun d (system_of p n)); components = (state_begun g p l state_on machine_on rep_on (memory_at m q) d (parameters_of d) can_on e as' bs given r (process_known.begins d is_found) there_r f).components }) (with_status (parameters_bound machine_on q (component_at g.tables d).base as' bs) r status.Ready)) (sym (process_known.start.system d is_found))
                    (subst (λ w. Represents g p l (state_begun g p l state_on machine_on rep_on (memory_at m q) d (parameters_of d) can_on e as' bs given r (process_known.begins d is_found) there_r f) w) (sym machine_is)
                    (process_begun g p l state_on machine_on rep_on (memory_at m q) d (parameters_of d) can_on e as' bs given r (process_known.begins d is_found) there_r f));
                event = refl;
              }

          go : (u : slot_status.Status) → StatusIs g p l r (named.process_at state_on.processes r) (thread_at machine_on.threads r) unstarted u →
              StepIs g p l q line (meaning.starting_as p s q (doing e) r unstarted d e) (if is_unstarted u then record { machine = with_status (parameters_bound machine_on q (component_at g.tables d).base as' bs) r status.Ready; event = event.Kernel event_call.StartProcess } else statements.fault m q line error.InitTwice)
          go status.Unstarted h = begun
          go _ h = absurd h
      by_status w f h = twice w (λ z. cc) (thread_at m.threads r).status h

      starts_so : StepIs g p l q line (meaning.kernel_step p s q (doing e) (starts d e)) (calls.start_process g.tables m q line r d as' bs rest)
      starts_so =
          let x : Process = still_process g p l s m q es (goes g p l s m q at (start_item t) mid es xs ys k) (xs ++ ys) in
          subst (λ o. StepIs g p l q line (meaning.starting p s q (doing e) o d e) (calls.start_process g.tables m q line r d as' bs rest)) (sym (process_kept d q x s.processes refl k.there ∙ process_known.same d is_found))
          (by_status (named.process_at state_on.processes r).status refl (subst (λ u. StatusIs g p l r (named.process_at state_on.processes r) (thread_at machine_on.threads r) (named.process_at state_on.processes r).status u) status_same (rep_on.processes r there_r).status))

    abbrev routine : ℕ
    routine = (l.systems k.own.system).initial

    by_kind : (e : Environment) (bs : List Bound) → AreGivenTo d e as' bs → (a : SystemKind) → SameKind a (kind.Process r) →
        StepIs g p l q line (settled p s q (started_as a view d (system_of p (named.component_at s.components d).system) (xs ++ ys) e)) (calls.start_process g.tables m q line r d as' bs rest)
    by_kind e bs given system_kind.Process w = starts_so e bs given
    by_kind e bs given a w = absurd w

    started_so : (e : Environment) (bs : List Bound) → AreGivenTo d e as' bs → starting.StartsSo g p l s m q at t mid es xs ys k d as' e bs
    started_so e bs given =
        let is = process_known.process d is_found in
        subst (λ c. StepIs g p l q line (settled p s q (started_as (named.component_at s.components d).kind view d (system_of p (named.component_at s.components d).system) (xs ++ ys) e)) (calls.start_by g.tables m q line c routine d as' bs rest)) (sym is)
        (by_kind e bs given (named.component_at s.components d).kind (subst (λ c. SameKind (named.component_at s.components d).kind c) is (process_known.start.kinds d can_on.there)))

  pub start_process_step : ProcessKnown → StepIs g p l q line (step_of p s q) (step_at g.tables m q)
  start_process_step known = starting.start_step g p l s m q at t mid es xs ys k known.start (λ d f as' e bs given. started_so known as' d f e bs given)
