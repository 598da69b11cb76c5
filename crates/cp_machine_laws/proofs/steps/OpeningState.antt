-- The state in which a run begins on names is what the machine begins with.
use Rattle.cp_machine_laws.proofs.Words.{false, ◌≡◌, ◌∙◌, ℕ, zero, suc, ◌+◌, ◌<◌, ◌≤◌, List, [], ◌∷◌, Some, None, ap, sym, refl, subst, arith, length, length-set, map, replicate}
use Rattle.cp_machine_laws.proofs.Words.{slice_index_or, slice_set, SystemKind, Program, Tree, ComponentKind, IsItself, IsTyped, Permanent, Machine, Monitor, Thread, no_thread}
use Rattle.cp_machine_laws.proofs.Words.{thread_at, no_monitor, phase_at, unstarted_thread, Name, Ty, Value, queue_value, part_at, system_of, program_system, View, content_of}
use Rattle.cp_machine_laws.proofs.Words.{value_held, environment_of, value_at, after, begun, first_inside, least_of, Layouts, look, encode, HasType, Ground, discipline_of}
use Rattle.std.proofs.lemmas.List.{get_or-map, length-map}
use Rattle.cp_tree.specs.declared.declaration.SystemKind.TheVariants as system_kind
use Rattle.cp_slots.specs.declared.tables.ComponentKind.TheVariants as kind
use Rattle.cp_slots.specs.Tables as tables
use Rattle.cp_slots.specs.Tables.{component_at, process_at}
use Rattle.cp_machine.specs.declared.process.Status.TheVariants as status
use Rattle.cp_machine.specs.declared.state.Phase.TheVariants as phase
use Rattle.cp_machine.specs.Opening as slots
use Rattle.cp_meaning.specs.Components.{Listed, listed, listed_variables, components_of}
use Rattle.cp_meaning.specs.Lifting.{has_invariants}
use Rattle.cp_meaning.specs.State as named
use Rattle.cp_meaning.specs.State.{Holder, in_component, Place, Environment, uninitialised, Component, no_component, unstarted, delayed, Process, no_process, Discipline, book_discipline, State}
use Rattle.cp_meaning.specs.Steps.{parameter_variables, first_environment, first_component, process_first, processes_from, own_begun, first_components, opening}
use Rattle.cp_resolved.specs.Resolved.{StandsAt, Stands, first_permanent}
use Rattle.cp_machine_laws.specs.Represents.{LiesAt, StatusIs, ProcessIs, PhaseIs, HasBegun, ComponentIs, MonitorIs, QueuesAre, all_permanents, Runs, Represents}
use Rattle.cp_machine_laws.proofs.starts.Begun.{CanBegin, begun_runs}
use Rattle.cp_machine_laws.proofs.expressions.LeastValues.{IsFree, part_free, append_free, least_of_free, content_free}
use Rattle.cp_machine_laws.proofs.control.Moving.{set_here, set_there}
use Rattle.cp_machine_laws.proofs.expressions.Parts.{encode_length}
use Rattle.cp_meaning.proofs.Exclusion.{program_kind as own_kind}

-- ---- lists

repeated : {A : Type 0} (n i : ℕ) (a : A) → slice_index_or (replicate n a) i a ≡ a
repeated (suc n) (suc i) a = repeated n i a
repeated _ _ a = refl

-- ---- processes on names

abbrev more_components : Program → List Component
more_components p = map (first_component p) (listed_variables (listed p (program_system p)) [] (system_of p (program_system p)).variables)

abbrev more_processes : Program → List Process
more_processes p = processes_from 1 (more_components p)

pub processes_are : (p : Program) (c : Discipline) → (opening p c).processes ≡ begun 0 (system_of p (program_system p)) ∷ more_processes p
processes_are p c =
    let own : Component = first_component p (let w : Listed = record { path = []; system = program_system p } in w) in
    ap (λ (k : SystemKind). own_begun p (own ∷ more_components p) (process_first k 0 (more_processes p))) (own_kind p)

pub record IsUnstarted (x : Process) : Type 0 where
  pub status : x.status ≡ unstarted
  pub calls : x.calls ≡ []
  pub items : x.items ≡ []

pub all_unstarted : (n : ℕ) (cs : List Component) (q : ℕ) → IsUnstarted (named.process_at (processes_from n cs) q)
all_unstarted n [] q = record { status = refl; calls = refl; items = refl }
all_unstarted n (c ∷ cs) q = go c.kind q (λ k. all_unstarted (suc n) cs k)
  where
    go : (k : SystemKind) (q : ℕ) → ((k : ℕ) → IsUnstarted (named.process_at (processes_from (suc n) cs) k)) → IsUnstarted (named.process_at (process_first k n (processes_from (suc n) cs)) q)
    go system_kind.Process zero ih = record { status = refl; calls = refl; items = refl }
    go system_kind.Process (suc q) ih = ih q
    go system_kind.Class q ih = ih q
    go system_kind.Monitor q ih = ih q

nobody_in : (m n : ℕ) (cs : List Component) → first_inside m (processes_from n cs) ≡ None
nobody_in m n [] = refl
nobody_in m n (c ∷ cs) = go c.kind (nobody_in m (suc n) cs)
  where
    go : (k : SystemKind) → first_inside m (processes_from (suc n) cs) ≡ None → first_inside m (process_first k n (processes_from (suc n) cs)) ≡ None
    go system_kind.Process ih = ap after ih
    go system_kind.Class ih = ih
    go system_kind.Monitor ih = ih

-- ---- components on names

first_holds : (P : Component → Type 0) (p : Program) (ls : List Listed) (n : ℕ) → P no_component → ((c : Listed) → P (first_component p c)) → P (named.component_at (map (first_component p) ls) n)
first_holds P p [] n none each = none
first_holds P p (c ∷ ls) zero none each = each c
first_holds P p (c ∷ ls) (suc n) none each = first_holds P p ls n none each

first_environment_at : (p : Program) (ls : List Listed) (n : ℕ) → n < length (map (first_component p) ls) → (named.component_at (map (first_component p) ls) n).environment ≡ first_environment (system_of p (named.component_at (map (first_component p) ls) n).system)
first_environment_at p [] n h = absurd (omega arith)
first_environment_at p (c ∷ ls) zero h = refl
first_environment_at p (c ∷ ls) (suc n) h = first_environment_at p ls n (omega arith)

first_free : (p : Program) (n : ℕ) (x : Name) → IsFree (value_held (content_of x (named.component_at (first_components p) n).environment))
first_free p n x =
    first_holds (λ (c : Component). IsFree (value_held (content_of x c.environment))) p (components_of p) n tt
    (λ c. content_free x (first_environment (system_of p c.system)) (append_free (least_of (parameter_variables (system_of p c.system).parameters)) (least_of (system_of p c.system).variables) (least_of_free (parameter_variables (system_of p c.system).parameters)) (least_of_free (system_of p c.system).variables)))

-- ---- what has to be known of the tables

pub record CanOpen (g : Ground) (t : Tree) (l : Layouts) : Type 0 where
  pub stands : Stands g t l
  pub typed : IsTyped g.tables
  -- each component is of one of the system types
  pub below : (n : ℕ) → n < length g.tables.components → (component_at g.tables n).system ≤ program_system t.program
  -- the program itself has no parameters
  pub plain : (x : Name) (u : Ty) → look x (l.systems (program_system t.program)).parts ≡ Some u → ⊥
  -- and no invariants
  pub unsaid : has_invariants (system_of t.program (program_system t.program)).scope ≡ false
  -- a name of which a layout says nothing has no content
  pub others : (k : ℕ) (x : Name) → k ≤ program_system t.program → look x (l.systems k).variables ≡ None → look x (l.systems k).parts ≡ None → content_of x (first_environment (system_of t.program k)) ≡ None

module _ (g : Ground) (t : Tree) (l : Layouts) (c : Discipline) (can : CanOpen g t l) where
  abbrev p : Program
  p = t.program

  abbrev own_process : Process
  own_process = begun 0 (system_of p (program_system p))

  -- the opening state, with its processes as they are seen here
  abbrev state : State
  state = record { processes = own_process ∷ more_processes p; components = first_components p; output = []; discipline = c; pending = None }

  abbrev machine : Machine
  machine = slots.opening g.tables (discipline_of c)

  abbrev threads : List Thread
  threads = map (unstarted_thread g.tables) g.tables.processes

  count : length g.tables.processes ≡ length (own_process ∷ more_processes p)
  count = can.stands.process_count ∙ ap length (processes_are p book_discipline)

  thread_first : (q : ℕ) → q < length g.tables.processes → thread_at threads q ≡ unstarted_thread g.tables (process_at g.tables q)
  thread_first q h = get_or-map (unstarted_thread g.tables) g.tables.processes q tables.no_process no_thread h

  -- the process of the program itself runs from the start
  abbrev own_thread : Thread
  own_thread = record (thread_at threads 0) { status = status.Ready }

  own_component : (process_at g.tables 0).component ≡ 0
  own_component = (can.stands.processes 0 (let e = count in omega (arith, e))).component ∙ ap (λ (xs : List Process). (named.process_at xs 0).component) (processes_are p book_discipline)

  some_component : 0 < length g.tables.components
  some_component = let e : length g.tables.components ≡ suc (length (more_components p)) = can.stands.count in omega (arith, e)

  own_system : (component_at g.tables 0).system ≡ program_system p
  own_system = (can.stands.components 0 some_component).system

  own_routine : (process_at g.tables 0).routine ≡ (l.systems (program_system p)).initial
  own_routine = (can.stands.processes 0 (let e = count in omega (arith, e))).routine ∙ (ap (λ n. (l.systems (component_at g.tables n).system).initial) own_component ∙ ap (λ n. (l.systems n).initial) own_system)

  can_begin : CanBegin g p l 0 (program_system p) (process_at g.tables 0)
  can_begin =
      let system = can.stands.systems (program_system p) (omega arith) in
      record {
        routine_is = can.stands.routines (process_at g.tables 0).routine (subst (λ n. n < length g.tables.routines) (sym own_routine) system.initial);
        system_is = system;
        component = own_component;
        routine = own_routine;
        there = some_component;
        of = own_system;
        plain = (can.typed.processes 0 (let e = count in omega (arith, e))).references;
        unsaid = can.unsaid;
      }

  own_runs : Runs g p l own_process own_thread
  own_runs =
      subst (λ (w : Thread). Runs g p l own_process (record w { status = status.Ready })) (sym (thread_first 0 (let e = count in omega (arith, e))))
      (begun_runs g p l 0 (program_system p) (process_at g.tables 0) can_begin)

  process_opens : (q : ℕ) → q < length (own_process ∷ more_processes p) → ProcessIs g p l q (named.process_at (own_process ∷ more_processes p) q) (thread_at (slice_set threads 0 own_thread) q)
  process_opens zero h =
      subst (λ (w : Thread). ProcessIs g p l 0 own_process w) (sym (set_here threads 0 own_thread no_thread (let e = count in let d = length-map g.tables.processes (unstarted_thread g.tables) in omega (arith, e, d))))
      (record { component = sym own_component; status = own_runs })
  process_opens (suc q) h =
      let there : suc q < length g.tables.processes = (let e = count in omega (arith, e, h)) in
      let still = all_unstarted 1 (more_components p) q in
      let thread : thread_at (slice_set threads 0 own_thread) (suc q) ≡ unstarted_thread g.tables (process_at g.tables (suc q)) = set_there threads 0 (suc q) own_thread no_thread (λ e. cc) ∙ thread_first (suc q) there in
      subst (λ (w : Thread). ProcessIs g p l (suc q) (named.process_at (more_processes p) q) w) (sym thread)
      (record {
        component = sym ((can.stands.processes (suc q) there).component ∙ ap (λ (xs : List Process). (named.process_at xs (suc q)).component) (processes_are p book_discipline));
        status = subst (λ u. StatusIs g p l (suc q) (named.process_at (more_processes p) q) (unstarted_thread g.tables (process_at g.tables (suc q))) u status.Unstarted) (sym still.status) (still.calls, still.items, refl);
      })

  -- ---- components

  system_here : (n : ℕ) → n < length (first_components p) → (component_at g.tables n).system ≡ (named.component_at (first_components p) n).system
  system_here n h = (can.stands.components n (let e = can.stands.count in omega (arith, e, h))).system

  environment_here : (n : ℕ) → n < length (first_components p) → (named.component_at (first_components p) n).environment ≡ first_environment (system_of p (component_at g.tables n).system)
  environment_here n h = first_environment_at p (components_of p) n h ∙ ap (λ k. first_environment (system_of p k)) (sym (system_here n h))

  status_here : (n : ℕ) → (named.component_at (first_components p) n).status ≡ uninitialised
  status_here n = first_holds (λ (d : Component). d.status ≡ uninitialised) p (components_of p) n refl (λ d. refl)

  line_here : (n : ℕ) → (named.component_at (first_components p) n).line ≡ []
  line_here n = first_holds (λ (d : Component). d.line ≡ []) p (components_of p) n refl (λ d. refl)

  phase_here : (k : ComponentKind) → PhaseIs k uninitialised phase.Uninitialised
  phase_here (kind.Process q) = tt
  phase_here _ = tt

  image_lies : (u : Ty) (w : Value) (at : ℕ) → HasType u w → StandsAt g.tables.permanents at (encode w) → LiesAt (all_permanents machine) u w (Permanent at)
  image_lies u w at h s =
      let n = encode_length u w h in
      record {
        typed = h;
        cells = (let a = s.inside in omega (arith, a, n));
        block = λ k less. s.same k less;
      }

  -- only the program itself has begun, and it has no parameters
  none_begun : (n : ℕ) → n < length g.tables.components → (k : ComponentKind) → (component_at g.tables n).kind ≡ k → (x : Name) (u : Ty) → look x (l.systems (component_at g.tables n).system).parts ≡ Some u → HasBegun state k uninitialised → ⊥
  none_begun n h (kind.Process (suc q)) e x u d b = b (all_unstarted 1 (more_components p) q).status
  none_begun n h (kind.Process zero) e x u d b =
      let itself : (process_at g.tables 0).component ≡ n = subst (λ k. IsItself g.tables k n) e (can.typed.components n h).itself in
      let zero_is : n ≡ 0 = sym itself ∙ own_component in
      let system : (component_at g.tables n).system ≡ program_system p = ap (λ i. (component_at g.tables i).system) zero_is ∙ own_system in
      can.plain x u (subst (λ k. look x (l.systems k).parts ≡ Some u) system d)
  none_begun n h _ e x u d b = b

  component_opens : (n : ℕ) → n < length (first_components p) → ComponentIs g p l state machine n
  component_opens n h =
      let there : n < length g.tables.components = (let e = can.stands.count in omega (arith, e, h)) in
      let system = can.stands.systems (component_at g.tables n).system (can.below n there) in
      record {
        phase = subst (λ u. PhaseIs (component_at g.tables n).kind u (phase_at machine n)) (sym (status_here n))
            (subst (λ u. PhaseIs (component_at g.tables n).kind uninitialised u) (sym (repeated (length g.tables.components) n phase.Uninitialised)) (phase_here (component_at g.tables n).kind));
        variables = λ x u e.
            subst (λ (b : Environment). LiesAt (all_permanents machine) u (value_held (content_of x b)) (Permanent ((component_at g.tables n).base + (l.systems (component_at g.tables n).system).slots x))) (sym (environment_here n h))
            (image_lies u (first_permanent (system_of p (component_at g.tables n).system) x) ((component_at g.tables n).base + (l.systems (component_at g.tables n).system).slots x) (system.typed x u e) ((can.stands.components n there).first x u e));
        parts = λ x u e b. absurd (none_begun n there (component_at g.tables n).kind refl x u e (subst (λ v. HasBegun state (component_at g.tables n).kind v) (status_here n) b));
        others = λ x a b. ap (content_of x) (environment_here n h) ∙ can.others (component_at g.tables n).system x (can.below n there) a b;
      }

  -- ---- monitors and queues

  monitor_opens : (n : ℕ) (k : ComponentKind) → MonitorIs state machine n k
  monitor_opens n (kind.Monitor j) =
      let none = repeated g.tables.monitors j no_monitor in
      (ap (λ (w : Monitor). w.line) none ∙ sym (line_here n), ap (λ (w : Monitor). w.holder) none ∙ sym (ap after (nobody_in n 1 (more_components p))))
  monitor_opens n _ = tt

  nobody_delayed : (q n : ℕ) → (named.process_at (own_process ∷ more_processes p) q).status ≡ delayed n → ⊥
  nobody_delayed zero n e = cc
  nobody_delayed (suc q) n e = let w = (all_unstarted 1 (more_components p) q).status in cc

  nobody_waits : (x : Place) (q n : ℕ) (v : View) → v.components ≡ first_components p → x.holder ≡ in_component n → value_at v x ≡ queue_value (Some q) → ⊥
  nobody_waits x q n v e h w =
      subst IsFree (sym (subst (λ (o : Holder). part_at (value_held (content_of x.name (environment_of v o))) x.choices ≡ part_at (value_held (content_of x.name (named.component_at (first_components p) n).environment)) x.choices) (sym h) (ap (λ (cs : List Component). part_at (value_held (content_of x.name (named.component_at cs n).environment)) x.choices) e)) ∙ w)
      (part_free (value_held (content_of x.name (named.component_at (first_components p) n).environment)) x.choices (first_free p n x.name))

  queues_open : QueuesAre g l state machine
  queues_open =
      record {
        waiting = λ q n cell v h e f d. absurd (nobody_delayed q n e);
        queued = λ x q n cell v d h a w. absurd (nobody_waits x q n v d h w);
      }

  -- ---- all of it

  opens_seen : Represents g p l state machine
  opens_seen =
      record {
        process_count = sym (length-set threads 0 own_thread ∙ (length-map g.tables.processes (unstarted_thread g.tables) ∙ count));
        component_count = sym can.stands.count;
        processes = process_opens;
        components = component_opens;
        monitors = λ n h. monitor_opens n (component_at g.tables n).kind;
        queues = queues_open;
        pending = tt;
        discipline = refl;
        output = refl;
      }

  pub opens : Represents g p l (opening p c) (slots.opening g.tables (discipline_of c))
  opens = subst (λ (xs : List Process). Represents g p l (record { processes = xs; components = first_components p; output = []; discipline = c; pending = None }) machine) (sym (processes_are p c)) opens_seen
