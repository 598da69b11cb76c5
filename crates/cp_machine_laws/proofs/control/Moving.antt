-- What one process changes, with its thread, and what components change, keep of what stands for what; and a process that goes on ready.
use Rattle.std.proofs.Common.{◌≡◌, ◌≢◌, ◌∙◌, ℕ, zero, suc, ◌+◌, ◌<◌, ◌⊎◌, inl, inr, Bool, true, not, if◌then◌else◌, List, [], ◌∷◌, Option, Some, ap, sym, refl, subst, arith, length, length-set, get_or-set_same, get_or-set_other}
use Rattle.cp_machine_laws.proofs.Words.{◌&&◌, slice_index_or, slice_set, Program, ComponentKind, component_at, Machine, Monitor, no_monitor, Thread, thread_at, no_thread, phase_at}
use Rattle.cp_machine_laws.proofs.Words.{with_thread, after, View, content_of, value_held, environment_of, value_at, part_at, Permanent, first_inside, Layouts, Ground, queue_type, map}
use Rattle.cp_slots.specs.declared.tables.ComponentKind.TheVariants as kind
use Rattle.cp_machine.specs.declared.process.Status.TheVariants as status
use Rattle.cp_machine.specs.declared.shown.Shown as slot_shown
use Rattle.cp_meaning.specs.State as named
use Rattle.cp_meaning.specs.State.{Holder, in_component, Place, Environment, Component, uninitialised, ComponentStatus, unstarted, ready, at_gate, delayed, Shown, Status, Call, Item, Process, no_process, State, is_inside, has_entry, waits_at}
use Rattle.cp_meaning.specs.Readings.{holder_of}
use Rattle.cp_machine_laws.specs.Named.{shown_of}
use Rattle.cp_machine_laws.specs.Represents.{LiesAt, ProcessIs, StatusIs, Runs, PhaseIs, ComponentIs, MonitorIs, PlaceAt, QueuesAre, PendingIs, HasBegun, all_permanents, Represents}

-- ---- lists with one element changed

pub set_here : {A : Type 0} (xs : List A) (n : ℕ) (x d : A) → n < length xs → slice_index_or (slice_set xs n x) n d ≡ x
set_here xs n x d h = get_or-set_same xs n x d h

pub set_there : {A : Type 0} (xs : List A) (n k : ℕ) (x d : A) → k ≢ n → slice_index_or (slice_set xs n x) k d ≡ slice_index_or xs k d
set_there xs n k x d h = get_or-set_other xs n k x d h

pub same_or_other : (k n : ℕ) → (k ≡ n) ⊎ (k ≢ n)
same_or_other zero zero = inl refl
same_or_other (suc k) (suc n) = go (same_or_other k n)
  where
    go : (k ≡ n) ⊎ (k ≢ n) → (suc k ≡ suc n) ⊎ (suc k ≢ suc n)
    go (inl e) = inl (ap suc e)
    go (inr d) = inr (λ e. d (omega (arith, e)))
same_or_other x y = inr (λ e. omega (arith, e))

-- what the new element keeps of the old one, each place of the list keeps
pub set_keeps : {A B : Type 0} (read : A → B) (xs : List A) (n : ℕ) (x d : A) → n < length xs → read x ≡ read (slice_index_or xs n d) → (k : ℕ) → read (slice_index_or (slice_set xs n x) k d) ≡ read (slice_index_or xs k d)
set_keeps read xs n x d h e k = go (same_or_other k n)
  where
    go : (k ≡ n) ⊎ (k ≢ n) → read (slice_index_or (slice_set xs n x) k d) ≡ read (slice_index_or xs k d)
    go (inl s) = subst (λ i. read (slice_index_or (slice_set xs n x) i d) ≡ read (slice_index_or xs i d)) (sym s) (ap read (set_here xs n x d h) ∙ e)
    go (inr o) = ap read (set_there xs n k x d o)

-- ---- who is inside

pub inside_same : (n q : ℕ) (x : Process) (ps : List Process) → is_inside n x ≡ is_inside n (slice_index_or ps q no_process) → q < length ps → first_inside n (slice_set ps q x) ≡ first_inside n ps
inside_same n q x [] e h = absurd (omega arith)
inside_same n zero x (p ∷ ps) e h = ap (λ (b : Bool). if b then Some 0 else after (first_inside n ps)) e
inside_same n (suc q) x (p ∷ ps) e h = ap (λ (o : Option ℕ). if is_inside n p then Some 0 else after o) (inside_same n q x ps e (omega arith))

-- a monitor of the same slots, line and holder
pub monitor_from : (s s2 : State) (m m2 : Machine) (n : ℕ) (k : ComponentKind) → m2.monitors ≡ m.monitors → (named.component_at s2.components n).line ≡ (named.component_at s.components n).line → ((j : ℕ) → k ≡ kind.Monitor j → holder_of s2 n ≡ holder_of s n) → MonitorIs s m n k → MonitorIs s2 m2 n k
monitor_from s s2 m m2 n (kind.Monitor j) slots line holder h =
    (ap (λ (ms : List Monitor). (slice_index_or ms j no_monitor).line) slots ∙ (h.0 ∙ sym line), ap (λ (ms : List Monitor). (slice_index_or ms j no_monitor).holder) slots ∙ (h.1 ∙ sym (holder j refl)))
monitor_from s s2 m m2 n _ slots line holder h = tt

-- ---- components

-- what has begun had, if nobody was unstarted who is not
pub begun_from : (s s2 : State) → ((j : ℕ) → (named.process_at s.processes j).status ≡ unstarted → (named.process_at s2.processes j).status ≡ unstarted) → (k : ComponentKind) (u : ComponentStatus) → HasBegun s2 k u → HasBegun s k u
begun_from s s2 still (kind.Process j) u b = λ e. b (still j e)
begun_from s s2 still (kind.Monitor j) uninitialised b = b
begun_from s s2 still kind.Class uninitialised b = b
begun_from s s2 still _ _ b = b

-- a component that has the variables that it had, in the same cells
pub component_from : (g : Ground) (p : Program) (l : Layouts) (s s2 : State) (m m2 : Machine) (n : ℕ) → (named.component_at s2.components n).environment ≡ (named.component_at s.components n).environment →
    PhaseIs (component_at g.tables n).kind (named.component_at s2.components n).status (phase_at m2 n) →
    (HasBegun s2 (component_at g.tables n).kind (named.component_at s2.components n).status → HasBegun s (component_at g.tables n).kind (named.component_at s.components n).status) →
    ComponentIs g p l s m n → ComponentIs g p l s2 (record m2 { permanents = m.permanents; bindings = m.bindings }) n
component_from g p l s s2 m m2 n same phase begun c =
    record {
      phase = phase;
      variables = λ y u e. subst (λ (env : Environment). LiesAt (all_permanents m) u (value_held (content_of y env)) (Permanent ((component_at g.tables n).base + (l.systems (component_at g.tables n).system).slots y))) (sym same) (c.variables y u e);
      parts = λ y u e b. ap (content_of y) same ∙ c.parts y u e (begun b);
      others = λ y a b. ap (content_of y) same ∙ c.others y a b;
    }

-- what a place of a component holds
pub value_in : (v : View) (x : Place) (n : ℕ) → x.holder ≡ in_component n → value_at v x ≡ part_at (value_held (content_of x.name (named.component_at v.components n).environment)) x.choices
value_in v x n e = ap (λ (h : Holder). part_at (value_held (content_of x.name (environment_of v h))) x.choices) e

-- it is the same where the components have the variables that they had
pub place_kept : (cs ds : List Component) → ((n : ℕ) → (named.component_at ds n).environment ≡ (named.component_at cs n).environment) → (v : View) (x : Place) (n : ℕ) → v.components ≡ ds → x.holder ≡ in_component n →
    value_at v x ≡ value_at (record { program = v.program; calls = v.calls; components = cs }) x
place_kept cs ds same v x n c e =
    value_in v x n e ∙ (ap (λ (zs : List Component). part_at (value_held (content_of x.name (named.component_at zs n).environment)) x.choices) c
    ∙ (ap (λ (env : Environment). part_at (value_held (content_of x.name env)) x.choices) (same n) ∙ sym (value_in (record { program = v.program; calls = v.calls; components = cs }) x n e)))

-- what was displayed and what is pending are no part of anything else
pub represents_with : (g : Ground) (p : Program) (l : Layouts) (s : State) (m : Machine) (os : List Shown) (us : List slot_shown.Shown) (pn pd : Option ℕ) → us ≡ map (shown_of g.firsts) os → PendingIs g pn pd → Represents g p l s m →
    Represents g p l (record s { output = os; pending = pn }) (record m { output = us; pending = pd })
represents_with g p l s m os us pn pd shown pending rep =
    record {
      process_count = rep.process_count;
      component_count = rep.component_count;
      processes = rep.processes;
      components = λ n h. component_from g p l s (record s { output = os; pending = pn }) m (record m { output = us; pending = pd }) n refl (rep.components n h).phase
          (begun_from s (record s { output = os; pending = pn }) (λ j b. b) (component_at g.tables n).kind (named.component_at s.components n).status) (rep.components n h);
      monitors = λ n h. monitor_from s (record s { output = os; pending = pn }) m (record m { output = us; pending = pd }) n (component_at g.tables n).kind refl refl (λ j b. refl) (rep.monitors n h);
      queues = record { waiting = rep.queues.waiting; queued = rep.queues.queued };
      pending = pending;
      discipline = rep.discipline;
      output = shown;
    }

-- ---- one process is changed, with its thread

-- a thread that is delayed is a process that is
pub delayed_process : (g : Ground) (p : Program) (l : Layouts) (q : ℕ) (x : Process) (t : Thread) (a : ℕ) → ProcessIs g p l q x t → t.status ≡ status.Delayed a → (i : ℕ) × (x.status ≡ delayed i)
delayed_process g p l q x t a is e = go x.status refl (subst (λ w. StatusIs g p l q x t x.status w) e is.status)
  where
    go : (w : Status) → x.status ≡ w → StatusIs g p l q x t w (status.Delayed a) → (i : ℕ) × (x.status ≡ delayed i)
    go (delayed i) e h = (i, e)
    go _ e h = absurd h

module _ (g : Ground) (p : Program) (l : Layouts) (s : State) (m : Machine) (rep : Represents g p l s m) (q : ℕ) (there : q < length s.processes) (x : Process) (t : Thread) where
  many : q < length m.threads
  many = let e = rep.process_count in omega (arith, e, there)

  pub here_process : named.process_at (slice_set s.processes q x) q ≡ x
  here_process = set_here s.processes q x no_process there

  pub here_thread : thread_at (slice_set m.threads q t) q ≡ t
  here_thread = set_here m.threads q t no_thread many

  pub there_process : (k : ℕ) → k ≢ q → named.process_at (slice_set s.processes q x) k ≡ named.process_at s.processes k
  there_process k d = set_there s.processes q k x no_process d

  pub there_thread : (k : ℕ) → k ≢ q → thread_at (slice_set m.threads q t) k ≡ thread_at m.threads k
  there_thread k d = set_there m.threads q k t no_thread d

  pub counts_stand : length (slice_set s.processes q x) ≡ length (slice_set m.threads q t)
  counts_stand = length-set s.processes q x ∙ (rep.process_count ∙ sym (length-set m.threads q t))

  -- who was there is there
  pub still_there : (k : ℕ) → k < length (slice_set s.processes q x) → k < length s.processes
  still_there k h = let e = length-set s.processes q x in omega (arith, e, h)

  pub processes_stand : ProcessIs g p l q x t → (k : ℕ) → k < length (slice_set s.processes q x) → ProcessIs g p l k (named.process_at (slice_set s.processes q x) k) (thread_at (slice_set m.threads q t) k)
  processes_stand stands k h = go (same_or_other k q)
    where
      go : (k ≡ q) ⊎ (k ≢ q) → ProcessIs g p l k (named.process_at (slice_set s.processes q x) k) (thread_at (slice_set m.threads q t) k)
      go (inl d) = subst (λ j. ProcessIs g p l j (named.process_at (slice_set s.processes q x) j) (thread_at (slice_set m.threads q t) j)) (sym d)
          (subst (λ (y : Process). ProcessIs g p l q y (thread_at (slice_set m.threads q t) q)) (sym here_process) (subst (λ (y : Thread). ProcessIs g p l q x y) (sym here_thread) stands))
      go (inr d) =
          subst (λ (y : Process). ProcessIs g p l k y (thread_at (slice_set m.threads q t) k)) (sym (there_process k d))
          (subst (λ (y : Thread). ProcessIs g p l k (named.process_at s.processes k) y) (sym (there_thread k d)) (rep.processes k (still_there k h)))

  -- it was started, so who was unstarted is so still
  pub unstarted_still : ((named.process_at s.processes q).status ≡ unstarted → ⊥) → (k : ℕ) → (named.process_at s.processes k).status ≡ unstarted → (named.process_at (slice_set s.processes q x) k).status ≡ unstarted
  unstarted_still never k e = go (same_or_other k q)
    where
      go : (k ≡ q) ⊎ (k ≢ q) → (named.process_at (slice_set s.processes q x) k).status ≡ unstarted
      go (inl d) = absurd (never (subst (λ j. (named.process_at s.processes j).status ≡ unstarted) d e))
      go (inr d) = ap (λ (y : Process). y.status) (there_process k d) ∙ e

  -- another process than it waits as it did
  pub delayed_before : (k n a : ℕ) → k ≢ q → (named.process_at (slice_set s.processes q x) k).status ≡ delayed n → (thread_at (slice_set m.threads q t) k).status ≡ status.Delayed a → ((named.process_at s.processes k).status ≡ delayed n) × ((thread_at m.threads k).status ≡ status.Delayed a)
  delayed_before k n a d e f = (sym (ap (λ (y : Process). y.status) (there_process k d)) ∙ e, sym (ap (λ (y : Thread). y.status) (there_thread k d)) ∙ f)

  pub delayed_after : (k n a : ℕ) → k ≢ q → (k < length s.processes) × ((named.process_at s.processes k).status ≡ delayed n) × ((thread_at m.threads k).status ≡ status.Delayed a) →
      (k < length (slice_set s.processes q x)) × ((named.process_at (slice_set s.processes q x) k).status ≡ delayed n) × ((thread_at (slice_set m.threads q t) k).status ≡ status.Delayed a)
  delayed_after k n a d w =
      (let e = length-set s.processes q x in let h = w.0 in omega (arith, e, h), ap (λ (y : Process). y.status) (there_process k d) ∙ w.1, ap (λ (y : Thread). y.status) (there_thread k d) ∙ w.2)

  abbrev old_view : View → View
  old_view v = record { program = v.program; calls = v.calls; components = s.components }

  -- it waits in no queue before or after, and each queue holds what it held
  pub queues_stand : ((n : ℕ) → (named.process_at s.processes q).status ≡ delayed n → ⊥) → ((n : ℕ) → x.status ≡ delayed n → ⊥) → (s2 : State) (m2 : Machine) →
      ((v : View) (y : Place) (n a : ℕ) → v.components ≡ s2.components → y.holder ≡ in_component n → PlaceAt g.tables l [] y queue_type (Permanent a) → value_at v y ≡ value_at (old_view v) y) →
      QueuesAre g l (record s2 { processes = slice_set s.processes q x }) (record m2 { threads = slice_set m.threads q t })
  queues_stand never_before never s2 m2 kept =
      record {
        waiting = λ k n a v h e f c.
            (let w = delayed_before k n a (other k n e) e f in
            let u = rep.queues.waiting k n a (old_view v) (still_there k h) w.0 w.1 refl in
            (u.0, u.1, u.2, kept v u.0 n a c u.1 u.2 ∙ u.3));
        queued = λ y k n a v c e h b.
            (let w = rep.queues.queued y k n a (old_view v) refl e h (sym (kept v y n a c e h) ∙ b) in
            delayed_after k n a (λ d. never_before n (subst (λ j. (named.process_at s.processes j).status ≡ delayed n) d w.1)) w);
      }
    where
      other : (k n : ℕ) → (named.process_at (slice_set s.processes q x) k).status ≡ delayed n → k ≢ q
      other k n e d = never n (sym (ap (λ (y : Process). y.status) here_process) ∙ subst (λ j. (named.process_at (slice_set s.processes q x) j).status ≡ delayed n) d e)

-- ---- one process goes on, and lines, monitors and what is pending may change

-- started, and in no queue
abbrev pub IsAwake : Status → Type 0
IsAwake u = (u ≡ unstarted → ⊥) × ((n : ℕ) → u ≡ delayed n → ⊥)

pub ready_awake : (u : Status) → u ≡ ready → IsAwake u
ready_awake u e = (λ d. cc, λ n d. cc)

pub gate_awake : (n : ℕ) (u : Status) → u ≡ at_gate n → IsAwake u
gate_awake n u e = (λ d. cc, λ i d. cc)

pub record Moves (g : Ground) (p : Program) (l : Layouts) (s : State) (m : Machine) (q : ℕ) (x : Process) (t : Thread) (cs : List Component) (ms : List Monitor) (pn pd : Option ℕ) : Type 0 where
  pub there : q < length s.processes
  pub was_awake : IsAwake (named.process_at s.processes q).status
  pub awake : IsAwake x.status
  pub stands : ProcessIs g p l q x t
  -- of the components only lines change
  pub count : length cs ≡ length s.components
  pub same_status : (n : ℕ) → (named.component_at cs n).status ≡ (named.component_at s.components n).status
  pub same_environment : (n : ℕ) → (named.component_at cs n).environment ≡ (named.component_at s.components n).environment
  pub monitors : (n : ℕ) → n < length s.components → MonitorIs (record s { processes = slice_set s.processes q x; components = cs; pending = pn }) (record m { threads = slice_set m.threads q t; monitors = ms; pending = pd }) n (component_at g.tables n).kind
  pub pending : PendingIs g pn pd

pub moved : (g : Ground) (p : Program) (l : Layouts) (s : State) (m : Machine) (q : ℕ) (x : Process) (t : Thread) (cs : List Component) (ms : List Monitor) (pn pd : Option ℕ) (rep : Represents g p l s m) → Moves g p l s m q x t cs ms pn pd →
    Represents g p l (record s { processes = slice_set s.processes q x; components = cs; pending = pn }) (record m { threads = slice_set m.threads q t; monitors = ms; pending = pd })
moved g p l s m q x t cs ms pn pd rep mv =
    record {
      process_count = counts_stand g p l s m rep q mv.there x t;
      component_count = mv.count ∙ rep.component_count;
      processes = processes_stand g p l s m rep q mv.there x t mv.stands;
      components = λ n h. (let c = rep.components n (before n h) in
          component_from g p l s is_after m go_after n (mv.same_environment n) (subst (λ u. PhaseIs (component_at g.tables n).kind u (phase_at m n)) (sym (mv.same_status n)) c.phase)
          (λ b. subst (λ u. HasBegun s (component_at g.tables n).kind u) (mv.same_status n) (begun_from s is_after (unstarted_still g p l s m rep q mv.there x t mv.was_awake.0) (component_at g.tables n).kind (named.component_at cs n).status b)) c);
      monitors = λ n h. mv.monitors n (before n h);
      queues = queues_stand g p l s m rep q mv.there x t mv.was_awake.1 mv.awake.1 is_after go_after (λ v y n a c e h. place_kept s.components cs mv.same_environment v y n c e);
      pending = mv.pending;
      discipline = rep.discipline;
      output = rep.output;
    }
  where
    is_after : State
    is_after = record s { processes = slice_set s.processes q x; components = cs; pending = pn }

    go_after : Machine
    go_after = record m { threads = slice_set m.threads q t; monitors = ms; pending = pd }

    before : (n : ℕ) → n < length cs → n < length s.components
    before n h = let e = mv.count in omega (arith, e, h)

-- ---- a process that is ready goes on ready, and is inside of the same monitors

module _ (g : Ground) (p : Program) (l : Layouts) (s : State) (m : Machine) (q : ℕ) (rep : Represents g p l s m) (there : q < length s.processes) (was : (named.process_at s.processes q).status ≡ ready) (was_slot : (thread_at m.threads q).status ≡ status.Ready) where
  pub runs_now : Runs g p l (named.process_at s.processes q) (thread_at m.threads q)
  runs_now =
      subst (λ u. StatusIs g p l q (named.process_at s.processes q) (thread_at m.threads q) ready u) was_slot
      (subst (λ u. StatusIs g p l q (named.process_at s.processes q) (thread_at m.threads q) u (thread_at m.threads q).status) was (rep.processes q there).status)

  -- it with other calls and items
  abbrev pub ready_with : List Call → List Item → Process
  ready_with cs is = record { component = (named.process_at s.processes q).component; status = ready; calls = cs; items = is }

  pub stands_ready : (cs : List Call) (is : List Item) (t : Thread) → t.status ≡ (thread_at m.threads q).status → Runs g p l (ready_with cs is) t → ProcessIs g p l q (ready_with cs is) t
  stands_ready cs is t same runs = record { component = (rep.processes q there).component; status = subst (λ u. StatusIs g p l q (ready_with cs is) t ready u) (sym (same ∙ was_slot)) runs }

  pub goes_ready : (cs : List Call) (is : List Item) (t : Thread) → t.status ≡ (thread_at m.threads q).status → Runs g p l (ready_with cs is) t →
      ((n j : ℕ) → (component_at g.tables n).kind ≡ kind.Monitor j → has_entry n cs ≡ has_entry n (named.process_at s.processes q).calls) →
      Represents g p l (record s { processes = slice_set s.processes q (ready_with cs is) }) (with_thread m q t)
  goes_ready cs is t same runs entries =
      moved g p l s m q (ready_with cs is) t s.components m.monitors s.pending m.pending rep
      (record {
        there = there;
        was_awake = ready_awake _ was;
        awake = ready_awake ready refl;
        stands = stands_ready cs is t same runs;
        count = refl;
        same_status = λ n. refl;
        same_environment = λ n. refl;
        monitors = λ n h. monitor_from s (record s { processes = slice_set s.processes q (ready_with cs is) }) m (with_thread m q t) n (component_at g.tables n).kind refl refl (inside n) (rep.monitors n h);
        pending = rep.pending;
      })
    where
      inside : (n j : ℕ) → (component_at g.tables n).kind ≡ kind.Monitor j → first_inside n (slice_set s.processes q (ready_with cs is)) ≡ first_inside n s.processes
      inside n j e = inside_same n q (ready_with cs is) s.processes (ap (λ (b : Bool). b && true) (entries n j e) ∙ sym (ap (λ (u : Status). has_entry n (named.process_at s.processes q).calls && not (waits_at n u)) was)) there
