-- What the kernel does keeps what is known of components.
use Rattle.std.proofs.Common.{◌≡◌, ◌∙◌, ℕ, ◌+◌, ◌<◌, List, [], ◌∷◌, length, Option, Some, None, true, false, ap, sym, refl, subst, arith}
use Rattle.cp_machine.proofs.Words.{pos, slice_index_or, slice_set, length-set, IsOf, Tables, component_at, parameter_at, ComponentKind, Memory, Frame}
use Rattle.cp_machine.proofs.Words.{First, Any, Entry, Rest, Successor, Return, InitEnd, Status, Ready, AtGate, Delayed, Phase, Uninitialised, LinesFit, with_memory}
use Rattle.cp_machine.proofs.Words.{admit_waiting, admit_at, AreBound, EndsBegun, ExecutesAs, HasBegunAs, StackExecutes}
use Rattle.std.proofs.lemmas.List.Quantifiers.{position-Some}
use Rattle.cp_slots.specs.declared.tables.ComponentKind.TheVariants as kind
use Rattle.cp_machine.specs.declared.discipline.Gates.{Gates}
use Rattle.cp_machine.specs.Kernel.{let_in, let_in_by, first_in, one_in, goes_in, enter_caller, enter_by, delay_caller, resume, go_on_inside, waits_in, signal_by, signal}
use Rattle.cp_machine.specs.declared.discipline.Signals.{Signals}
use Rattle.cp_machine.specs.declared.discipline.Signals.TheVariants as signals
use Rattle.cp_machine.specs.Machine.{Machine, Thread, in_line, in_line_of, is_at_gate, is_delayed_at, is_uninitialised, is_unstarted, monitor_at, no_thread, phase_at, thread_at, with_permanents, with_phase, with_stack, with_status, with_thread}
use Rattle.cp_machine.proofs.ListLemmas.{set_related, each_set}
use Rattle.cp_machine.proofs.parameters.ExecutingLemmas.{Executing}
use Rattle.cp_machine.proofs.lines.KernelLines.{read_set}
use Rattle.cp_machine.proofs.lines.LineLists.{has, has_first}

-- ---- phases that never go back

abbrev pub KeepsPhases : Machine → Machine → Type 0
KeepsPhases m n = (component : ℕ) → is_uninitialised (phase_at m component) ≡ false → is_uninitialised (phase_at n component) ≡ false

executes_later : (m n : Machine) (pid component : ℕ) (k : ComponentKind) → KeepsPhases m n → ExecutesAs m pid component k → ExecutesAs n pid component k
executes_later m n pid component (kind.Process number) keeps e = e
executes_later m n pid component _ keeps e = keeps component e

pub stack_later : (r : Tables) (m n : Machine) (pid : ℕ) (f : Frame) (es : List Entry) → KeepsPhases m n → StackExecutes r m pid f es → StackExecutes r n pid f es
stack_later r m n pid f [] keeps h = executes_later m n pid f.component (component_at r f.component).kind keeps h
stack_later r m n pid f (Rest at ∷ es) keeps h = stack_later r m n pid f es keeps h
stack_later r m n pid f (Successor at z last ∷ es) keeps h = stack_later r m n pid f es keeps h
stack_later r m n pid f (Return caller slot monitor ∷ es) keeps h = (executes_later m n pid f.component (component_at r f.component).kind keeps h.0, stack_later r m n pid caller es keeps h.1)
stack_later r m n pid f (InitEnd caller component ∷ es) keeps h = (executes_later m n pid f.component (component_at r f.component).kind keeps h.0, stack_later r m n pid caller es keeps h.1)

pub ends_later : (m n : Machine) (es : List Entry) → KeepsPhases m n → EndsBegun m es → EndsBegun n es
ends_later m n [] keeps h = tt
ends_later m n (Rest at ∷ es) keeps h = ends_later m n es keeps h
ends_later m n (Successor at z last ∷ es) keeps h = ends_later m n es keeps h
ends_later m n (Return caller slot monitor ∷ es) keeps h = ends_later m n es keeps h
ends_later m n (InitEnd caller component ∷ es) keeps h = (keeps component h.0, ends_later m n es keeps h.1)

-- ---- components of which no more begin

begun_back : (m n : Machine) → ((q : ℕ) → is_unstarted (thread_at n.threads q).status ≡ is_unstarted (thread_at m.threads q).status) → KeepsPhases n m → (component : ℕ) (k : ComponentKind) → HasBegunAs n component k → HasBegunAs m component k
begun_back m n statuses keeps component (kind.Process number) b = sym (statuses number) ∙ b
begun_back m n statuses keeps component _ b = keeps component b

pub bound_kept : (r : Tables) (m n : Machine) → n.bindings ≡ m.bindings → ((q : ℕ) → is_unstarted (thread_at n.threads q).status ≡ is_unstarted (thread_at m.threads q).status) → KeepsPhases n m → AreBound r m → AreBound r n
bound_kept r m n bindings statuses keeps h = λ component number lt begun count.
    (let old = h component number lt (begun_back m n statuses keeps component (component_at r component).kind begun) count in
    subst (λ bs. IsOf r (parameter_at r (component_at r component).system number).system (slice_index_or bs ((component_at r component).base + (parameter_at r (component_at r component).system number).slot) 0)) (sym bindings) old)

-- ---- parts of a machine

-- the same for one process
abbrev pub ThreadExecutes : Tables → Machine → (pid : ℕ) → Thread → Type 0
ThreadExecutes r m pid t = StackExecutes r m pid t.frame t.stack × EndsBegun m t.stack

pub thread_later : (r : Tables) (m n : Machine) (pid : ℕ) (t : Thread) → KeepsPhases m n → ThreadExecutes r m pid t → ThreadExecutes r n pid t
thread_later r m n pid t keeps h = (stack_later r m n pid t.frame t.stack keeps h.0, ends_later m n t.stack keeps h.1)

abbrev pub AllExecute : Tables → Machine → Type 0
AllExecute r m = (q : ℕ) → q < length m.threads → ThreadExecutes r m q (thread_at m.threads q)

pub all_of : (r : Tables) (m : Machine) → Executing r m → AllExecute r m
all_of r m h q lt = (h.executes q lt, h.ends q lt)

pub executing : (r : Tables) (m : Machine) → AllExecute r m → AreBound r m → Executing r m
executing r m all bound = record { executes = λ q lt. (all q lt).0; ends = λ q lt. (all q lt).1; bound = bound }

-- the same processes, where phases have gone on
pub all_later : (r : Tables) (m n : Machine) → n.threads ≡ m.threads → KeepsPhases m n → AllExecute r m → AllExecute r n
all_later r m n threads keeps h q lt =
    let long : length n.threads ≡ length m.threads = ap length threads in
    let within : q < length m.threads = omega (arith, long) in
    subst (λ ts. ThreadExecutes r n q (thread_at ts q)) (sym threads) (thread_later r m n q (thread_at m.threads q) keeps (h q within))

-- what else changes is no matter of components
pub same_executes : (r : Tables) (m n : Machine) → n.threads ≡ m.threads → n.phases ≡ m.phases → n.bindings ≡ m.bindings → Executing r m → Executing r n
same_executes r m n threads phases bindings h =
    executing r n (all_later r m n threads keeps (all_of r m h)) (bound_kept r m n bindings (λ q. ap (λ ts. is_unstarted (thread_at ts q).status) threads) back h.bound)
  where
    keeps : KeepsPhases m n
    keeps component b = ap (λ ps. is_uninitialised (slice_index_or ps component Uninitialised)) phases ∙ b

    back : KeepsPhases n m
    back component b = ap (λ ps. is_uninitialised (slice_index_or ps component Uninitialised)) (sym phases) ∙ b

-- a thread is replaced
pub thread_all : (r : Tables) (m : Machine) (pid : ℕ) (x : Thread) → (pid < length m.threads → ThreadExecutes r m pid x) → AllExecute r m → AllExecute r (with_thread m pid x)
thread_all r m pid x t h q lt =
    each_set (ThreadExecutes r (with_thread m pid x)) m.threads pid x no_thread (λ within. later pid x (t within)) (λ k within ne. later k (thread_at m.threads k) (h k within)) q
    (let long = length-set m.threads pid x in omega (arith, lt, long))
  where
    later : (q : ℕ) (u : Thread) → ThreadExecutes r m q u → ThreadExecutes r (with_thread m pid x) q u
    later q u k = thread_later r m (with_thread m pid x) q u (λ c b. b) k

-- .. by one that has started if it had
pub thread_executes : (r : Tables) (m : Machine) (pid : ℕ) (x : Thread) → (pid < length m.threads → ThreadExecutes r m pid x) → is_unstarted x.status ≡ is_unstarted (thread_at m.threads pid).status → Executing r m → Executing r (with_thread m pid x)
thread_executes r m pid x t status h =
    executing r (with_thread m pid x) (thread_all r m pid x t (all_of r m h)) (bound_kept r m (with_thread m pid x) refl (read_set (λ (u : Thread). is_unstarted u.status) m.threads pid x status) (λ c b. b) h.bound)

pub status_executes : (r : Tables) (m : Machine) (pid : ℕ) (status : Status) → is_unstarted status ≡ is_unstarted (thread_at m.threads pid).status → Executing r m → Executing r (with_status m pid status)
status_executes r m pid status same h = thread_executes r m pid _ (λ lt. (h.executes pid lt, h.ends pid lt)) same h

pub stack_executes : (r : Tables) (m : Machine) (pid : ℕ) (stack : List Entry) → (pid < length m.threads → StackExecutes r m pid (thread_at m.threads pid).frame stack × EndsBegun m stack) → Executing r m → Executing r (with_stack m pid stack)
stack_executes r m pid stack t h = thread_executes r m pid _ t refl h

-- what a process writes
pub memory_executes : (r : Tables) (m : Machine) (pid : ℕ) (x : Memory) → Executing r m → Executing r (with_memory m pid x)
memory_executes r m pid x h =
    let p = same_executes r m (with_permanents m x.permanents) refl refl refl h in
    thread_executes r _ pid _ (λ lt. (p.executes pid lt, p.ends pid lt)) refl p

phase_set : (ps : List Phase) (c : ℕ) (x : Phase) → is_uninitialised x ≡ is_uninitialised (slice_index_or ps c Uninitialised) → (k : ℕ) → is_uninitialised (slice_index_or (slice_set ps c x) k Uninitialised) ≡ is_uninitialised (slice_index_or ps k Uninitialised)
phase_set ps c x e = set_related (λ (p q : Phase). is_uninitialised q ≡ is_uninitialised p) (λ p. refl) ps c x Uninitialised e

-- a component that has begun goes on to another phase
pub phase_executes : (r : Tables) (m : Machine) (component : ℕ) (phase : Phase) → is_uninitialised (phase_at m component) ≡ false → is_uninitialised phase ≡ false → Executing r m → Executing r (with_phase m component phase)
phase_executes r m component phase old new h =
    let n = with_phase m component phase in
    let same = phase_set m.phases component phase (new ∙ sym old) in
    executing r n (all_later r m n refl (λ c b. (same c ∙ b)) (all_of r m h)) (bound_kept r m n refl (λ q. refl) (λ c b. (sym (same c) ∙ b)) h.bound)

-- ---- statuses

pub at_gate_started : (monitor : ℕ) (s : Status) → is_at_gate monitor s ≡ true → is_unstarted s ≡ false
at_gate_started monitor (AtGate gate) h = refl
at_gate_started monitor _ h = absurd (cc)

delayed_started : (cell : ℕ) (s : Status) → is_delayed_at cell s ≡ true → is_unstarted s ≡ false
delayed_started cell (Delayed queue) h = refl
delayed_started cell _ h = absurd (cc)

abbrev pub HasStarted : Machine → ℕ → Type 0
HasStarted m q = is_unstarted (thread_at m.threads q).status ≡ false

-- those in a line have started
abbrev pub LineStarted : Machine → List ℕ → Type 0
LineStarted m line = (q : ℕ) → has line q ≡ true → HasStarted m q

pub line_started : (m : Machine) (monitor : ℕ) → LinesFit m → LineStarted m (monitor_at m monitor).line
line_started m monitor lines q there = at_gate_started monitor _ (lines.gate monitor q ∙ there)

-- ---- the kernel

goes_in_executes : (r : Tables) (m : Machine) (monitor pid : ℕ) (line : List ℕ) → HasStarted m pid → Executing r m → Executing r (goes_in m monitor pid line)
goes_in_executes r m monitor pid line started h = same_executes r (with_status m pid Ready) _ refl refl refl (status_executes r m pid Ready (sym started) h)

first_in_executes : (r : Tables) (m : Machine) (monitor : ℕ) (line : List ℕ) → LineStarted m line → Executing r m → Executing r (first_in m monitor line)
first_in_executes r m monitor [] started h = same_executes r m _ refl refl refl h
first_in_executes r m monitor (q ∷ line) started h = goes_in_executes r m monitor q line (started q (has_first q line)) h

one_in_executes : (r : Tables) (m : Machine) (monitor : ℕ) (line : List ℕ) → LineStarted m line → Executing r m → Executing r (one_in m monitor line)
one_in_executes r m monitor (q ∷ []) started h = goes_in_executes r m monitor q [] (started q (has_first q [])) h
one_in_executes r m monitor _ started h = same_executes r m _ refl refl refl h

let_in_by_executes : (r : Tables) (gates : Gates) (m : Machine) (monitor : ℕ) (line : List ℕ) → LineStarted m line → Executing r m → Executing r (let_in_by gates m monitor line)
let_in_by_executes r First m monitor line started h = first_in_executes r m monitor line started h
let_in_by_executes r Any m monitor line started h = one_in_executes r m monitor line started h

pub let_in_executes : (r : Tables) (m : Machine) (monitor : ℕ) → LineStarted m (monitor_at m monitor).line → Executing r m → Executing r (let_in m monitor)
let_in_executes r m monitor started h = let_in_by_executes r m.discipline.gates m monitor (monitor_at m monitor).line started h

pub entered_executes : (r : Tables) (m : Machine) (pid monitor : ℕ) → HasStarted m pid → Executing r m → Executing r (enter_caller m pid monitor)
entered_executes r m pid monitor started h = go (monitor_at m monitor).holder
  where
    go : (holder : Option ℕ) → Executing r (enter_by holder m pid monitor)
    go None = same_executes r m _ refl refl refl h
    go (Some q) = same_executes r (with_status m pid (AtGate monitor)) _ refl refl refl (status_executes r m pid (AtGate monitor) (sym started) h)

pub delayed_executes : (r : Tables) (m : Machine) (pid monitor cell : ℕ) → HasStarted m pid → LineStarted m (monitor_at m monitor).line → Executing r m → Executing r (delay_caller m pid monitor cell)
delayed_executes r m pid monitor cell started line h =
    let marked : Machine = record m { permanents = slice_set m.permanents cell (pos 1) } in
    let n = with_status marked pid (Delayed cell) in
    let waits = read_set (λ (u : Thread). is_unstarted u.status) m.threads pid (record (thread_at m.threads pid) { status = Delayed cell }) (sym started) in
    let_in_executes r n monitor (λ q there. (waits q ∙ line q there)) (status_executes r marked pid (Delayed cell) (sym started) (same_executes r m marked refl refl refl h))

pub continued_executes : (r : Tables) (m : Machine) (monitor cell : ℕ) → LineStarted m (monitor_at m monitor).line → Executing r m → Executing r (resume m monitor cell)
continued_executes r m monitor cell line h = go (waits_in m cell) refl
  where
    marked : Machine
    marked = record m { permanents = slice_set m.permanents cell (pos 0) }

    calm : Executing r marked
    calm = same_executes r m marked refl refl refl h

    go : (waiter : Option ℕ) → waits_in m cell ≡ waiter → Executing r (go_on_inside waiter marked monitor)
    go None e = let_in_executes r marked monitor line calm
    go (Some q) e =
        let found = position-Some (λ (t : Thread). is_delayed_at cell t.status) m.threads q no_thread e in
        goes_in_executes r marked monitor q (monitor_at m monitor).line (delayed_started cell _ found.1) calm

signalled_by_executes : (r : Tables) (signals : Signals) (waiter : Option ℕ) (m : Machine) (pid monitor : ℕ) → HasStarted m pid → ((q : ℕ) → waiter ≡ Some q → HasStarted m q) → Executing r m → Executing r (signal_by signals waiter m pid monitor)
signalled_by_executes r signals None m pid monitor started found h = h
signalled_by_executes r signals.Wait (Some q) m pid monitor started found h =
    let waits = read_set (λ (u : Thread). is_unstarted u.status) m.threads pid (record (thread_at m.threads pid) { status = AtGate monitor }) (sym started) in
    goes_in_executes r (with_status m pid (AtGate monitor)) monitor q (pid ∷ (monitor_at m monitor).line) (waits q ∙ found q refl) (status_executes r m pid (AtGate monitor) (sym started) h)
signalled_by_executes r signals.Return (Some q) m pid monitor started found h = same_executes r (with_status m q (AtGate monitor)) _ refl refl refl (status_executes r m q (AtGate monitor) (sym (found q refl)) h)
signalled_by_executes r signals.Continue (Some q) m pid monitor started found h = same_executes r (with_status m q (AtGate monitor)) _ refl refl refl (status_executes r m q (AtGate monitor) (sym (found q refl)) h)

pub signalled_executes : (r : Tables) (m : Machine) (pid monitor cell : ℕ) → HasStarted m pid → Executing r m → Executing r (signal m pid monitor cell)
signalled_executes r m pid monitor cell started h =
    let marked : Machine = record m { permanents = slice_set m.permanents cell (pos 0) } in
    signalled_by_executes r m.discipline.signals (waits_in m cell) marked pid monitor started
    (λ q e. delayed_started cell _ (position-Some (λ (t : Thread). is_delayed_at cell t.status) m.threads q no_thread e).1) (same_executes r m marked refl refl refl h)

-- ---- admission

admitted_at_executes : (r : Tables) (pending : Option ℕ) (m : Machine) (pid : ℕ) → in_line_of pending (thread_at m.threads pid).status ≡ true → Executing r m → Executing r (admit_at pending m pid)
admitted_at_executes r None m pid at h = h
admitted_at_executes r (Some monitor) m pid at h =
    same_executes r (with_status m pid Ready) _ refl refl refl (status_executes r m pid Ready (sym (at_gate_started monitor _ at)) h)

-- an admission keeps what is known of components
pub admitted_executes : (r : Tables) (m : Machine) (pid : ℕ) → in_line m pid ≡ true → Executing r m → Executing r (admit_waiting m pid)
admitted_executes r m pid at h = admitted_at_executes r m.pending m pid at h
