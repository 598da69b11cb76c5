-- What the kernel does keeps each process inside what was reserved for it.
use Rattle.std.proofs.Common.{◌≡◌, ℕ, ◌<◌, ◌∙◌, List, [], ◌∷◌, Option, Some, None, length, arith}
use Rattle.cp_machine.proofs.Words.{ℤ, IfSome, pos, slice_set, length-set, Tables, First, Any, Status, Ready, AtGate, Delayed, MachineFits}
use Rattle.cp_machine.proofs.Words.{ThreadFits, admit_waiting, admit_at, without}
use Rattle.cp_machine.proofs.ListLemmas.{each_set}
use Rattle.cp_machine.specs.declared.discipline.Gates.{Gates}
use Rattle.cp_machine.specs.Kernel.{let_in, let_in_by, first_in, one_in, free, goes_in, enter_caller, enter_by, delay_caller, resume, go_on_inside, waits_in, signal_by, signal}
use Rattle.cp_machine.specs.declared.discipline.Signals.{Signals}
use Rattle.cp_machine.specs.declared.discipline.Signals.TheVariants as signals
use Rattle.cp_machine.specs.Machine.{Machine, Thread, Monitor, thread_at, no_thread, monitor_at, with_thread, with_status, with_monitor, with_pending, with_permanents}

-- ---- parts of a machine

-- a thread is replaced by one that fits
pub thread_fits : (r : Tables) (m : Machine) (pid : ℕ) (x : Thread) → (pid < length m.threads → ThreadFits r x) → MachineFits r m → MachineFits r (with_thread m pid x)
thread_fits r m pid x fit h =
    let long = length-set m.threads pid x in
    record {
      threads = long ∙ h.threads;
      permanents = h.permanents;
      bindings = h.bindings;
      phases = h.phases;
      monitors = h.monitors;
      pending = h.pending;
      each = λ q lt. each_set (λ k. ThreadFits r) m.threads pid x no_thread fit (λ k within ne. h.each k within) q (omega (arith, lt, long));
    }

pub status_fits : (r : Tables) (m : Machine) (pid : ℕ) (status : Status) → MachineFits r m → MachineFits r (with_status m pid status)
status_fits r m pid status h = thread_fits r m pid _ (λ lt. (let t : ThreadFits r (thread_at m.threads pid) = h.each pid lt in record { stack = t.stack; cells = t.cells; references = t.references })) h

pub permanents_fit : (r : Tables) (m : Machine) (permanents : List ℤ) → length permanents ≡ length m.permanents → MachineFits r m → MachineFits r (with_permanents m permanents)
permanents_fit r m permanents same h = record { threads = h.threads; permanents = same ∙ h.permanents; bindings = h.bindings; phases = h.phases; monitors = h.monitors; pending = h.pending; each = h.each }

pub monitor_fits : (r : Tables) (m : Machine) (monitor : ℕ) (x : Monitor) → MachineFits r m → MachineFits r (with_monitor m monitor x)
monitor_fits r m monitor x h = record { threads = h.threads; permanents = h.permanents; bindings = h.bindings; phases = h.phases; monitors = length-set m.monitors monitor x ∙ h.monitors; pending = h.pending; each = h.each }

pub pending_fits : (r : Tables) (m : Machine) (pending : Option ℕ) → IfSome pending (λ monitor. monitor < r.monitors) → MachineFits r m → MachineFits r (with_pending m pending)
pending_fits r m pending some h = record { threads = h.threads; permanents = h.permanents; bindings = h.bindings; phases = h.phases; monitors = h.monitors; pending = some; each = h.each }

-- ---- the kernel

goes_in_fits : (r : Tables) (m : Machine) (monitor pid : ℕ) (line : List ℕ) → MachineFits r m → MachineFits r (goes_in m monitor pid line)
goes_in_fits r m monitor pid line h = monitor_fits r (with_status m pid Ready) monitor _ (status_fits r m pid Ready h)

first_in_fits : (r : Tables) (m : Machine) (monitor : ℕ) (line : List ℕ) → MachineFits r m → MachineFits r (first_in m monitor line)
first_in_fits r m monitor [] h = monitor_fits r m monitor _ h
first_in_fits r m monitor (q ∷ line) h = goes_in_fits r m monitor q line h

one_in_fits : (r : Tables) (m : Machine) (monitor : ℕ) (line : List ℕ) → MachineFits r m → monitor < r.monitors → MachineFits r (one_in m monitor line)
one_in_fits r m monitor [] h lt = monitor_fits r m monitor _ h
one_in_fits r m monitor (q ∷ []) h lt = goes_in_fits r m monitor q [] h
one_in_fits r m monitor (p ∷ q ∷ line) h lt = pending_fits r (free m monitor (p ∷ q ∷ line)) (Some monitor) lt (monitor_fits r m monitor _ h)

let_in_by_fits : (r : Tables) (gates : Gates) (m : Machine) (monitor : ℕ) (line : List ℕ) → MachineFits r m → monitor < r.monitors → MachineFits r (let_in_by gates m monitor line)
let_in_by_fits r First m monitor line h lt = first_in_fits r m monitor line h
let_in_by_fits r Any m monitor line h lt = one_in_fits r m monitor line h lt

pub let_in_fits : (r : Tables) (m : Machine) (monitor : ℕ) → MachineFits r m → monitor < r.monitors → MachineFits r (let_in m monitor)
let_in_fits r m monitor h lt = let_in_by_fits r m.discipline.gates m monitor (monitor_at m monitor).line h lt

entered_by_fits : (r : Tables) (holder : Option ℕ) (m : Machine) (pid monitor : ℕ) → MachineFits r m → MachineFits r (enter_by holder m pid monitor)
entered_by_fits r None m pid monitor h = monitor_fits r m monitor _ h
entered_by_fits r (Some q) m pid monitor h = monitor_fits r (with_status m pid (AtGate monitor)) monitor _ (status_fits r m pid (AtGate monitor) h)

pub entered_fits : (r : Tables) (m : Machine) (pid monitor : ℕ) → MachineFits r m → MachineFits r (enter_caller m pid monitor)
entered_fits r m pid monitor h = entered_by_fits r (monitor_at m monitor).holder m pid monitor h

-- a queue's cell is written
marked_fits : (r : Tables) (m : Machine) (cell : ℕ) (mark : ℤ) → MachineFits r m → MachineFits r (record m { permanents = slice_set m.permanents cell mark })
marked_fits r m cell mark h = permanents_fit r m (slice_set m.permanents cell mark) (length-set m.permanents cell mark) h

pub delayed_fits : (r : Tables) (m : Machine) (pid monitor cell : ℕ) → MachineFits r m → monitor < r.monitors → MachineFits r (delay_caller m pid monitor cell)
delayed_fits r m pid monitor cell h lt = let_in_fits r _ monitor (status_fits r _ pid (Delayed cell) (marked_fits r m cell (pos 1) h)) lt

resumed_fits : (r : Tables) (waiter : Option ℕ) (m : Machine) (monitor : ℕ) → MachineFits r m → monitor < r.monitors → MachineFits r (go_on_inside waiter m monitor)
resumed_fits r None m monitor h lt = let_in_fits r m monitor h lt
resumed_fits r (Some q) m monitor h lt = goes_in_fits r m monitor q (monitor_at m monitor).line h

pub continued_fits : (r : Tables) (m : Machine) (monitor cell : ℕ) → MachineFits r m → monitor < r.monitors → MachineFits r (resume m monitor cell)
continued_fits r m monitor cell h lt = resumed_fits r (waits_in m cell) _ monitor (marked_fits r m cell (pos 0) h) lt

signalled_by_fits : (r : Tables) (signals : Signals) (waiter : Option ℕ) (m : Machine) (pid monitor : ℕ) → MachineFits r m → MachineFits r (signal_by signals waiter m pid monitor)
signalled_by_fits r signals None m pid monitor h = h
signalled_by_fits r signals.Wait (Some q) m pid monitor h = goes_in_fits r (with_status m pid (AtGate monitor)) monitor q (pid ∷ (monitor_at m monitor).line) (status_fits r m pid (AtGate monitor) h)
signalled_by_fits r signals.Return (Some q) m pid monitor h = monitor_fits r (with_status m q (AtGate monitor)) monitor _ (status_fits r m q (AtGate monitor) h)
signalled_by_fits r signals.Continue (Some q) m pid monitor h = monitor_fits r (with_status m q (AtGate monitor)) monitor _ (status_fits r m q (AtGate monitor) h)

pub signalled_fits : (r : Tables) (m : Machine) (pid monitor cell : ℕ) → MachineFits r m → MachineFits r (signal m pid monitor cell)
signalled_fits r m pid monitor cell h = signalled_by_fits r m.discipline.signals (waits_in m cell) _ pid monitor (marked_fits r m cell (pos 0) h)

-- ---- admission

admitted_at_fits : (r : Tables) (pending : Option ℕ) (m : Machine) (pid : ℕ) → MachineFits r m → MachineFits r (admit_at pending m pid)
admitted_at_fits r None m pid h = h
admitted_at_fits r (Some monitor) m pid h =
    let ready = status_fits r m pid Ready h in
    let inside = monitor_fits r (with_status m pid Ready) monitor (record { holder = Some pid; line = without pid (monitor_at m monitor).line }) ready in
    pending_fits r _ None tt inside

pub admitted_fits : (r : Tables) (m : Machine) (pid : ℕ) → MachineFits r m → MachineFits r (admit_waiting m pid)
admitted_fits r m pid h = admitted_at_fits r m.pending m pid h
