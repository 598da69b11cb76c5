-- What each change of a machine in a step keeps, the step keeps. And a machine that has another output takes the same step with it, but where something is displayed.
use Rattle.cp_machine.proofs.Words.{◌≡◌, ℕ, List, [], ◌∷◌, Option, Some, None, true, false, refl, pos, slice_set, Tables, Event, Discipline, First, Any, Entry, Status}
use Rattle.cp_machine.proofs.Words.{Ready, AtGate, Delayed, Ended, Phase, Initialised, Stepped, step_at, Shown, Machine, Thread, thread_at, monitor_at, is_unstarted}
use Rattle.cp_machine.proofs.Words.{with_thread, with_status, with_permanents, with_pending, with_phase, show}
use Rattle.cp_machine.specs.declared.event.Event.TheVariants.{Local}
use Rattle.cp_machine.specs.declared.event.Kernel.{Kernel as KernelCall}
use Rattle.cp_machine.specs.declared.event.Kernel.TheVariants as call
use Rattle.cp_machine.specs.declared.discipline.Gates.{Gates}
use Rattle.cp_machine.specs.declared.discipline.Signals.{Signals}
use Rattle.cp_machine.specs.declared.discipline.Signals.TheVariants as signals
use Rattle.cp_machine.specs.Machine.{is_delayed_at, no_thread}
use Rattle.cp_machine.specs.Kernel.{first_in, one_in, let_in, let_in_by, enter_by, delay_caller, go_on_inside, waits_in, signal_by, signal}
use Rattle.std.proofs.lemmas.List.Quantifiers.{position-Some}
use Rattle.cp_machine.proofs.Stepping.{Does, Calls, Walking, step_blind, show_either}

-- ---- what is kept

-- a property of a machine by some of its parts, so that the others may change
abbrev pub Property : Type 1
Property = Discipline → Option ℕ → List Thread → List Phase → List ℕ → List Shown → Type 0

abbrev pub Kept : Property → Machine → Type 0
Kept P m = P m.discipline m.pending m.threads m.phases m.bindings m.output

-- what process `pid` does keeps it, but perhaps where something starts or is displayed
pub record Keeping (P : Property) (pid : ℕ) : Type 0 where
  pub changed : (m : Machine) (x : Thread) → x.status ≡ (thread_at m.threads pid).status → Kept P m → Kept P (with_thread m pid x)
  pub initialised : (m : Machine) (component : ℕ) → Kept P m → Kept P (with_phase m component Initialised)
  -- it waits or has ended; whatever process is ready; one of a line has to be admitted
  pub settled : (m : Machine) (status : Status) → is_unstarted status ≡ false → Kept P m → Kept P (with_status m pid status)
  pub readied : (m : Machine) (p : ℕ) → Kept P m → Kept P (with_status m p Ready)
  -- who was delayed comes to a gate
  pub gated : (m : Machine) (p cell monitor : ℕ) → is_delayed_at cell (thread_at m.threads p).status ≡ true → Kept P m → Kept P (with_status m p (AtGate monitor))
  pub wanted : (m : Machine) (monitor : ℕ) → m.discipline.gates ≡ Any → Kept P m → Kept P (with_pending m (Some monitor))

-- `S` holds of what a machine comes to and of the same with output `o`
module _ (P : Property) (pid : ℕ) (keep : Keeping P pid) (o : List Shown) (S : Stepped → Stepped → Type 0) (done : (m : Machine) (event : Event) → Kept P m → Does S o (λ x. record { machine = x; event = event }) m) where
  first_in_both : (k : KernelCall) (m : Machine) (monitor : ℕ) (line : List ℕ) → Kept P m → Calls S o k (λ x. first_in x monitor line) m
  first_in_both k m monitor [] h = done _ _ h
  first_in_both k m monitor (q ∷ line) h = done _ _ (keep.readied m q h)

  one_in_both : (k : KernelCall) (m : Machine) (monitor : ℕ) (line : List ℕ) → m.discipline.gates ≡ Any → Kept P m → Calls S o k (λ x. one_in x monitor line) m
  one_in_both k m monitor [] any h = done _ _ h
  one_in_both k m monitor (q ∷ []) any h = done _ _ (keep.readied m q h)
  one_in_both k m monitor (p ∷ q ∷ line) any h = done _ _ (keep.wanted m monitor any h)

  let_in_by_both : (k : KernelCall) (gates : Gates) (m : Machine) (monitor : ℕ) (line : List ℕ) → m.discipline.gates ≡ gates → Kept P m → Calls S o k (λ x. let_in_by gates x monitor line) m
  let_in_by_both k First m monitor line e h = first_in_both k m monitor line h
  let_in_by_both k Any m monitor line e h = one_in_both k m monitor line e h

  let_in_both : (k : KernelCall) (m : Machine) (monitor : ℕ) → Kept P m → Calls S o k (λ x. let_in x monitor) m
  let_in_both k m monitor h = let_in_by_both k m.discipline.gates m monitor (monitor_at m monitor).line refl h

  entered_by_both : (holder : Option ℕ) (m : Machine) (monitor : ℕ) → Kept P m → Calls S o call.Enter (λ x. enter_by holder x pid monitor) m
  entered_by_both None m monitor h = done _ _ h
  entered_by_both (Some q) m monitor h = done _ _ (keep.settled m (AtGate monitor) refl h)

  delayed_both : (m : Machine) (monitor cell : ℕ) → Kept P m → Calls S o call.Delay (λ x. delay_caller x pid monitor cell) m
  delayed_both m monitor cell h =
      let marked : Machine = with_permanents m (slice_set m.permanents cell (pos 1)) in
      let_in_both call.Delay (with_status marked pid (Delayed cell)) monitor (keep.settled marked (Delayed cell) refl h)

  resumed_both : (waiter : Option ℕ) (m : Machine) (monitor : ℕ) → Kept P m → Calls S o call.Continue (λ x. go_on_inside waiter x monitor) m
  resumed_both None m monitor h = let_in_both call.Continue m monitor h
  resumed_both (Some q) m monitor h = done _ _ (keep.readied m q h)

  signalled_by_both : (signals : Signals) (waiter : Option ℕ) (m : Machine) (monitor cell : ℕ) → ((q : ℕ) → waiter ≡ Some q → is_delayed_at cell (thread_at m.threads q).status ≡ true) → Kept P m → Calls S o call.Continue (λ x. signal_by signals waiter x pid monitor) m
  signalled_by_both signals None m monitor cell found h = done _ _ h
  signalled_by_both signals.Wait (Some q) m monitor cell found h = done _ _ (keep.readied (with_status m pid (AtGate monitor)) q (keep.settled m (AtGate monitor) refl h))
  signalled_by_both signals.Return (Some q) m monitor cell found h = done _ _ (keep.gated m q cell monitor (found q refl) h)
  signalled_by_both signals.Continue (Some q) m monitor cell found h = done _ _ (keep.gated m q cell monitor (found q refl) h)

  signalled_both : (m : Machine) (monitor cell : ℕ) → Kept P m → Calls S o call.Continue (λ x. signal x pid monitor cell) m
  signalled_both m monitor cell h =
      signalled_by_both m.discipline.signals (waits_in m cell) (with_permanents m (slice_set m.permanents cell (pos 0))) monitor cell (λ q e. (position-Some (λ (t : Thread). is_delayed_at cell t.status) m.threads q no_thread e).1) h

  pub walking : (r : Tables) (m : Machine) → Kept P m → ((rest : List Entry) (v : Shown) → Does S o (λ x. show x pid rest v) m) → Walking r m pid o S (λ n. Kept P n)
  walking r m h shows =
      record {
        begins = h;
        changed = λ n permanents x e k. keep.changed n x e k;
        initialised = λ n component k. keep.initialised n component k;
        goes = λ n k. done n Local k;
        fails = λ event. done m event h;
        enters = λ component monitor is n k. entered_by_both (monitor_at n monitor).holder n monitor k;
        leaves = λ monitor n k. let_in_both call.Leave n monitor k;
        delays = λ monitor cell n k. delayed_both n monitor cell k;
        continues = λ monitor cell n k. resumed_both (waits_in n cell) (with_permanents n (slice_set n.permanents cell (pos 0))) monitor k;
        signals = λ component monitor is cell n k. signalled_both n monitor cell k;
        ends = done _ _ (keep.settled m Ended refl h);
        shows = shows;
      }

-- What is kept where process `pid` changes its thread, where somebody is made ready, and where one of a line has to be admitted:
-- a property of the gates, of the monitor that somebody is to be let into, and of the threads.
pub step_keeps : (P : Discipline → Option ℕ → List Thread → Type 0) (pid : ℕ)
    → ((discipline : Discipline) (pending : Option ℕ) (ts : List Thread) (x : Thread) → P discipline pending ts → P discipline pending (slice_set ts pid x))
    → ((discipline : Discipline) (pending : Option ℕ) (ts : List Thread) (p : ℕ) → P discipline pending ts → P discipline pending (slice_set ts p (record (thread_at ts p) { status = Ready })))
    → ((discipline : Discipline) (pending : Option ℕ) (ts : List Thread) (p cell monitor : ℕ) → is_delayed_at cell (thread_at ts p).status ≡ true → P discipline pending ts → P discipline pending (slice_set ts p (record (thread_at ts p) { status = AtGate monitor })))
    → ((discipline : Discipline) (pending : Option ℕ) (ts : List Thread) (monitor : ℕ) → discipline.gates ≡ Any → P discipline pending ts → P discipline (Some monitor) ts)
    → (r : Tables) (m : Machine) → P m.discipline m.pending m.threads → P (step_at r m pid).machine.discipline (step_at r m pid).machine.pending (step_at r m pid).machine.threads
step_keeps P pid changed readied gated wanted r m h =
    step_blind r m pid [] (λ x y. S x) (λ n. Kept Q n) (walking Q pid keep [] (λ x y. S x) (λ n event k. k) r m h (λ rest v. show_either S m pid rest v h (changed m.discipline m.pending m.threads _ h)))
    (λ n phases bindings k. k) (λ q is n k. readied n.discipline n.pending n.threads q k)
  where
    Q : Property
    Q discipline pending ts phases bindings output = P discipline pending ts

    S : Stepped → Type 0
    S x = P x.machine.discipline x.machine.pending x.machine.threads

    keep : Keeping Q pid
    keep =
        record {
          changed = λ n x e k. changed n.discipline n.pending n.threads x k;
          initialised = λ n component k. k;
          settled = λ n status e k. changed n.discipline n.pending n.threads _ k;
          readied = λ n p k. readied n.discipline n.pending n.threads p k;
          gated = λ n p cell monitor at k. gated n.discipline n.pending n.threads p cell monitor at k;
          wanted = λ n monitor any k. wanted n.discipline n.pending n.threads monitor any k;
        }

-- What two machines that differ in their output come to: it is shown where both do the same but to their outputs, and where something is displayed.
pub step_twins : (o : List Shown) (S : Stepped → Stepped → Type 0) (r : Tables) (m : Machine) (pid : ℕ)
    → ((n : Machine) (event : Event) → n.output ≡ m.output → Does S o (λ x. record { machine = x; event = event }) n)
    → ((rest : List Entry) (v : Shown) → Does S o (λ x. show x pid rest v) m) → Does S o (λ x. step_at r x pid) m
step_twins o S r m pid done shows = step_blind r m pid o S (λ n. Kept Q n) (walking Q pid keep o S done r m refl shows) (λ n phases bindings k. k) (λ q is n k. done _ _ k)
  where
    Q : Property
    Q discipline pending ts phases bindings output = output ≡ m.output

    keep : Keeping Q pid
    keep = record { changed = λ n x e k. k; initialised = λ n component k. k; settled = λ n status e k. k; readied = λ n p k. k; gated = λ n p cell monitor at k. k; wanted = λ n monitor any k. k }
