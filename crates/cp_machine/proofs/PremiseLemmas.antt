-- What is known where a part of a step is called follows from what is known of the step.
use Rattle.cp_machine.proofs.Words.{◌≡◌, ◌∙◌, ℕ, ◌<◌, ◌≤◌, ◌∷◌, List, length, Option, None, ap, sym, subst, arith, true, length-map, length-set, slice_index_or, vec_len}
use Rattle.cp_machine.proofs.Words.{ActionFits, CallFits, InnerFits, KindFits, Tables, component_at, item_at, Action, Call, Start, Item, Argument, ComponentPlace, ComponentKind}
use Rattle.cp_machine.proofs.Words.{Entry, Rest, ProcessState, State, Thread, is_ready, machine_of, thread_at, thread_of, under, with_thread}
use Rattle.cp_machine.proofs.Words.{HasCallRoom, IsFirstKnown, IsStateOf, IsTaken, StackFits, ThreadFits, ThreadReaches, StackReaches, CanCall, CanStart, from_end}
use Rattle.cp_machine.proofs.Words.{Frame, IfSome, Return, Some, no_thread, get_or-set_same, routine_at}
use Rattle.cp_slots.specs.declared.tables.ComponentKind.TheVariants as kind
use Rattle.cp_machine.specs.declared.call.Callee.{Callee}
use Rattle.cp_machine.specs.Machine.{Machine, Monitor, monitor_at, no_monitor}
use Rattle.cp_machine.specs.Premises.{CanLeave, CanOpen, CanReplace, CanReturn, CanStep, CanWait, HasGates, HasPartyOf, IsGate, Takes, TakesCall, TakesStart}
use Rattle.cp_machine.specs.Reach.{frame_at}
use Rattle.cp_machine.specs.Results.{HasResult}
use Rattle.cp_machine.proofs.ResultLemmas.{has_result}
use Rattle.cp_machine.proofs.CallOutcomes.{count_within, guards_as}
use Rattle.cp_machine.proofs.TakeLemmas.{guards_count, item_call_room, processes_count}
use Rattle.cp_machine.proofs.frames.Covered.{frame_reaches}
use Rattle.cp_machine.proofs.frames.Framing.{end_reaches}
use Rattle.cp_machine.proofs.frames.ReadLemmas.{ActionReads, taken_fits, taken_reads, taken_room}
use Rattle.cp_machine.proofs.lines.KernelLines.{line_short}
use Rattle.cp_machine.proofs.lines.LineLemmas.{firsts_known}
use Rattle.cp_machine.proofs.parameters.NamingLemmas.{taken_call, taken_start}
use Rattle.cp_machine.proofs.rooms.Keeping.{end_fits, frame_fits}
use Rattle.cp_machine.proofs.rooms.RoomLemmas.{is_busy, within}

-- ---- gates

-- the monitors are the same, and the processes as many
pub gate_kept : (s t : State) (monitor : ℕ) → (machine_of t).monitors ≡ (machine_of s).monitors → length (machine_of t).threads ≡ length (machine_of s).threads → IsGate s monitor → IsGate t monitor
gate_kept s t monitor same count g =
    let line : (monitor_at (machine_of t) monitor).line ≡ (monitor_at (machine_of s) monitor).line = ap (λ (ms : List Monitor). (slice_index_or ms monitor no_monitor).line) same in
    record {
      there = subst (λ n. monitor < n) (sym (guards_as s t same)) g.there;
      first = subst (λ n. IsFirstKnown n (monitor_at (machine_of t) monitor).line) (sym count) (subst (IsFirstKnown (length (machine_of s).threads)) (sym line) g.first);
      room = subst (λ (l : List ℕ). length l < 16) (sym line) g.room;
    }

-- another thread stands in a place
pub thread_gate : (s t : State) (pid : ℕ) (x : Thread) (monitor : ℕ) → machine_of t ≡ with_thread (machine_of s) pid x → IsGate s monitor → IsGate t monitor
thread_gate s t pid x monitor after g =
    gate_kept s t monitor (ap (λ m. m.monitors) after) (ap (λ m. length m.threads) after ∙ length-set (machine_of s).threads pid x) g

pub own_gates : (r : Tables) (s : State) (pid : ℕ) → IsStateOf r s → is_ready (machine_of s) pid ≡ true → HasGates r s
own_gates r s pid own ready monitor lt =
    record {
      there = omega (arith, lt, guards_count r s own);
      first = firsts_known (machine_of s) own.lines monitor;
      room = omega (arith, line_short (machine_of s) monitor pid own.lines ready, length-map s.processes.items thread_of, s.few);
    }

own_party : (r : Tables) (s : State) (k : ComponentKind) → IsStateOf r s → HasGates r s → KindFits r k → HasPartyOf s k
own_party r s (kind.Monitor monitor) own gates fits = gates monitor fits
own_party r s (kind.Process number) own gates fits = omega (arith, fits, processes_count r s own)
own_party r s kind.Class own gates fits = tt

pub party_kept : (s t : State) (k : ComponentKind) → machine_of t ≡ machine_of s → HasPartyOf s k → HasPartyOf t k
party_kept s t (kind.Monitor monitor) same h = gate_kept s t monitor (ap (λ m. m.monitors) same) (ap (λ m. length m.threads) same) h
party_kept s t (kind.Process number) same h = count_within s t number (ap (λ m. length m.threads) same) h
party_kept s t kind.Class same h = tt

-- ---- an item that is taken

module _ {r : Tables} {s : State} {pid at : ℕ} {item : Item} (t : IsTaken r s pid at item) where
  pub item_replaces : CanReplace s pid None
  item_replaces = record { within = t.within; busy = is_busy s pid (Rest at) (under (machine_of s) pid) t.within t.top; room = tt }

  pub item_list : (list : Option ℕ) → InnerFits r (frame_at (machine_of s) pid).routine (item_at r at).need list → CanReplace s pid list
  item_list list i = record { within = t.within; busy = item_replaces.busy; room = taken_room r s pid at item t list i }

  pub item_gates : HasGates r s
  item_gates = own_gates r s pid t.own t.ready

  pub item_party : (component : ℕ) → component < length r.components → HasPartyOf s (component_at r component).kind
  item_party component lt = own_party r s (component_at r component).kind t.own item_gates (t.own.sound.components component lt)

  -- the component that the process executes in
  pub item_component : (frame_at (machine_of s) pid).component < length r.components
  item_component =
      let own = thread_at (machine_of s).threads pid in
      (frame_reaches r own.references own.frame own.stack (t.own.reach.frames pid (within s pid t.within))).component.0

  pub item_waits : (cell monitor : ℕ) → cell < length s.permanents.items → (component_at r (frame_at (machine_of s) pid).component).kind ≡ kind.Monitor monitor → CanWait s pid cell monitor
  item_waits cell monitor lt is = record { replaces = item_replaces; gate = subst (HasPartyOf s) is (item_party (frame_at (machine_of s) pid).component item_component); cell = lt }

  -- where the rest of the entry is removed
  pub item_returns : (n : State) → machine_of n ≡ with_thread (machine_of s) pid (record (thread_at (machine_of s).threads pid) { stack = from_end (under (machine_of s) pid) }) → CanReturn r n pid
  item_returns n after =
      let m = machine_of s in
      let own = thread_at m.threads pid in
      let f = own.frame in
      let es = under m pid in
      let x : Thread = record own { stack = from_end es } in
      let same : thread_at (machine_of n).threads pid ≡ x = ap (λ k. thread_at k.threads pid) after ∙ get_or-set_same m.threads pid x no_thread (within s pid t.within) in
      let fits = t.own.fits.each pid (within s pid t.within) in
      let below : StackFits r f (Rest at ∷ es) = subst (StackFits r f) t.top fits.stack in
      let reaches : StackReaches r own.references f (Rest at ∷ es) = subst (StackReaches r own.references f) t.top (t.own.reach.frames pid (within s pid t.within)) in
      record {
        within = count_within s n pid (ap (λ k. length k.threads) after ∙ length-set m.threads pid x) t.within;
        fits = subst (ThreadFits r) (sym same) (record { stack = end_fits r f es below.1; cells = fits.cells; references = fits.references });
        reaches = subst (ThreadReaches r) (sym same) (end_reaches r own.references f es reaches);
        gates = λ monitor lt. thread_gate s n pid x monitor after (item_gates monitor lt);
      }

module _ {s : State} {pid : ℕ} {item : Item} {a : Action} (t : (r : Tables) × Takes r s pid item a) where
  pub takes_within : pid < length s.processes.items
  takes_within = t.1.taken.within

  pub takes_reads : ActionReads (machine_of s) pid a
  takes_reads = taken_reads t.0 s pid t.1.at item t.1.taken a t.1.says

  pub takes_fits : ActionFits t.0 (frame_at (machine_of s) pid).routine (item_at t.0 t.1.at).need a
  takes_fits = taken_fits t.0 s pid t.1.at item t.1.taken a t.1.says

  pub takes_replaces : CanReplace s pid None
  takes_replaces = item_replaces t.1.taken

  pub takes_list : (list : Option ℕ) → InnerFits t.0 (frame_at (machine_of s) pid).routine (item_at t.0 t.1.at).need list → CanReplace s pid list
  takes_list list i = item_list t.1.taken list i

-- ---- ends

module _ {r : Tables} {s : State} {pid : ℕ} (h : CanStep r s pid) where
  pub step_returns : CanReturn r s pid
  step_returns =
      let lt = within s pid h.within in
      record { within = h.within; fits = h.own.fits.each pid lt; reaches = h.own.reach.frames pid lt; gates = own_gates r s pid h.own h.ready }

module _ {r : Tables} {s : State} {pid : ℕ} (h : CanReturn r s pid) (caller : Frame) where
  abbrev own : Thread
  own = thread_at (machine_of s).threads pid

  leaves : (slot : Option ℕ) → HasResult own caller (routine_at r own.frame.routine).result slot → CanLeave r s pid caller slot
  leaves slot result = record { within = h.within; routine = (frame_fits r own.frame own.stack h.fits.stack).routine; result = result }

  pub init_leaves : CanLeave r s pid caller None
  init_leaves = leaves None tt

  pub return_leaves : (slot monitor : Option ℕ) (es : List Entry) → own.stack ≡ Return caller slot monitor ∷ es → CanLeave r s pid caller slot
  return_leaves slot monitor es top = leaves slot (has_result r own caller slot monitor es h.fits h.reaches top)

  pub return_gate : (slot monitor : Option ℕ) (es : List Entry) → own.stack ≡ Return caller slot monitor ∷ es → IfSome monitor (IsGate s)
  return_gate slot None es top = tt
  return_gate slot (Some monitor) es top =
      let stands : StackFits r own.frame (Return caller slot (Some monitor) ∷ es) = subst (StackFits r own.frame) top h.fits.stack in
      h.gates monitor stands.2

-- ---- calls and starts

pub open_kept : (r : Tables) (s t : State) (pid routine component : ℕ) → machine_of t ≡ machine_of s → t.processes ≡ s.processes → CanOpen r s pid routine component → CanOpen r t pid routine component
open_kept r s t pid routine component same processes h =
    let phases : length t.phases.items ≡ length s.phases.items = ap (λ (m : Machine). length m.phases) same in
    record {
      replaces = record {
        within = subst (λ p. pid < length p.items) (sym processes) h.replaces.within;
        busy = subst (λ p. (d : ProcessState) → 0 < vec_len (slice_index_or p.items pid d).stack) (sym processes) h.replaces.busy;
        room = tt;
      };
      routine = h.routine;
      room = subst (λ p. HasCallRoom r p.items pid routine) (sym processes) h.room;
      there = h.there;
      known = omega (arith, h.known, phases);
      party = party_kept s t (component_at r component).kind same h.party;
    }

item_opens : (r : Tables) (s : State) (pid at : ℕ) (item : Item) (routine component : ℕ) (arguments : List Argument) → IsTaken r s pid at item → CallFits r (frame_at (machine_of s) pid).routine (item_at r at).need routine arguments → component < length r.components → CanOpen r s pid routine component
item_opens r s pid at item routine component arguments t c there =
    let phases : length s.phases.items ≡ length r.components = t.own.fits.phases in
    record {
      replaces = item_replaces t;
      routine = c.routine;
      room = item_call_room r s pid at (under (machine_of s) pid) item t.within t.own t.top t.same routine arguments c;
      there = there;
      known = omega (arith, there, phases);
      party = item_party t component there;
    }

module _ {r : Tables} {s : State} {pid : ℕ} {item : Item} {callee : Callee} {place : ComponentPlace} {arguments : List Argument} (t : TakesCall r s pid item callee place arguments) where
  fits : CallFits r (frame_at (machine_of s) pid).routine (item_at r t.2.at).need callee.routine t.0.items
  fits = taken_fits r s pid t.2.at item t.2.taken (Call callee.routine place callee.is_entry t.0 callee.result) t.2.says

  pub call_can : CanCall r (machine_of s) pid callee.routine place arguments
  call_can = subst (CanCall r (machine_of s) pid callee.routine place) (sym t.1) (taken_call r s pid t.2.at item t.2.taken callee.routine place callee.is_entry t.0 callee.result t.2.says)

  pub call_most : length arguments ≤ r.arguments
  call_most = omega (arith, fits.count, ap length t.1)

  pub call_opens : (component : ℕ) → component < length r.components → CanOpen r s pid callee.routine component
  call_opens component there = item_opens r s pid t.2.at item callee.routine component t.0.items t.2.taken fits there

module _ {r : Tables} {s : State} {pid : ℕ} {item : Item} {place : ComponentPlace} {routine : ℕ} {arguments : List Argument} (t : TakesStart r s pid item place routine arguments) where
  started : CallFits r (frame_at (machine_of s) pid).routine (item_at r t.2.at).need routine t.0.items
  started = taken_fits r s pid t.2.at item t.2.taken (Start place routine t.0) t.2.says

  pub start_can : CanStart r (machine_of s) pid routine place arguments
  start_can = subst (CanStart r (machine_of s) pid routine place) (sym t.1) (taken_start r s pid t.2.at item t.2.taken place routine t.0 t.2.says)

  pub start_most : length arguments ≤ r.arguments
  start_most = omega (arith, started.count, ap length t.1)

  pub start_opens : (component : ℕ) → component < length r.components → CanOpen r s pid routine component
  start_opens component there = item_opens r s pid t.2.at item routine component t.0.items t.2.taken started there
