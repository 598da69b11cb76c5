-- Who waits in a queue that is continued is ready after the step, or at the gate, by the discipline.
use Rattle.std.proofs.Common.{◌≡◌, ◌∙◌, ◌<◌, ℕ, zero, suc, arith, false, get_or-set_other, true, List, [], ◌∷◌, length, Option, Some, None, Result, Ok, Err, ap, sym, subst, refl, get_or-set_same}
use Rattle.std.proofs.lemmas.List.{length-set}
use Rattle.std.proofs.lemmas.List.Folds.{position_or_len-set}
use Rattle.std.proofs.lemmas.List.Quantifiers.{position-Some}
use Rattle.std.specs.Prelude.{pos, slice_set}
use Rattle.cp_slots.specs.declared.item.Action.{Action}
use Rattle.cp_slots.specs.declared.item.Action.TheVariants.{Continue}
use Rattle.cp_slots.specs.declared.item.Item.{Item}
use Rattle.cp_slots.specs.declared.tables.ComponentKind.{ComponentKind}
use Rattle.cp_slots.specs.declared.tables.ComponentKind.TheVariants as kind
use Rattle.cp_slots.specs.Tables.{Tables, component_at, item_at}
use Rattle.cp_store.specs.declared.error.ErrorName.{ErrorName}
use Rattle.cp_store.specs.declared.memory.Address.{Address}
use Rattle.cp_store.specs.declared.memory.Address.TheVariants.{Permanent, Local}
use Rattle.cp_machine.specs.declared.event.Event.{Event}
use Rattle.cp_machine.specs.declared.event.Event.TheVariants.{Kernel}
use Rattle.cp_machine.specs.declared.event.Kernel.TheVariants as kernel
use Rattle.cp_machine.specs.declared.process.Entry.{Entry}
use Rattle.cp_machine.specs.declared.process.Entry.TheVariants.{Rest, Successor, Return, InitEnd}
use Rattle.cp_machine.specs.declared.discipline.Signals.{Signals}
use Rattle.cp_machine.specs.declared.discipline.Signals.TheVariants as signals
use Rattle.cp_machine.specs.declared.process.Status.{Status}
use Rattle.cp_machine.specs.declared.process.Status.TheVariants.{Ready, AtGate, Delayed}
use Rattle.cp_machine.specs.Calls.{continue_at, continue_by, continue_from, continue_in, give_up_frame, leave_frame}
use Rattle.cp_machine.specs.Kernel.{change_places, join_line, go_on_inside, signal, signal_by, waits_in}
use Rattle.cp_machine.specs.Machine.{Machine, Thread, is_delayed_at, is_ready, is_ready_status, no_thread, thread_at, with_stack, with_thread}
use Rattle.cp_machine.specs.Memory.{address_of}
use Rattle.cp_machine.specs.Stack.{from_end, rest_of}
use Rattle.cp_machine.specs.Statements.{Stepped, fault, with_value}
use Rattle.cp_machine.specs.Step.{act, step_at, take_top}
use Rattle.cp_story.specs.Aimed.{aim_in, aim_of_top, permanent_cell, queue_of, waiter_in, woken_by}
use Rattle.cp_story.specs.Story.{is_gated, is_queued}
use Rattle.cp_story.specs.Woken.{IsServed}

-- a step that continues a queue, after which a process is ready
abbrev Wakes : ℕ → Stepped → Type 0
Wakes q x = x.event ≡ Kernel kernel.Continue → is_ready x.machine q ≡ true

-- a step of process pid that continues a queue in which a process waited
abbrev Serves : Signals → Machine → (pid q : ℕ) → Stepped → Type 0
Serves s m pid q x = x.event ≡ Kernel kernel.Continue → IsServed s m x.machine pid q

-- ---- who waits in a queue

-- a thread that keeps its status changes no queue
pub still_waits : (m : Machine) (pid : ℕ) (x : Thread) (cell : ℕ) → x.status ≡ (thread_at m.threads pid).status → waits_in (with_thread m pid x) cell ≡ waits_in m cell
still_waits m pid x cell same =
    let delayed = λ (t : Thread). is_delayed_at cell t.status in
    rw (position_or_len-set delayed m.threads pid x no_thread (ap (is_delayed_at cell) same), length-set m.threads pid x) refl

waiter_within : (m : Machine) (cell q : ℕ) → waits_in m cell ≡ Some q → q < length m.threads
waiter_within m cell q e = (position-Some (λ (t : Thread). is_delayed_at cell t.status) m.threads q no_thread e).0

-- it is another one than who is ready
delayed_waits : (cell : ℕ) (u : Status) → is_delayed_at cell u ≡ true → is_ready_status u ≡ false
delayed_waits cell (Delayed c) e = refl
delayed_waits cell u e = absurd (cc)

waiter_other : (m : Machine) (cell pid q : ℕ) → waits_in m cell ≡ Some q → is_ready m pid ≡ true → q ≡ pid → ⊥
waiter_other m cell pid q w ready same =
    let waits = delayed_waits cell (thread_at m.threads q).status (position-Some (λ (t : Thread). is_delayed_at cell t.status) m.threads q no_thread w).1 in
    absurd (let bad : true ≡ false = sym ready ∙ ap (is_ready m) (sym same) ∙ waits in cc)

-- ---- where the caller does not return

within : (ts : List Thread) (p : ℕ) → is_ready_status (thread_at ts p).status ≡ true → p < length ts
within [] p e = absurd (cc)
within (t ∷ ts) zero e = omega (arith)
within (t ∷ ts) (suc p) e = let lt = within ts p e in omega (arith, lt)

-- who is ready stays so with another control stack
stays_ready : (m : Machine) (pid : ℕ) (rest : List Entry) → is_ready m pid ≡ true → is_ready (with_stack m pid rest) pid ≡ true
stays_ready m pid rest e = ap (λ (t : Thread). is_ready_status t.status) (get_or-set_same m.threads pid (record (thread_at m.threads pid) { stack = rest }) no_thread (within m.threads pid e)) ∙ e

module _ (m n : Machine) (monitor pid q : ℕ) (lt : q < length n.threads) (ready : is_ready m pid ≡ true → is_ready n pid ≡ true) (other : is_ready n pid ≡ true → q ≡ pid → ⊥) where
  joined_served : IsServed signals.Continue m (join_line n monitor q) pid q
  joined_served =
      let gated : Thread = record (thread_at n.threads q) { status = AtGate monitor } in (
        ap (λ (t : Thread). is_gated t.status) (get_or-set_same n.threads q gated no_thread lt),
        λ e. ap (λ (t : Thread). is_ready_status t.status) (get_or-set_other n.threads q pid gated no_thread (λ same. other (ready e) (sym same))) ∙ ready e,
      )

  places_served : IsServed signals.Wait m (change_places n monitor pid q) pid q
  places_served =
      let gated : Thread = record (thread_at n.threads pid) { status = AtGate monitor } in
      let threads : List Thread = slice_set n.threads pid gated in
      let back : Thread = record (thread_at threads q) { status = Ready } in
      let here : q < length threads = subst (λ k. q < k) (sym (length-set n.threads pid gated)) lt in (
        ap (λ (t : Thread). is_ready_status t.status) (get_or-set_same threads q back no_thread here),
        λ e.
            ap (λ (t : Thread). is_gated t.status) (get_or-set_other threads q pid back no_thread (λ same. other (ready e) (sym same)))
            ∙ ap (λ (t : Thread). is_gated t.status) (get_or-set_same n.threads pid gated no_thread (within n.threads pid (ready e))),
      )

module _ (m : Machine) (pid cell q : ℕ) (w : waits_in m cell ≡ Some q) (rest : List Entry) where
  abbrev going : Machine
  going = with_stack m pid rest

  abbrev emptied : Machine
  emptied = record going { permanents = slice_set going.permanents cell (pos 0) }

  waits_still : waits_in going cell ≡ Some q
  waits_still = still_waits m pid (record (thread_at m.threads pid) { stack = rest }) cell refl ∙ w

  goes_on_served : (monitor : ℕ) → m.discipline.signals ≡ signals.Continue → IsServed signals.Continue m (signal going pid monitor cell) pid q
  goes_on_served monitor same =
      subst (λ (s : Signals). IsServed signals.Continue m (signal_by s (waits_in going cell) emptied pid monitor) pid q) (sym same)
      (subst (λ (o : Option ℕ). IsServed signals.Continue m (signal_by signals.Continue o emptied pid monitor) pid q) (sym waits_still)
      (joined_served m emptied monitor pid q (waiter_within going cell q waits_still) (stays_ready m pid rest) (waiter_other going cell pid q waits_still)))

  waits_served : (monitor : ℕ) → m.discipline.signals ≡ signals.Wait → IsServed signals.Wait m (signal going pid monitor cell) pid q
  waits_served monitor same =
      subst (λ (s : Signals). IsServed signals.Wait m (signal_by s (waits_in going cell) emptied pid monitor) pid q) (sym same)
      (subst (λ (o : Option ℕ). IsServed signals.Wait m (signal_by signals.Wait o emptied pid monitor) pid q) (sym waits_still)
      (places_served m emptied monitor pid q (waiter_within going cell q waits_still) (stays_ready m pid rest) (waiter_other going cell pid q waits_still)))

  goes_on_serves : (k : ComponentKind) → m.discipline.signals ≡ signals.Continue → Serves signals.Continue m pid q (continue_in m pid cell k rest)
  goes_on_serves (kind.Monitor monitor) same = λ e. goes_on_served monitor same
  goes_on_serves kind.Class same = λ e. absurd (cc)
  goes_on_serves (kind.Process number) same = λ e. absurd (cc)

  waits_serves : (k : ComponentKind) → m.discipline.signals ≡ signals.Wait → Serves signals.Wait m pid q (continue_in m pid cell k rest)
  waits_serves (kind.Monitor monitor) same = λ e. waits_served monitor same
  waits_serves kind.Class same = λ e. absurd (cc)
  waits_serves (kind.Process number) same = λ e. absurd (cc)

-- ---- the step

resumed_ready : (waiter : Option ℕ) (m : Machine) (monitor q : ℕ) → q < length m.threads → waiter ≡ Some q → is_ready (go_on_inside waiter m monitor) q ≡ true
resumed_ready None m monitor q lt e = absurd (cc)
resumed_ready (Some w) m monitor q lt e =
    let same : q ≡ w = cc in
    ap (λ (k : ℕ). is_ready (go_on_inside (Some w) m monitor) k) same ∙ ap (λ (t : Thread). is_ready_status t.status) (get_or-set_same m.threads w (record (thread_at m.threads w) { status = Ready }) no_thread (subst (λ k. k < length m.threads) same lt))

module _ (r : Tables) (q : ℕ) where
  -- the end of an entry is on top
  from_end_wakes : (m : Machine) (pid cell : ℕ) (es : List Entry) → waits_in m cell ≡ Some q → Wakes q (continue_from r m pid cell es)
  from_end_wakes m pid cell (Return caller result (Some monitor) ∷ es) w = λ e.
      let gone = leave_frame r m pid caller result es in
      let waits : waits_in gone cell ≡ Some q = still_waits m pid (give_up_frame r (thread_at m.threads pid) caller result es) cell refl ∙ w in
      resumed_ready (waits_in gone cell) (record gone { permanents = slice_set gone.permanents cell (pos 0) }) monitor q (waiter_within gone cell q waits) waits
  from_end_wakes m pid cell [] w = λ e. absurd (cc)
  from_end_wakes m pid cell (Rest at ∷ es) w = λ e. absurd (cc)
  from_end_wakes m pid cell (Successor at z last ∷ es) w = λ e. absurd (cc)
  from_end_wakes m pid cell (InitEnd caller component ∷ es) w = λ e. absurd (cc)
  from_end_wakes m pid cell (Return caller result None ∷ es) w = λ e. absurd (cc)

  by_discipline : (s : Signals) (m : Machine) (pid cell : ℕ) (next : Option ℕ) (es : List Entry) → m.discipline.signals ≡ s → waits_in m cell ≡ Some q → Serves s m pid q (continue_by s r m pid cell next es)
  by_discipline signals.Return m pid cell next es same w = from_end_wakes (with_stack m pid (from_end es)) pid cell (from_end es) (still_waits m pid (record (thread_at m.threads pid) { stack = from_end es }) cell refl ∙ w)
  by_discipline signals.Continue m pid cell next es same w = goes_on_serves m pid cell q w (rest_of next es) (component_at r (thread_at m.threads pid).frame.component).kind same
  by_discipline signals.Wait m pid cell next es same w = waits_serves m pid cell q w (rest_of next es) (component_at r (thread_at m.threads pid).frame.component).kind same

  abbrev ServesNow : Machine → ℕ → Stepped → Type 0
  ServesNow m pid x = Serves m.discipline.signals m pid q x

  address_wakes : (m : Machine) (pid line : ℕ) (next : Option ℕ) (es : List Entry) (at : Result Address ErrorName) → waiter_in m (permanent_cell at) ≡ Some q → ServesNow m pid (with_value at (fault m pid line) (continue_at r m pid next es))
  address_wakes m pid line next es (Ok (Permanent cell)) w = by_discipline m.discipline.signals m pid cell next es refl w
  address_wakes m pid line next es _ w = absurd (cc)

  action_wakes : (m : Machine) (pid at : ℕ) (item : Item) (a : Action) (es : List Entry) → woken_by m a (queue_of m pid a) ≡ Some q → ServesNow m pid (act r m pid at item a es)
  action_wakes m pid at item (Continue place) es w = address_wakes m pid item.line item.next es (address_of m pid place) w
  action_wakes m pid at item _ es w = absurd (cc)

  top_wakes : (m : Machine) (pid : ℕ) (stack : List Entry) → (aim_of_top r m pid stack).wakes ≡ Some q → ServesNow m pid (take_top r m pid stack)
  top_wakes m pid (Rest at ∷ es) w = action_wakes m pid at (item_at r at) (item_at r at).action es w
  top_wakes m pid [] w = absurd (cc)
  top_wakes m pid (Successor at z last ∷ es) w = absurd (cc)
  top_wakes m pid (InitEnd caller component ∷ es) w = absurd (cc)
  top_wakes m pid (Return caller result None ∷ es) w = absurd (cc)
  top_wakes m pid (Return caller result (Some monitor) ∷ es) w = absurd (cc)

pub woken_served : (r : Tables) (m t : Machine) (pid q : ℕ) → step_at r m pid ≡ record { machine = t; event = Kernel kernel.Continue } → (aim_in r m pid).wakes ≡ Some q → IsServed m.discipline.signals m t pid q
woken_served r m t pid q step w =
    subst (λ (x : Stepped). IsServed m.discipline.signals m x.machine pid q) step (top_wakes r q m pid (thread_at m.threads pid).stack w (ap (λ (x : Stepped). x.event) step))

-- ---- it is no longer delayed

ready_left : (u : Status) → is_ready_status u ≡ true → is_queued u ≡ false
ready_left Ready e = refl
ready_left u e = absurd (cc)

gated_left : (u : Status) → is_gated u ≡ true → is_queued u ≡ false
gated_left (AtGate monitor) e = refl
gated_left u e = absurd (cc)

served_left : (s : Signals) (m t : Machine) (pid q : ℕ) → IsServed s m t pid q → is_queued (thread_at t.threads q).status ≡ false
served_left signals.Return m t pid q h = ready_left (thread_at t.threads q).status h
served_left signals.Continue m t pid q h = gated_left (thread_at t.threads q).status h.0
served_left signals.Wait m t pid q h = ready_left (thread_at t.threads q).status h.0

pub woken_left : (r : Tables) (m t : Machine) (pid q : ℕ) → step_at r m pid ≡ record { machine = t; event = Kernel kernel.Continue } → (aim_in r m pid).wakes ≡ Some q → is_queued (thread_at t.threads q).status ≡ false
woken_left r m t pid q step w = served_left m.discipline.signals m t pid q (woken_served r m t pid q step w)
