-- What the item that a process takes needs is there.
use Rattle.cp_machine.proofs.Words.{◌≡◌, ◌∙◌, ℕ, ◌<◌, List, ◌∷◌, length, Option, ap, sym, subst, ℤ, length-map, Tables, item_at, InnerFits, CallFits}
use Rattle.cp_machine.proofs.Words.{ActionFits, Action, Item, Argument, Entry, Rest, Successor, State, machine_of, monitor_of, thread_of}
use Rattle.cp_machine.specs.Fits.{EntryFits, ThreadFits, IsStateOf, IsBusy, HasRoom, HasCallRoom}
use Rattle.cp_machine.proofs.rooms.KeepingAct.{action_fits}
use Rattle.cp_machine.proofs.rooms.RoomLemmas.{thread, within, is_busy, rest_stands, successor_stands, has_room, call_room}

module _ (r : Tables) (s : State) (pid at : ℕ) (e : Entry) (es : List Entry) (item : Item) (lt : pid < length s.processes.items) (own : IsStateOf r s) (top : (thread s pid).stack ≡ e ∷ es) (stands : EntryFits r (thread s pid).frame at (length es)) (same : item ≡ item_at r at) where
  pub taken : (a : Action) → item.action ≡ a → ActionFits r (thread s pid).frame.routine (item_at r at).need a
  taken a is =
      let Q : Action → Type 0 = ActionFits r (thread s pid).frame.routine (item_at r at).need in
      subst Q (ap (λ i. i.action) (sym same) ∙ is) (action_fits r (machine_of s) pid at (length es) own.sound stands)

  pub room_for : (list : Option ℕ) → InnerFits r (thread s pid).frame.routine (item_at r at).need list → HasRoom s pid list
  room_for list i = has_room r s pid at e es list lt own.reserved top stands i

-- the item that is the topmost entry
module _ (r : Tables) (s : State) (pid at : ℕ) (es : List Entry) (item : Item) (lt : pid < length s.processes.items) (own : IsStateOf r s) (top : (thread s pid).stack ≡ Rest at ∷ es) (same : item ≡ item_at r at) where
  pub item_taken : (a : Action) → item.action ≡ a → ActionFits r (thread s pid).frame.routine (item_at r at).need a
  item_taken a is = taken r s pid at (Rest at) es item lt own top (rest_stands r s pid at es lt own.fits top) same a is

  pub item_room : (list : Option ℕ) → InnerFits r (thread s pid).frame.routine (item_at r at).need list → HasRoom s pid list
  item_room list i = room_for r s pid at (Rest at) es item lt own top (rest_stands r s pid at es lt own.fits top) same list i

  pub item_call_room : (routine : ℕ) (arguments : List Argument) → CallFits r (thread s pid).frame.routine (item_at r at).need routine arguments → HasCallRoom r s.processes.items pid routine
  item_call_room routine arguments c = call_room r s pid at es routine arguments lt own top c

  pub item_busy : IsBusy s pid
  item_busy = is_busy s pid (Rest at) es lt top

-- the `for` whose successor is the topmost entry
module _ (r : Tables) (s : State) (pid at : ℕ) (z last : ℤ) (es : List Entry) (item : Item) (lt : pid < length s.processes.items) (own : IsStateOf r s) (top : (thread s pid).stack ≡ Successor at z last ∷ es) (same : item ≡ item_at r at) where
  pub turn_taken : (a : Action) → item.action ≡ a → ActionFits r (thread s pid).frame.routine (item_at r at).need a
  turn_taken a is = taken r s pid at (Successor at z last) es item lt own top (successor_stands r s pid at z last es lt own.fits top) same a is

  pub turn_room : (list : Option ℕ) → InnerFits r (thread s pid).frame.routine (item_at r at).need list → HasRoom s pid list
  turn_room list i = room_for r s pid at (Successor at z last) es item lt own top (successor_stands r s pid at z last es lt own.fits top) same list i

  pub turn_busy : IsBusy s pid
  turn_busy = is_busy s pid (Successor at z last) es lt top

-- as many guards as monitors, and processes as in the tables
pub guards_count : (r : Tables) (s : State) → IsStateOf r s → length s.guards.items ≡ r.monitors
guards_count r s own = sym (length-map s.guards.items monitor_of) ∙ own.fits.monitors

pub processes_count : (r : Tables) (s : State) → IsStateOf r s → length s.processes.items ≡ length r.processes
processes_count r s own = sym (length-map s.processes.items thread_of) ∙ own.fits.threads

pub own_thread : (r : Tables) (s : State) (pid : ℕ) → pid < length s.processes.items → IsStateOf r s → ThreadFits r (thread s pid)
own_thread r s pid lt own = own.fits.each pid (within s pid lt)
