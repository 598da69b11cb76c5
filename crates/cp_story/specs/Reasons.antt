-- Why nobody goes on where all wait: of each process that waits in a queue, since which event, which routines have a `continue` of this queue, which events
-- continued it while nobody waited there, and which processes that wait could still come to such a `continue`. Where the index of an array of queues is computed, it is not known
-- ahead which of them is continued.
use Rattle.std.specs.Prelude.{ℕ, zero, suc, ◌+◌, ◌-◌, ◌==◌, ◌&&◌, not, nat_le, nat_lt, nat_eq, ◌-ℤ◌, ℤ, int_lt, unsigned_abs, Bool, true, false, if◌then◌else◌, List, [], ◌∷◌, ◌++◌, map, length, Option, Some, None, slice_get}
use Rattle.std.specs.List.{list_any}
use Rattle.std.specs.Cmp.Lexicographic.{pointwise}
use Rattle.cp_slots.specs.declared.item.Action.{Action}
use Rattle.cp_slots.specs.declared.item.Action.TheVariants.{Continue}
use Rattle.cp_slots.specs.declared.item.Item.{Item}
use Rattle.cp_slots.specs.declared.place.Place as code_place
use Rattle.cp_slots.specs.declared.place.Index as code_index
use Rattle.cp_slots.specs.declared.place.PlaceOrigin.{PlaceOrigin}
use Rattle.cp_slots.specs.declared.place.PlaceOrigin.TheVariants as origin
use Rattle.cp_slots.specs.Tables.{Tables, item_at, routine_at}
use Rattle.cp_symbols.specs.Kinds.{plus, times}
use Rattle.cp_legend.specs.Names.{Legend, Named, legend_seen}
use Rattle.cp_legend.specs.Places.{owner}
use Rattle.cp_machine.specs.declared.discipline.Discipline.{Discipline}
use Rattle.cp_machine.specs.declared.process.Status.{Status}
use Rattle.cp_machine.specs.declared.process.Status.TheVariants as status
use Rattle.cp_machine.specs.Machine.{Machine, machine_of, monitor_at, thread_at}
use Rattle.cp_run.specs.declared.outcome.OutcomeKind.{OutcomeKind}
use Rattle.cp_run.specs.declared.outcome.OutcomeKind.TheVariants.{AllWaiting}
use Rattle.cp_run.specs.Run.{Answer, Ended, run, those_below}
use Rattle.cp_run.specs.Slots.{slots}
use Rattle.cp_run.specs.Stop.{last_state}
use Rattle.cp_run.specs.Table.{each}
use Rattle.cp_story.specs.Ahead.{element_at, item_count, statements_ahead, written_index}
use Rattle.cp_story.specs.Story.{Happened, Delays, Continues, NamedQueue, Told, queue_at, story_of}
use Rattle.cp_story.specs.Views.{told_of}
use Rattle.cp_story.specs.Waiting.{Waiting, waits_at, who_waits}
use Rattle.cp_story.specs.declared.ahead.Ahead.{Ahead}
use Rattle.cp_story.specs.declared.reasons.Caller.{Caller}
use Rattle.cp_story.specs.declared.reasons.Standstill as code
use Rattle.cp_story.specs.declared.reasons.WaitReason.{WaitReason}

pub record Reason : Type 0 where
  pub process : ℕ
  -- the cell of the queue
  pub queue : ℕ
  -- the number of the event with which it began to wait, counted from 1
  pub since : ℕ
  -- the routines that have a `continue` of the queue
  pub entries : List ℕ
  -- those that have one of an element of its array by a computed index, which may be the queue
  pub perhaps : List ℕ
  -- the numbers of the events that continued it where nobody waited there
  pub in_vain : List ℕ
  -- who could still come to such a `continue`, and waits
  pub callers : List Caller

abbrev pub reason_seen : WaitReason → Reason
reason_seen r = record { process = r.process; queue = r.queue; since = r.since; entries = r.entries.items; perhaps = r.perhaps.items; in_vain = r.in_vain.items; callers = r.callers.items }

-- the state in which all wait, the events that led there, and the statements that each process could still come to
pub record Standstill : Type 0 where
  pub legend : Legend
  pub tables : Tables
  pub machine : Machine
  pub events : List Told
  pub ahead : List Ahead

abbrev pub standstill_seen : code.Standstill → Standstill
standstill_seen s = record { legend = legend_seen s.legend.now; tables = s.program.now; machine = machine_of s.state.now; events = map told_of s.events.now; ahead = s.ahead.now }

-- ---- in the events, where so many come before these

-- the number of the next event, if a process begins to wait in a queue with it; else that which was found
abbrev pub delay_by : (process found before before_it : ℕ) → Happened → ℕ
delay_by p found before q (Delays queue call) = if q == p then before + 1 else found
delay_by p found before q _ = found

abbrev pub with_delay : (process found before : ℕ) → Told → ℕ
with_delay p found before e = delay_by p found before e.process e.happened

-- the number of the last event with which a process began to wait in a queue, where this was found before
abbrev pub since : (process found before : ℕ) → List Told → ℕ
since p found before [] = found
since p found before (e ∷ es) = since p (with_delay p found before e) (before + 1) es

abbrev pub is_same : NamedQueue → NamedQueue → Bool
is_same q r = q.monitor == r.monitor && pointwise nat_eq q.name r.name

abbrev pub is_lost_by : NamedQueue → (woken : List ℕ) → Happened → Bool
is_lost_by q woken (Continues other call signals) = length woken == 0 && is_same other q
is_lost_by q woken _ = false

-- an event that continues a queue where nobody waits
abbrev pub is_lost : NamedQueue → Told → Bool
is_lost q e = is_lost_by q e.woken e.happened

abbrev pub with_lost : NamedQueue → (found : List ℕ) → (before : ℕ) → Told → List ℕ
with_lost q found before e = if is_lost q e then found ++ (before + 1) ∷ [] else found

-- the numbers of these events, after those that were found before
abbrev pub in_vain : NamedQueue → (found : List ℕ) → (before : ℕ) → List Told → List ℕ
in_vain q found before [] = found
in_vain q found before (e ∷ es) = in_vain q (with_lost q found before e) (before + 1) es

-- ---- in the tables

-- the cells of all elements of an array
abbrev pub cells_of : code_index.Index → ℕ
cells_of i = times (plus (unsigned_abs ((code_index.out-Index i).high -ℤ (code_index.out-Index i).low)) 1) (code_index.out-Index i).size

abbrev pub is_cell : (own : ℕ) → Option ℕ → Bool
is_cell own None = false
is_cell own (Some cell) = cell == own

-- whether a cell is the element of this index, or may be where the index is computed
abbrev pub is_element_at : code_index.Index → (start own : ℕ) → Option ℤ → Bool
is_element_at i start own (Some z) = is_cell own (element_at start (code_index.out-Index i).low (code_index.out-Index i).high (code_index.out-Index i).size z)
is_element_at i start own None = nat_le start own && nat_lt own (plus start (cells_of i))

abbrev pub is_element : code_index.Index → (start own : ℕ) → Bool
is_element i start own = is_element_at i start own (written_index (code_index.out-Index i).at)

abbrev pub is_part : Option code_index.Index → (start own : ℕ) → Bool
is_part None start own = own == start
is_part (Some i) start own = is_element i start own

-- whether a place that begins at a permanent cell of a component is this cell of it, or may be, by its first index: a queue stands alone or in an array of one index
abbrev pub begins_at : PlaceOrigin → (offset own : ℕ) → List code_index.Index → Bool
begins_at (origin.Permanent slot) offset own is = is_part (slice_get is 0) (plus slot offset) own
begins_at _ offset own is = false

abbrev pub has_cell : (own : ℕ) → code_place.Place → Bool
has_cell own p = begins_at (code_place.out-Place p).origin (code_place.out-Place p).offset own (code_place.out-Place p).indices.items

abbrev pub may_continue : (own : ℕ) → Action → Bool
may_continue own (Continue place) = has_cell own place
may_continue own _ = false

-- whether a computed index may be that of another element, too
abbrev pub is_open_at : code_index.Index → Option ℤ → Bool
is_open_at i (Some z) = false
is_open_at i None = int_lt (code_index.out-Index i).low (code_index.out-Index i).high

abbrev pub is_open : Option code_index.Index → Bool
is_open None = false
is_open (Some i) = is_open_at i (written_index (code_index.out-Index i).at)

-- whether it isn't known ahead of which element an item continues the queue
abbrev pub is_computed : Action → Bool
is_computed (Continue place) = is_open (slice_get (code_place.out-Place place).indices.items 0)
is_computed _ = false

-- by a computed index, or else surely
abbrev pub continues_by : (computed : Bool) → (own : ℕ) → Action → Bool
continues_by computed own a = may_continue own a && (if computed then is_computed a else not (is_computed a))

abbrev pub has_number : List ℕ → ℕ → Bool
has_number ns n = list_any (λ m. m == n) ns

abbrev pub is_continuing : Tables → (computed : Bool) → (system own : ℕ) → Item → Bool
is_continuing r computed system own i = (routine_at r i.routine).system == system && continues_by computed own i.action

abbrev pub with_entry : Tables → (computed : Bool) → (system own : ℕ) → List ℕ → Item → List ℕ
with_entry r computed system own found i = if is_continuing r computed system own i && not (has_number found i.routine) then found ++ i.routine ∷ [] else found

-- the routines of the first items
abbrev pub entries_below : Tables → (computed : Bool) → (system own items : ℕ) → List ℕ
entries_below r computed system own zero = []
entries_below r computed system own (suc n) = with_entry r computed system own (entries_below r computed system own n) (item_at r n)

abbrev pub entries_in : Tables → (computed : Bool) → Option Named → (cell : ℕ) → List ℕ
entries_in r computed None cell = []
entries_in r computed (Some c) cell = entries_below r computed c.system (cell - c.base) (item_count r)

-- those that have a `continue` of the queue of a cell, or may have one by a computed index
abbrev pub entries : Legend → Tables → (computed : Bool) → (cell : ℕ) → List ℕ
entries l r computed cell = entries_in r computed (owner l.components cell) cell

-- ---- who could still come to such a `continue`, and waits

abbrev pub continues_in : Option Named → (cell : ℕ) → Action → Bool
continues_in None cell action = false
continues_in (Some c) cell action = nat_le c.base cell && may_continue (cell - c.base) action

-- a statement of a process that may continue the queue of a cell
abbrev pub continues_cell : Standstill → (process cell : ℕ) → Ahead → Bool
continues_cell s p cell a = a.process == p && nat_lt a.at (item_count s.tables) && continues_in (slice_get s.legend.components a.component) cell (item_at s.tables a.at).action

abbrev pub is_caller : Standstill → (process cell : ℕ) → (other : ℕ) → Bool
is_caller s p cell q = not (q == p) && waits_at s.machine q && list_any (continues_cell s q cell) s.ahead

-- who is inside the monitor at whose gate a process of this status waits
abbrev pub holder_before : Machine → Status → Option ℕ
holder_before m (status.AtGate monitor) = (monitor_at m monitor).holder
holder_before m _ = None

abbrev pub caller_at : Machine → ℕ → Caller
caller_at m q = record { process = q; status = (thread_at m.threads q).status; holder = holder_before m (thread_at m.threads q).status }

abbrev pub callers : Standstill → (process cell : ℕ) → List Caller
callers s p cell = map (caller_at s.machine) (those_below (length s.machine.threads) (is_caller s p cell))

-- ---- of each process that waits in a queue

abbrev pub reason_of : Standstill → (process cell : ℕ) → Reason
reason_of s p cell =
    record {
      process = p;
      queue = cell;
      since = since p 0 0 s.events;
      entries = entries s.legend s.tables false cell;
      perhaps = entries s.legend s.tables true cell;
      in_vain = in_vain (queue_at s.legend cell) [] 0 s.events;
      callers = callers s p cell;
    }

abbrev pub reason_by : Standstill → (process : ℕ) → Status → List Reason
reason_by s p (status.Delayed cell) = reason_of s p cell ∷ []
reason_by s p _ = []

abbrev pub reason_of_wait : Standstill → Waiting → List Reason
reason_of_wait s w = reason_by s w.process w.status

abbrev pub reasons_of : Standstill → List Waiting → List Reason
reasons_of s ws = each (reason_of_wait s) ws

abbrev pub is_all_waiting : OutcomeKind → Bool
is_all_waiting AllWaiting = true
is_all_waiting _ = false

abbrev pub standstill : Legend → Tables → Machine → List Told → Standstill
standstill l r m events = record { legend = l; tables = r; machine = m; events = events; ahead = statements_ahead l r m }

-- where a run ended since all wait
abbrev pub reasons_at : Legend → Tables → Machine → Answer → List Told → List Waiting → List Reason
reasons_at l r m (Ended outcome taken) events ws = if is_all_waiting outcome.kind then reasons_of (standstill l r m events) ws else []
reasons_at l r m _ events ws = []

-- of the first processes, whatever came before
abbrev pub reasons_below : Standstill → (processes : ℕ) → List Reason
reasons_below s zero = []
reasons_below s (suc n) = reasons_below s n ++ reason_by s n (thread_at s.machine.threads n).status

-- of all processes in a state, without the events that led there
abbrev pub reasons_in : Legend → Tables → Machine → List Reason
reasons_in l r m = reasons_below (standstill l r m []) (length m.threads)

-- of the run of a word: its events, the state in which it stopped, and who waits there
abbrev pub reasons_of_run : Legend → Tables → Discipline → (choices steps : ℕ) → List ℕ → List Reason
reasons_of_run l r discipline choices steps word = reasons_at l r (last_state (slots r discipline) choices steps word) (run (slots r discipline) choices steps word) (story_of l r discipline choices steps word) (who_waits l r discipline choices steps word)
