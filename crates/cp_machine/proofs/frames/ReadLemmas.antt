-- What the item that a process takes reads and writes is there.
use Rattle.std.proofs.Common.{◌≡◌, ◌∙◌, ℕ, ◌+◌, ◌-◌, ◌<◌, ◌≤◌, ◌^◌, Bool, true, false, List, length, Option, Some, None, Result, Ok, Err, ap, sym, refl, subst, arith, get_or-set_same, if◌then◌else◌}
use Rattle.std.specs.Prelude.{ℤ, IfOk, ◌&&◌, nat_le, nat_lt, slice_index_or}
use Rattle.std.proofs.lemmas.Bool.{leb-true, ltb-true}
use Rattle.cp_machine.proofs.Words.{ActionFits, InnerFits, Tables, RoutineView, item_at, routine_at, Action, Item, PlaceOrigin, Place, ErrorName, Address, Frame, Covers}
use Rattle.cp_machine.proofs.Words.{Memory, memory_of, nowhere, onward, Entry, ProcessState, State, Machine, Thread, machine_of, no_thread, thread_at, under, with_stack}
use Rattle.cp_machine.proofs.Words.{address_of, memory_at, origin_of, origin_address, EntryFits, HasRoom, IsStateOf, IsTaken}
use Rattle.cp_slots.specs.Inside.{SET_CELLS, action_inside, expression_inside, has, place_room, room_from, set_inside}
use Rattle.cp_slots.specs.declared.item.Action.TheVariants.{Empty, Assign, AssignSet, Copy, Block, If, Case, Assert, While, Until, For, Cycle, Call, Start, Delay, Continue, Display}
use Rattle.cp_slots.specs.declared.place.PlaceOrigin.TheVariants as origin
use Rattle.cp_store.specs.Inside as store
use Rattle.cp_store.proofs.Reaches.{and_left, and_right, has_fewer, have_cells}
use Rattle.cp_machine.specs.Reach.{CanName, CanReach, CanRead, CanReadSet, HasCells, frame_at}
use Rattle.cp_machine.proofs.frames.Covered.{covered}
use Rattle.cp_machine.proofs.rooms.RoomLemmas.{rest_stands, within}
use Rattle.cp_machine.proofs.TakeLemmas.{item_room, item_taken}
use Rattle.cp_machine.proofs.ThreadLemmas.{thread_read}

-- ---- a place and its cells

pub reached_in : (m : Machine) (pid : ℕ) (place : Place) (cells : ℕ) (o : Result Address ErrorName) → o ≡ address_of m pid place → CanReach m pid place cells → IfOk o (λ at. HasCells m pid at cells)
reached_in m pid place cells (Err e) is can = tt
reached_in m pid place cells (Ok at) is (r, covers, room) = go (place_room r place) refl room
  where
    go : (o : Option ℕ) → place_room r place ≡ o → has cells o ≡ true → HasCells m pid at cells
    go (Some left) found enough = has_fewer (memory_at m pid) at left cells (leb-true cells left enough) (have_cells (memory_at m pid) r (frame_at m pid) place left at covers found (sym is))
    go None found enough = absurd (cc)

-- a variable has its cells
begun_has : (m : Memory) (r : RoutineView) (f : Frame) (o : PlaceOrigin) (cells : ℕ) → Covers m r f → has cells (room_from r o) ≡ true → store.HasCells m (origin_address m.references f o) cells
begun_has m r f (origin.Permanent slot) cells covers room = go (nat_le slot r.own) refl room
  where
    go : (b : Bool) → nat_le slot r.own ≡ b → has cells (if b then Some (r.own - slot) else None) ≡ true → onward f.own slot + cells ≤ length m.permanents
    go true there enough = omega (arith, leb-true slot r.own there, leb-true cells (r.own - slot) enough, covers.own, covers.permanents_few)
    go false there enough = absurd (cc)
begun_has m r f (origin.Local slot) cells covers room = go (nat_le slot (length r.image)) refl room
  where
    go : (b : Bool) → nat_le slot (length r.image) ≡ b → has cells (if b then Some (length r.image - slot) else None) ≡ true → onward f.base slot + cells ≤ length m.cells
    go true there enough = omega (arith, leb-true slot (length r.image) there, leb-true cells (length r.image - slot) enough, covers.cells, covers.cells_few)
    go false there enough = absurd (cc)
begun_has m r f (origin.Reference number) cells covers room = go (nat_lt number (length r.extents)) refl room
  where
    go : (b : Bool) → nat_lt number (length r.extents) ≡ b → has cells (if b then Some (slice_index_or r.extents number 0) else None) ≡ true → store.HasCells m (slice_index_or m.references (onward f.references number) nowhere) cells
    go true lt enough =
        let there = ltb-true number (length r.extents) lt in
        let exact : onward f.references number ≡ f.references + number = omega (arith, there, covers.references, covers.references_few) in
        let named = covers.behind number there in
        subst (λ k. store.HasCells m (slice_index_or m.references k nowhere) cells) (sym exact) (has_fewer m _ (slice_index_or r.extents number 0) cells (leb-true cells (slice_index_or r.extents number 0) enough) named)
    go false lt enough = absurd (cc)

-- and is begun at a number of a machine word, or at a place that is there
pub begins : (m : Memory) (r : RoutineView) (f : Frame) (o : PlaceOrigin) (cells : ℕ) → Covers m r f → has cells (room_from r o) ≡ true → store.Begins m.references f o
begins m r f (origin.Permanent slot) cells covers room = go (nat_le slot r.own) refl room
  where
    go : (b : Bool) → nat_le slot r.own ≡ b → has cells (if b then Some (r.own - slot) else None) ≡ true → f.own + slot < 2 ^ 64
    go true there enough = omega (arith, leb-true slot r.own there, covers.own, covers.permanents_few)
    go false there enough = absurd (cc)
begins m r f (origin.Local slot) cells covers room = go (nat_le slot (length r.image)) refl room
  where
    go : (b : Bool) → nat_le slot (length r.image) ≡ b → has cells (if b then Some (length r.image - slot) else None) ≡ true → f.base + slot < 2 ^ 64
    go true there enough = omega (arith, leb-true slot (length r.image) there, covers.cells, covers.cells_few)
    go false there enough = absurd (cc)
begins m r f (origin.Reference number) cells covers room = go (nat_lt number (length r.extents)) refl room
  where
    go : (b : Bool) → nat_lt number (length r.extents) ≡ b → has cells (if b then Some (slice_index_or r.extents number 0) else None) ≡ true → f.references + number < length m.references
    go true lt enough = omega (arith, ltb-true number (length r.extents) lt, covers.references)
    go false lt enough = absurd (cc)

pub named_in : (m : Machine) (pid : ℕ) (o : PlaceOrigin) (cells : ℕ) (at : Address) → at ≡ origin_of m pid o → CanName m pid o cells → HasCells m pid at cells
named_in m pid o cells at is (r, covers, room) = subst (λ a. HasCells m pid a cells) (sym is) (begun_has (memory_at m pid) r (frame_at m pid) o cells covers room)

-- ---- the memory of a process

-- what is known of the memory and the frame of a process, at its own cells
pub own_memory : (P : Memory → Frame → Type 0) (s : State) (pid : ℕ) (p : ProcessState) (permanents : List ℤ) → pid < length s.processes.items → p ≡ slice_index_or s.processes.items pid p → permanents ≡ s.permanents.items → P (memory_at (machine_of s) pid) (frame_at (machine_of s) pid) → P (memory_of permanents p.room) p.frame
own_memory P s pid p permanents lt read same h =
    let Q : Thread → Type 0 = λ t. P (record { permanents = s.permanents.items; cells = t.cells; references = t.references }) t.frame in
    subst (λ ps. P (memory_of ps p.room) p.frame) (sym same) (subst Q (thread_read s.processes.items pid p lt read) h)

pub whole_memory : (P : Memory → Frame → Type 0) (s : State) (pid : ℕ) (p : ProcessState) (permanents : List ℤ) → pid < length s.processes.items → p ≡ slice_index_or s.processes.items pid p → permanents ≡ s.permanents.items → P (memory_of permanents p.room) p.frame → P (memory_at (machine_of s) pid) (frame_at (machine_of s) pid)
whole_memory P s pid p permanents lt read same h =
    let Q : Thread → Type 0 = λ t. P (record { permanents = s.permanents.items; cells = t.cells; references = t.references }) t.frame in
    subst Q (sym (thread_read s.processes.items pid p lt read)) (subst (λ ps. P (memory_of ps p.room) p.frame) same h)

-- cells stay where the control stack changes
pub still_has : (s : State) (pid : ℕ) (stack : List Entry) (n : Machine) (at : Address) (cells : ℕ) → pid < length s.processes.items → n ≡ with_stack (machine_of s) pid stack → HasCells (machine_of s) pid at cells → HasCells n pid at cells
still_has s pid stack n at cells lt after h =
    let m = machine_of s in
    let t : Thread = record (thread_at m.threads pid) { stack = stack } in
    let Q : Thread → Type 0 = λ u. store.HasCells (record { permanents = m.permanents; cells = u.cells; references = u.references }) at cells in
    subst (λ k. HasCells k pid at cells) (sym after) (subst Q (sym (get_or-set_same m.threads pid t no_thread (within s pid lt))) h)

-- ---- an item

-- what an item reads and writes
abbrev pub ActionReads : Machine → (pid : ℕ) → Action → Type 0
ActionReads m pid (Assign target value low high) = CanRead m pid value × CanReach m pid target 1
ActionReads m pid (AssignSet target value low high) = CanReadSet m pid value × CanReach m pid target SET_CELLS
ActionReads m pid (Copy target source size) = CanReach m pid source size × CanReach m pid target size
ActionReads m pid (If test list other) = CanRead m pid test
ActionReads m pid (Case selector arms) = CanRead m pid selector
ActionReads m pid (Assert test said) = CanRead m pid test
ActionReads m pid (While test body again) = CanRead m pid test
ActionReads m pid (Until test body again) = CanRead m pid test
ActionReads m pid (For variable low high from to down body) = CanName m pid variable 1 × CanRead m pid from × CanRead m pid to
ActionReads m pid (Delay place) = CanReach m pid place 1
ActionReads m pid (Continue place) = CanReach m pid place 1
ActionReads m pid (Display value kind) = CanRead m pid value
ActionReads m pid _ = Unit {0}

module _ (r : Tables) (m : Machine) (pid : ℕ) (v : RoutineView) (covers : Covers (memory_at m pid) v (frame_at m pid)) where
  inside_reads : (a : Action) → action_inside r v a ≡ true → ActionReads m pid a
  inside_reads Empty i = tt
  inside_reads (Assign target value low high) i = ((v, covers, and_left (expression_inside v value) _ i), (v, covers, and_right (expression_inside v value) _ i))
  inside_reads (AssignSet target value low high) i = ((v, covers, and_left (set_inside v value) _ i), (v, covers, and_right (set_inside v value) _ i))
  inside_reads (Copy target source size) i = ((v, covers, and_left (has size (place_room v source)) _ i), (v, covers, and_right (has size (place_room v source)) _ i))
  inside_reads (Block list) i = tt
  inside_reads (For variable low high from to down body) i =
      let bounds = and_right (has 1 (room_from v variable)) (expression_inside v from && expression_inside v to) i in
      ((v, covers, and_left (has 1 (room_from v variable)) _ i), (v, covers, and_left (expression_inside v from) (expression_inside v to) bounds), (v, covers, and_right (expression_inside v from) (expression_inside v to) bounds))
  inside_reads (Cycle list) i = tt
  inside_reads (Call routine component is_entry arguments result) i = tt
  inside_reads (Start component routine arguments) i = tt
  inside_reads _ i = (v, covers, i)

-- an item in the routine of the frame that a process executes
module _ (r : Tables) (s : State) (pid at below : ℕ) (item : Item) (lt : pid < length s.processes.items) (own : IsStateOf r s) (stands : EntryFits r (frame_at (machine_of s) pid) at below) (same : item ≡ item_at r at) where
  pub own_covers : Covers (memory_at (machine_of s) pid) (routine_at r (frame_at (machine_of s) pid).routine) (frame_at (machine_of s) pid)
  own_covers = covered r (machine_of s) pid (within s pid lt) own.sound own.sound.typed own.fits (own.reach.frames pid (within s pid lt))

  pub item_inside : (a : Action) → item.action ≡ a → action_inside r (routine_at r (frame_at (machine_of s) pid).routine) a ≡ true
  item_inside a is =
      let here : action_inside r (routine_at r (frame_at (machine_of s) pid).routine) (item_at r at).action ≡ true = subst (λ k. action_inside r (routine_at r k) (item_at r at).action ≡ true) stands.nests.same (own.sound.inside at stands.nests.place) in
      subst (λ x. action_inside r (routine_at r (frame_at (machine_of s) pid).routine) x ≡ true) (ap (λ i. i.action) (sym same) ∙ is) here

  pub item_reads : (a : Action) → item.action ≡ a → ActionReads (machine_of s) pid a
  item_reads a is = inside_reads r (machine_of s) pid _ own_covers a (item_inside a is)

-- the item that is the topmost entry
module _ (r : Tables) (s : State) (pid at : ℕ) (item : Item) (t : IsTaken r s pid at item) where
  pub taken_stands : EntryFits r (frame_at (machine_of s) pid) at (length (under (machine_of s) pid))
  taken_stands = rest_stands r s pid at (under (machine_of s) pid) t.within t.own.fits t.top

  pub taken_reads : (a : Action) → item.action ≡ a → ActionReads (machine_of s) pid a
  taken_reads a is = item_reads r s pid at (length (under (machine_of s) pid)) item t.within t.own taken_stands t.same a is

  pub taken_fits : (a : Action) → item.action ≡ a → ActionFits r (frame_at (machine_of s) pid).routine (item_at r at).need a
  taken_fits a is = item_taken r s pid at (under (machine_of s) pid) item t.within t.own t.top t.same a is

  pub taken_room : (list : Option ℕ) → InnerFits r (frame_at (machine_of s) pid).routine (item_at r at).need list → HasRoom s pid list
  taken_room list i = item_room r s pid at (under (machine_of s) pid) item t.within t.own t.top t.same list i
