-- What a call or a start names is a component of the routine's system type, and its arguments fit.
use Rattle.std.proofs.Common.{◌≡◌, ◌∙◌, ℕ, ◌+◌, ◌<◌, ◌≤◌, Bool, List, ◌∷◌, length, Option, true, ap, sym, refl, subst, arith, get_or-set_same}
use Rattle.cp_machine.proofs.Words.{◌&&◌, length-append, ActionNames, IsOf, Names, own_of, Tables, RoutineView, component_at, item_at, routine_at, system_at, Action}
use Rattle.cp_machine.proofs.Words.{Call, Start, Item, Argument, ComponentPlace, Bound, Covers, and_left, and_right, Entry, State, frame_behind, open_frame, Machine, Thread}
use Rattle.cp_machine.proofs.Words.{machine_of, no_thread, thread_at, under, with_stack, add_frame, memory_at, rest_of, IsTaken}
use Rattle.std.specs.declared.alloc.Global.{Global}
use Rattle.std.specs.declared.vec.Vec.{Vec}
use Rattle.cp_slots.specs.Inside.{action_inside, arguments_inside, binds_from, component_inside, result_inside}
use Rattle.cp_store.specs.Inside as store
use Rattle.cp_store.proofs.Fitting.{arguments_read, calls_fit, starts_fit}
use Rattle.cp_machine.specs.Reach.{CanCall, CanStart, FitsComponent, FitsNew, FitsOwn, NamesOwner, frame_at}
use Rattle.cp_machine.proofs.frames.Covered.{component_has}
use Rattle.cp_machine.proofs.parameters.ExecutingAct.{process_finds, process_reads}
use Rattle.cp_machine.proofs.parameters.HandingLemmas.{components_grow, hands_below, hands_find, none_find}
use Rattle.cp_machine.proofs.frames.ReachingKept.{executing_of}
use Rattle.cp_machine.proofs.frames.ReadLemmas.{item_inside, own_covers, taken_fits, taken_stands}
use Rattle.cp_machine.proofs.rooms.RoomLemmas.{within}

module _ (r : Tables) (s : State) (pid at : ℕ) (item : Item) (t : IsTaken r s pid at item) where
  abbrev here : Machine
  here = machine_of s

  abbrev view : RoutineView
  view = routine_at r (frame_at here pid).routine

  there : pid < length here.threads
  there = within s pid t.within

  covers : Covers (memory_at here pid) view (frame_at here pid)
  covers = own_covers r s pid at (length (under here pid)) item t.within t.own (taken_stands r s pid at item t) t.same

  inside : (a : Action) → item.action ≡ a → action_inside r view a ≡ true
  inside a is = item_inside r s pid at (length (under here pid)) item t.within t.own (taken_stands r s pid at item t) t.same a is

  names : (a : Action) → item.action ≡ a → ActionNames r view.system a
  names a is =
      let stands = taken_stands r s pid at item t in
      let listed : ActionNames r view.system (item_at r at).action = subst (λ k. ActionNames r (routine_at r k).system (item_at r at).action) stands.nests.same (t.own.sound.typed.actions at stands.nests.place) in
      subst (ActionNames r view.system) (ap (λ i. i.action) (sym t.same) ∙ is) listed

  finds : (place : ComponentPlace) (named : ℕ) → Names r view.system place named → component_inside view place ≡ true → store.FindsComponent here.bindings view (frame_at here pid) place
  finds place named n i = process_reads r here pid there t.own.sound.typed t.own.fits t.ready (t.own.reach.frames pid there) (executing_of r here t.own.reach) view place named n i

  owner : (routine : ℕ) (place : ComponentPlace) → Names r view.system place (routine_at r routine).system → component_inside view place ≡ true → NamesOwner r here pid routine place
  owner routine place n i =
      record {
        found = (view, covers, finds place (routine_at r routine).system n i);
        owner = λ c is. process_finds r here pid there t.own.sound.typed t.own.fits t.ready (t.own.reach.frames pid there) (executing_of r here t.own.reach) place (routine_at r routine).system c n is;
      }

  pub taken_call : (routine : ℕ) (place : ComponentPlace) (is_entry : Bool) (arguments : Vec Argument Global) (slot : Option ℕ) → item.action ≡ Call routine place is_entry arguments slot → CanCall r here pid routine place arguments.items
  taken_call routine place is_entry arguments slot is =
      let callee = routine_at r routine in
      let f = frame_at here pid in
      let xs = arguments.items in
      let fits = taken_fits r s pid at item t (Call routine place is_entry arguments slot) is in
      let named = names (Call routine place is_entry arguments slot) is in
      let i = inside (Call routine place is_entry arguments slot) is in
      let c = component_inside view place in
      let reads = arguments_inside view callee (length callee.image) xs in
      let binds = binds_from (length callee.extents) 0 xs in
      let result = result_inside view callee slot in
      let others = and_right c (reads && (binds && result)) i in
      let read = and_left reads (binds && result) others in
      let bound = and_left binds result (and_right reads (binds && result) others) in
      record {
        component = owner routine place named.0 (and_left c (reads && (binds && result)) i);
        reads = arguments_read (memory_at here pid) here.bindings view callee (length callee.image) f xs covers read (none_find here.bindings view f xs named.2);
        fit = λ component bounds given. calls_fit (memory_at here pid) here.bindings view callee f (frame_behind r (thread_at here.threads pid) routine component) xs bounds covers read bound named.2 given (t.own.sound.routines routine fits.routine).extents refl refl;
      }

  pub taken_start : (place : ComponentPlace) (routine : ℕ) (arguments : Vec Argument Global) → item.action ≡ Start place routine arguments → CanStart r here pid routine place arguments.items
  taken_start place routine arguments is =
      let callee = routine_at r routine in
      let f = frame_at here pid in
      let xs = arguments.items in
      let fits = taken_fits r s pid at item t (Start place routine arguments) is in
      let named = names (Start place routine arguments) is in
      let i = inside (Start place routine arguments) is in
      let c = component_inside view place in
      let reads = arguments_inside view callee callee.own xs in
      let binds = binds_from (length callee.extents) 0 xs in
      let others = and_right c (reads && binds) i in
      let read = and_left reads binds others in
      let bound = and_right reads binds others in
      let owned = owner routine place named.0 (and_left c (reads && binds) i) in
      let same : length callee.extents ≡ callee.references = (t.own.sound.routines routine fits.routine).extents in
      let slots = (system_at r callee.system).own in
      record {
        component = owned;
        reads = arguments_read (memory_at here pid) here.bindings view callee callee.own f xs covers read (hands_find r view.system callee.system here.bindings view callee callee.own f finds xs 0 read named.1);
        fit = λ component bounds found given. starts_fit (memory_at here pid) here.bindings view callee f (component_at r component).base slots xs bounds covers read bound (same ∙ named.2) (hands_below r view.system callee.system slots (t.own.sound.typed.parameters callee.system) xs 0 named.1) given (own_inside routine component fits.routine (owned.owner component found)) (slots_inside routine component (owned.owner component found));
      }
    where
      own_inside : (routine component : ℕ) → routine < length r.routines → IsOf r (routine_at r routine).system component → (component_at r component).base + (routine_at r routine).own ≤ length here.permanents
      own_inside routine component known of = (let has = component_has r routine component t.own.sound.typed known of in omega (arith, has, t.own.fits.permanents))

      slots_inside : (routine component : ℕ) → IsOf r (routine_at r routine).system component → (component_at r component).base + (system_at r (routine_at r routine).system).own ≤ length here.bindings
      slots_inside routine component of =
          (let owns = (t.own.sound.typed.components component of.0).cells in
          let own : own_of r component ≡ (system_at r (routine_at r routine).system).own = ap (λ y. (system_at r y).own) of.1 in
          omega (arith, owns, own, t.own.fits.bindings))

-- ---- where what fits is bound

-- the frame that is opened is the one that is executed
pub opened_fits : (r : Tables) (s : State) (n : Machine) (pid routine component : ℕ) (end : Entry) (rest : List Entry) (arguments : List Argument) (bounds : List Bound) → pid < length s.processes.items → n ≡ open_frame r (machine_of s) pid routine component end rest → FitsNew r (machine_of s) pid routine component arguments bounds → FitsOwn n pid arguments bounds
opened_fits r s n pid routine component end rest arguments bounds lt after h =
    let m = machine_of s in
    let t = thread_at m.threads pid in
    let u : Thread = add_frame (record t { frame = frame_behind r t routine component; stack = rest_of (routine_at r routine).body (end ∷ rest) }) (routine_at r routine) in
    let P : Thread → Type 0 = λ x. store.AllFitFrame (record { permanents = m.permanents; cells = x.cells; references = x.references }) x.frame arguments bounds in
    subst (λ k. FitsOwn k pid arguments bounds) (sym after) (subst P (sym (get_or-set_same m.threads pid u no_thread (within s pid lt))) h)

-- the parameters of a component fit where the control stack changes, and after a frame that is opened
pub replaced_fits : (r : Tables) (s : State) (n : Machine) (pid component : ℕ) (stack : List Entry) (arguments : List Argument) (bounds : List Bound) → pid < length s.processes.items → n ≡ with_stack (machine_of s) pid stack → FitsComponent r (machine_of s) pid component arguments bounds → FitsComponent r n pid component arguments bounds
replaced_fits r s n pid component stack arguments bounds lt after h =
    let m = machine_of s in
    let u : Thread = record (thread_at m.threads pid) { stack = stack } in
    let P : Thread → Type 0 = λ x. store.AllFitComponent (record { permanents = m.permanents; cells = x.cells; references = x.references }) m.bindings (component_at r component).base arguments bounds in
    subst (λ k. FitsComponent r k pid component arguments bounds) (sym after) (subst P (sym (get_or-set_same m.threads pid u no_thread (within s pid lt))) h)

pub begun_fits : (r : Tables) (s : State) (n : Machine) (pid routine component : ℕ) (end : Entry) (rest : List Entry) (arguments : List Argument) (bounds : List Bound) → pid < length s.processes.items → n ≡ open_frame r (machine_of s) pid routine component end rest → FitsComponent r (machine_of s) pid component arguments bounds → FitsComponent r n pid component arguments bounds
begun_fits r s n pid routine component end rest arguments bounds lt after h =
    let m = machine_of s in
    let t = thread_at m.threads pid in
    let u : Thread = add_frame (record t { frame = frame_behind r t routine component; stack = rest_of (routine_at r routine).body (end ∷ rest) }) (routine_at r routine) in
    let P : Thread → Type 0 = λ x. store.AllFitComponent (record { permanents = m.permanents; cells = x.cells; references = x.references }) m.bindings (component_at r component).base arguments bounds in
    let long = length-append t.cells (routine_at r routine).image in
    let more = components_grow (memory_at m pid) (record { permanents = m.permanents; cells = u.cells; references = u.references }) m.bindings (component_at r component).base arguments bounds (omega arith) (omega (arith, long)) h in
    subst (λ k. FitsComponent r k pid component arguments bounds) (sym after) (subst P (sym (get_or-set_same m.threads pid u no_thread (within s pid lt))) more)
